use Rattle.diagram_defs.specs.Locals.{IsLocalFor}
use Rattle.diagram_defs.specs.Parts.{GrowsBy}
use Rattle.diagram_defs.proofs.LocalSets.{local_same}
use Rattle.diagram_defs.proofs.PartLemmas.{GrowsBy_wider, IsCause_wider}
use Rattle.diagram_defs.proofs.Yielding.{Yields_last}
use Rattle.state_meets.specs.Gathered.{gathered_set}
use Rattle.state_meets.specs.Fronts.{IsPartOfFront}
use Rattle.state_meets.proofs.FrontLemmas.{AreLocals_grow, gathered_grows, all_parts, front_grown}
use Rattle.state_meets.proofs.Reasons.{table_cause}
use Rattle.state_meets.proofs.fronts.joined.Goals as goal
use Rattle.state_meets.proofs.fronts.joined.Goals.{After-gather}

-- what the walk over all sets added
grown : (c : After-gather) → GrowsBy (IsPartOfFront c.args.pool.now c.args.which c.args.sets.now) c.args.pool.now c.gather.new.pool
grown c = GrowsBy_wider _ _ c.args.pool.now c.gather.new.pool (all_parts c.args.pool.now c.args.which c.args.sets.now) c.gather.ensures.0

pub joined_in_turn-requires : goal.joined_in_turn-requires
joined_in_turn-requires c = AreLocals_grow c.args.pool.now c.gather.new.pool c.args.sets.now c.gather.ensures.0.grows c.requires

pub returns-in-Ok : goal.returns-in-Ok
returns-in-Ok c = (grown (goal.at.returns-in-Ok c).After-gather, c.in-Ok.ensures.1)

pub returns-in-Err-Table : goal.returns-in-Err-Table
returns-in-Err-Table c =
    (grown (goal.at.returns-in-Err-Table c).After-gather, IsCause_wider _ _ (all_parts c.args.pool.now c.args.which c.args.sets.now) c.gather.new.pool c.in-Err-Table.fault (table_cause c.gather.new.pool _ c.in-Err-Table.field-0 c.in-Err-Table.fault c.in-Err-Table.field-0-is c.in-Err-Table.ensures.1))

pub returns-in-Err-GivenUp : goal.returns-in-Err-GivenUp
returns-in-Err-GivenUp c =
    let old = c.args.pool.now in
    let mid = c.gather.new.pool in
    let new = c.joined_in_turn.new.pool in
    let which = c.args.which in
    let sets = c.args.sets.now in
    let g = c.gather.ensures.0.grows in
    Yields_last (IsLocalFor new (gathered_set mid which sets)) (IsLocalFor new (gathered_set old which sets)) c.joined_in_turn.result (grown (goal.at.returns-in-Err-GivenUp c).After-gather) (front_grown old mid which sets g c.requires) (λ local is. local_same new (gathered_set mid which sets) (gathered_set old which sets) local (λ state. gathered_grows old mid which sets state g c.requires) is) c.joined_in_turn.ensures
