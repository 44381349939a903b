use Rattle.std.proofs.Common.{ℕ, Bool, List, length}
use Rattle.diagram_defs.specs.Diagrams.{member}
use Rattle.diagram_defs.specs.Sets.{widened_set}
use Rattle.diagram_defs.specs.Parts.{IsPartOf}
use Rattle.diagram_defs.proofs.PartLemmas.{GrowsBy_step, IsPartOf_grown, refused_wider, same_made}
use Rattle.state_build.specs.Entries.{IsPartOfEntry}
use Rattle.state_build.proofs.Entering.{own_parts}
use Rattle.diagram_defs.proofs.Yielding.{value_of, reason_of}
use Rattle.state_build.proofs.conditions.build.Goals as goal
use Rattle.state_build.proofs.conditions.build.Goals.{After-widen}

parts : (c : After-widen) (l : ℕ) (part : List ℕ → Bool) → IsPartOf (length c.local_of.new.pool.arities) 0 (widened_set c.local_of.new.pool 0 c.in_ok-local.local.level (member c.local_of.new.pool.nodes c.in_ok-local.local.number)) l part → IsPartOfEntry c.args.pool.now.arities c.args.lists.now c.args.cond.now l part
parts c l part p =
    own_parts c.args.pool.now.arities c.args.lists.now c.args.cond.now l part (IsPartOf_grown c.args.pool.now c.local_of.new.pool 0 _ _ c.in_ok-local.ensures.grows.grows c.in_ok-local.ensures.number.same l part p)

pub returns-clause-number : goal.returns-clause-number
returns-clause-number c = same_made c.local_of.new.pool c.widen.new.self 0 _ _ c.in_ok-local.ensures.number.same c.widen.result (value_of _ _ c.widen.result c.widen.ensures)

pub returns-clause-grows : goal.returns-clause-grows
returns-clause-grows c =
    GrowsBy_step _ _ c.args.pool.now c.local_of.new.pool c.widen.new.self c.in_ok-local.ensures.grows (parts (goal.at.returns-clause-grows c).After-widen) c.widen.ensures.0

pub returns-clause-cause : goal.returns-clause-cause
returns-clause-cause c = refused_wider _ _ c.widen.new.self c.widen.result (parts (goal.at.returns-clause-cause c).After-widen) (reason_of _ _ c.widen.result c.widen.ensures)
