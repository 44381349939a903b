use Rattle.std.proofs.Common.{◌≡◌, ◌≤◌, ◌<◌, ℕ, Bool, List, length, arith}
use Rattle.std.proofs.lemmas.Bool.{and_parts}
use Rattle.diagram_defs.specs.Sets.{widened_set}
use Rattle.diagram_defs.specs.Parts.{GrowsBy, IsPartOf}
use Rattle.diagram_defs.proofs.PartLemmas.{GrowsBy_wider, passed_cause}
use Rattle.state_build.specs.ValueTests.{chosen_set, value_set}
use Rattle.diagram_defs.proofs.LocalSets.{whole_parts, local_made}
use Rattle.state_build.proofs.Pairing.{level_in}
use Rattle.state_build.proofs.Singles.{list_read, chosen_whole}
use Rattle.state_build.proofs.conditions.value_states.Goals as goal
use Rattle.state_build.proofs.conditions.value_states.Goals.{After-chosen}

inside : (c : After-chosen) → c.args.supply < length c.args.pool.now.arities
inside c = level_in c.args.lists.now c.args.pool.now.arities c.args.supply c.requires.lists c.requires.level

same : (c : After-chosen) (state : List ℕ) → widened_set c.args.pool.now 0 c.args.supply (chosen_set c.args.pool.now.arities c.args.supply c.as_slice-values.result.now c.args.test) state ≡ value_set c.args.pool.now.arities c.args.lists.now c.args.supply c.args.test state
same c =
    chosen_whole c.args.pool.now c.chosen.ensures.grows.grows.was c.args.lists.now c.args.supply (inside c) c.as_slice-values.result.now (list_read c.args.lists.now c.args.supply c.as_slice-values.result.now c.index-lists-supply.result c.requires.level c.index-lists-supply.is c.as_slice-values.ensures.items) c.args.test

fits : (c : After-chosen) → c.args.supply ≤ length c.args.pool.now.arities
fits c = let i = inside c in omega arith

parts : (c : After-chosen) (l : ℕ) (part : List ℕ → Bool) → IsPartOf (length c.args.pool.now.arities) c.args.supply (chosen_set c.args.pool.now.arities c.args.supply c.as_slice-values.result.now c.args.test) l part → IsPartOf (length c.args.pool.now.arities) 0 (value_set c.args.pool.now.arities c.args.lists.now c.args.supply c.args.test) l part
parts c =
    whole_parts c.args.pool.now c.args.supply (fits c) (chosen_set c.args.pool.now.arities c.args.supply c.as_slice-values.result.now c.args.test) (value_set c.args.pool.now.arities c.args.lists.now c.args.supply c.args.test) (same c) c.chosen.ensures.grows.grows.was (record { each = λ rest e. (and_parts _ _ e).0 })

grown : (c : After-chosen) → GrowsBy (IsPartOf (length c.args.pool.now.arities) 0 (value_set c.args.pool.now.arities c.args.lists.now c.args.supply c.args.test)) c.args.pool.now c.chosen.new.pool
grown c = GrowsBy_wider _ _ c.args.pool.now c.chosen.new.pool (parts c) c.chosen.ensures.grows

pub returns-in_err-number-clause-grows : goal.returns-in_err-number-clause-grows
returns-in_err-number-clause-grows c = grown (goal.at.returns-in_err-number-clause-grows c).After-chosen

pub returns-in_err-number-clause-cause : goal.returns-in_err-number-clause-cause
returns-in_err-number-clause-cause c =
    passed_cause _ _ c.chosen.new.pool c.from_residual.result c.in_err-number.field-0.0 c.from_residual.ensures.1 (parts (goal.at.returns-in_err-number-clause-cause c).After-chosen) c.in_err-number.ensures.cause

pub returns-clause-number : goal.returns-clause-number
returns-clause-number c =
    let at = (goal.at.returns-clause-number c).After-chosen in
    local_made c.args.pool.now c.args.supply (fits at) (chosen_set c.args.pool.now.arities c.args.supply c.as_slice-values.result.now c.args.test) (value_set c.args.pool.now.arities c.args.lists.now c.args.supply c.args.test) (same at) c.chosen.new.pool c.in_ok-number.number c.in_ok-number.ensures.grows.grows c.in_ok-number.ensures.number

pub returns-clause-grows : goal.returns-clause-grows
returns-clause-grows c = grown (goal.at.returns-clause-grows c).After-chosen
