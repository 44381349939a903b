use Rattle.std.proofs.Common.{◌≡◌, ◌≤◌, ◌+◌, ◌-◌, ℕ, Bool, List, length, get_or, drop, ap, ◌∙◌, arith, slice_index, slice_index_or}
use Rattle.std.proofs.lemmas.List.{get_or-drop}
use Rattle.pw_defs.specs.declared.values.Value.TheVariants.{Off}
use Rattle.diagram_defs.specs.Diagrams.{member}
use Rattle.diagram_defs.specs.Sets.{widened_set}
use Rattle.diagram_defs.specs.Parts.{GrowsBy, IsPartOf}
use Rattle.diagram_defs.proofs.PartLemmas.{GrowsBy_step, GrowsBy_wider, passed_cause, refused_wider, same_made}
use Rattle.state_build.specs.ValueTests.{chosen_set, passing_set, passes}
use Rattle.state_build.proofs.Tested.{tested_parts, tested_grown, tested_grown_parts}
use Rattle.diagram_defs.proofs.Yielding.{value_of, reason_of}
use Rattle.state_build.proofs.levels.passing.Goals as goal
use Rattle.state_build.proofs.levels.passing.Goals.{After-chosen, After-widen}

-- the value at the later level
agree : (c : After-chosen) (rest : List ℕ) → passes c.args.test (slice_index_or c.args.values.now (slice_index (drop (c.args.at - c.args.level) rest) 0) Off) ≡ passes c.args.test (slice_index_or c.args.values.now (slice_index rest (c.args.at - c.args.level)) Off)
agree c rest =
    let place : c.args.at - c.args.level + 0 ≡ c.args.at - c.args.level = omega arith in
    ap (λ (v : ℕ). passes c.args.test (slice_index_or c.args.values.now v Off)) (get_or-drop (c.args.at - c.args.level) rest 0 0 ∙ ap (λ (k : ℕ). get_or rest k 0) place)

fits : (c : After-chosen) → c.args.at ≤ length c.args.pool.now.arities
fits c = let inside = c.requires.level_in in omega arith

chosen_parts : (c : After-chosen) (l : ℕ) (part : List ℕ → Bool) → IsPartOf (length c.args.pool.now.arities) c.args.at (chosen_set c.args.pool.now.arities c.args.at c.args.values.now c.args.test) l part → IsPartOf (length c.args.pool.now.arities) c.args.level (passing_set c.args.pool.now.arities c.args.level c.args.at c.args.values.now c.args.test) l part
chosen_parts c =
    tested_parts c.args.pool.now c.chosen.ensures.grows.grows.was c.args.level c.args.at c.requires.order (fits c) (λ rest. passes c.args.test (slice_index_or c.args.values.now (slice_index rest 0) Off)) (λ rest. passes c.args.test (slice_index_or c.args.values.now (slice_index rest (c.args.at - c.args.level)) Off)) (agree c)

chosen_grown : (c : After-chosen) → GrowsBy (IsPartOf (length c.args.pool.now.arities) c.args.level (passing_set c.args.pool.now.arities c.args.level c.args.at c.args.values.now c.args.test)) c.args.pool.now c.chosen.new.pool
chosen_grown c = GrowsBy_wider _ _ c.args.pool.now c.chosen.new.pool (chosen_parts c) c.chosen.ensures.grows

pub returns-in_err-n-clause-grows : goal.returns-in_err-n-clause-grows
returns-in_err-n-clause-grows c = chosen_grown (goal.at.returns-in_err-n-clause-grows c).After-chosen

pub returns-in_err-n-clause-cause : goal.returns-in_err-n-clause-cause
returns-in_err-n-clause-cause c =
    passed_cause _ _ c.chosen.new.pool c.from_residual.result c.in_err-n.field-0.0 c.from_residual.ensures.1 (chosen_parts (goal.at.returns-in_err-n-clause-cause c).After-chosen) c.in_err-n.ensures.cause

same : (c : After-widen) (rest : List ℕ) → widened_set c.chosen.new.pool c.args.level c.args.at (member c.chosen.new.pool.nodes c.in_ok-n.n) rest ≡ passing_set c.args.pool.now.arities c.args.level c.args.at c.args.values.now c.args.test rest
same c =
    let before = (goal.at-After-widen c).After-chosen in
    tested_grown c.args.pool.now c.chosen.ensures.grows.grows.was c.args.level c.args.at c.requires.order (fits before) (λ rest. passes c.args.test (slice_index_or c.args.values.now (slice_index rest 0) Off)) (λ rest. passes c.args.test (slice_index_or c.args.values.now (slice_index rest (c.args.at - c.args.level)) Off)) (agree before) c.chosen.new.pool c.in_ok-n.n c.chosen.ensures.grows.grows c.in_ok-n.ensures.number

parts : (c : After-widen) (l : ℕ) (part : List ℕ → Bool) → IsPartOf (length c.chosen.new.pool.arities) c.args.level (widened_set c.chosen.new.pool c.args.level c.args.at (member c.chosen.new.pool.nodes c.in_ok-n.n)) l part → IsPartOf (length c.args.pool.now.arities) c.args.level (passing_set c.args.pool.now.arities c.args.level c.args.at c.args.values.now c.args.test) l part
parts c =
    let before = (goal.at-After-widen c).After-chosen in
    tested_grown_parts c.args.pool.now c.chosen.ensures.grows.grows.was c.args.level c.args.at c.requires.order (fits before) (λ rest. passes c.args.test (slice_index_or c.args.values.now (slice_index rest 0) Off)) (λ rest. passes c.args.test (slice_index_or c.args.values.now (slice_index rest (c.args.at - c.args.level)) Off)) (agree before) c.chosen.new.pool c.in_ok-n.n c.chosen.ensures.grows.grows c.in_ok-n.ensures.number

pub returns-clause-number : goal.returns-clause-number
returns-clause-number c =
    same_made c.chosen.new.pool c.widen.new.self c.args.level _ _ (same (goal.at.returns-clause-number c).After-widen) c.widen.result (value_of _ _ c.widen.result c.widen.ensures)

pub returns-clause-grows : goal.returns-clause-grows
returns-clause-grows c =
    let at = goal.at.returns-clause-grows c in
    GrowsBy_step _ _ c.args.pool.now c.chosen.new.pool c.widen.new.self (chosen_grown at.After-chosen) (parts at.After-widen) c.widen.ensures.0

pub returns-clause-cause : goal.returns-clause-cause
returns-clause-cause c =
    refused_wider _ _ c.widen.new.self c.widen.result (parts (goal.at.returns-clause-cause c).After-widen) (reason_of _ _ c.widen.result c.widen.ensures)
