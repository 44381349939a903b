use Rattle.std.proofs.Common.{◌≡◌, ◌<◌, ℕ, Bool, List, length, subst, sym, arith}
use Rattle.diagram_defs.specs.Diagrams.{IsNumberFor, AreKidsFor}
use Rattle.diagram_defs.specs.Sets.{case_set, widened_set}
use Rattle.diagram_defs.specs.Parts.{GrowsBy, IsPartOf}
use Rattle.diagram_defs.proofs.PartLemmas.{GrowsBy_step, GrowsBy_wider, passed_cause}
use Rattle.diagram_defs.proofs.Growth.{Grows_trans}
use Rattle.diagram_defs.proofs.Steps.{AreKids_for, kids_number, kids_parts}
use Rattle.state_build.specs.Built.{value_of}
use Rattle.state_build.specs.ValueTests.{is_far, pair_set, apart_set}
use Rattle.state_build.proofs.Tested.{AreRests_tested, tested_parts, tested_widened}
use Rattle.diagram_defs.proofs.LocalSets.{local_made}
use Rattle.state_build.proofs.Pairing.{level_in, pair_test, pair_whole}
use Rattle.state_build.proofs.pairs.pairs.Goals as goal
use Rattle.state_build.proofs.pairs.pairs.Goals.{After-pair_kids, After-as_slice, After-case, In_ok-number}

first_in : (c : After-pair_kids) → c.args.first < length c.args.pool.now.arities
first_in c =
    let o = c.requires.order in let b = c.requires.level_in in
    level_in c.args.lists.now c.args.pool.now.arities c.args.first c.requires.lists (omega arith)

-- a part from the first level on is a part of the whole states
wide_parts : (c : After-pair_kids) (l : ℕ) (part : List ℕ → Bool) → IsPartOf (length c.args.pool.now.arities) c.args.first (pair_set c.args.pool.now.arities c.args.lists.now c.args.first c.args.second c.args.side c.args.by) l part → IsPartOf (length c.args.pool.now.arities) 0 (apart_set c.args.pool.now.arities c.args.lists.now c.args.first c.args.second c.args.side c.args.by) l part
wide_parts c =
    let inside = first_in c in
    tested_parts c.args.pool.now c.pair_kids.ensures.grows.grows.was 0 c.args.first (omega arith) (omega arith) (pair_test c.args.lists.now c.args.first c.args.second c.args.side c.args.by) (λ state. is_far c.args.side (value_of c.args.lists.now state c.args.first) c.args.by (value_of c.args.lists.now state c.args.second)) (λ state. pair_whole c.args.lists.now c.args.first c.args.second c.args.side c.args.by state c.requires.order)

kids_grown : (c : After-pair_kids) → GrowsBy (IsPartOf (length c.args.pool.now.arities) 0 (apart_set c.args.pool.now.arities c.args.lists.now c.args.first c.args.second c.args.side c.args.by)) c.args.pool.now c.pair_kids.new.pool
kids_grown c = GrowsBy_wider _ _ c.args.pool.now c.pair_kids.new.pool (wide_parts c) c.pair_kids.ensures.grows

pub returns-in_err-kids-clause-grows : goal.returns-in_err-kids-clause-grows
returns-in_err-kids-clause-grows c = kids_grown (goal.at.returns-in_err-kids-clause-grows c).After-pair_kids

pub returns-in_err-kids-clause-cause : goal.returns-in_err-kids-clause-cause
returns-in_err-kids-clause-cause c =
    passed_cause _ _ c.pair_kids.new.pool c.from_residual.result c.in_err-kids.field-0.0 c.from_residual.ensures.1 (wide_parts (goal.at.returns-in_err-kids-clause-cause c).After-pair_kids) c.in_err-kids.ensures.cause

kids : (c : After-as_slice) → AreKidsFor c.pair_kids.new.pool c.args.first (pair_set c.args.pool.now.arities c.args.lists.now c.args.first c.args.second c.args.side c.args.by) c.as_slice.result.now
kids c =
    subst (AreKidsFor c.pair_kids.new.pool c.args.first (pair_set c.args.pool.now.arities c.args.lists.now c.args.first c.args.second c.args.side c.args.by)) (sym c.as_slice.ensures.value) c.in_ok-kids.ensures.kids

pub case-requires-clause-level_in : goal.case-requires-clause-level_in
case-requires-clause-level_in c =
    subst (λ (arities : List ℕ). c.args.first < length arities) (sym c.in_ok-kids.ensures.grows.grows.arities) (first_in (goal.at.case-requires-clause-level_in c).After-pair_kids)

pub case-requires-clause-arity : goal.case-requires-clause-arity
case-requires-clause-arity c = (kids (goal.at.case-requires-clause-arity c).After-as_slice).arity

pub case-requires-clause-below : goal.case-requires-clause-below
case-requires-clause-below c =
    AreKids_for c.pair_kids.new.pool c.args.first (pair_set c.args.pool.now.arities c.args.lists.now c.args.first c.args.second c.args.side c.args.by) c.as_slice.result.now (kids (goal.at.case-requires-clause-below c).After-as_slice)

case_parts : (c : After-case) (l : ℕ) (part : List ℕ → Bool) → IsPartOf (length c.pair_kids.new.pool.arities) c.args.first (case_set c.pair_kids.new.pool.nodes c.as_slice.result.now) l part → IsPartOf (length c.args.pool.now.arities) 0 (apart_set c.args.pool.now.arities c.args.lists.now c.args.first c.args.second c.args.side c.args.by) l part
case_parts c l part p =
    let before = (goal.at-After-case c).After-pair_kids in
    wide_parts before l part (kids_parts c.args.pool.now c.pair_kids.new.pool c.args.first (pair_set c.args.pool.now.arities c.args.lists.now c.args.first c.args.second c.args.side c.args.by) c.as_slice.result.now c.in_ok-kids.ensures.grows.grows (first_in before) (AreRests_tested c.args.pool.now c.args.first (pair_test c.args.lists.now c.args.first c.args.second c.args.side c.args.by)) (kids (goal.at-After-case c).After-as_slice) l part p)

case_grown : (c : After-case) → GrowsBy (IsPartOf (length c.args.pool.now.arities) 0 (apart_set c.args.pool.now.arities c.args.lists.now c.args.first c.args.second c.args.side c.args.by)) c.args.pool.now c.case.new.self
case_grown c = GrowsBy_step _ _ c.args.pool.now c.pair_kids.new.pool c.case.new.self (kids_grown (goal.at-After-case c).After-pair_kids) (case_parts c) c.case.ensures.0

pub returns-in_err-number-clause-grows : goal.returns-in_err-number-clause-grows
returns-in_err-number-clause-grows c = case_grown (goal.at.returns-in_err-number-clause-grows c).After-case

pub returns-in_err-number-clause-cause : goal.returns-in_err-number-clause-cause
returns-in_err-number-clause-cause c =
    passed_cause _ _ c.case.new.self c.from_residual-in_err-number.result c.in_err-number.field-0.0 c.from_residual-in_err-number.ensures.1 (case_parts (goal.at.returns-in_err-number-clause-cause c).After-case) c.in_err-number.ensures.1

number : (c : In_ok-number) → IsNumberFor c.case.new.self c.args.first (pair_set c.args.pool.now.arities c.args.lists.now c.args.first c.args.second c.args.side c.args.by) c.in_ok-number.number
number c =
    let at = goal.at-In_ok-number c in
    kids_number c.args.pool.now c.pair_kids.new.pool c.args.first (pair_set c.args.pool.now.arities c.args.lists.now c.args.first c.args.second c.args.side c.args.by) c.as_slice.result.now c.in_ok-kids.ensures.grows.grows (first_in at.After-pair_kids) (AreRests_tested c.args.pool.now c.args.first (pair_test c.args.lists.now c.args.first c.args.second c.args.side c.args.by)) (kids at.After-as_slice) c.case.new.self c.in_ok-number.number c.in_ok-number.ensures.1

same : (c : After-pair_kids) (state : List ℕ) → widened_set c.args.pool.now 0 c.args.first (pair_set c.args.pool.now.arities c.args.lists.now c.args.first c.args.second c.args.side c.args.by) state ≡ apart_set c.args.pool.now.arities c.args.lists.now c.args.first c.args.second c.args.side c.args.by state
same c =
    let inside = first_in c in
    tested_widened c.args.pool.now c.pair_kids.ensures.grows.grows.was 0 c.args.first (omega arith) (omega arith) (pair_test c.args.lists.now c.args.first c.args.second c.args.side c.args.by) (λ state. is_far c.args.side (value_of c.args.lists.now state c.args.first) c.args.by (value_of c.args.lists.now state c.args.second)) (λ state. pair_whole c.args.lists.now c.args.first c.args.second c.args.side c.args.by state c.requires.order)

pub returns-clause-number : goal.returns-clause-number
returns-clause-number c =
    let at = goal.at.returns-clause-number c in
    let inside = first_in at.After-pair_kids in
    local_made c.args.pool.now c.args.first (omega arith) (pair_set c.args.pool.now.arities c.args.lists.now c.args.first c.args.second c.args.side c.args.by) (apart_set c.args.pool.now.arities c.args.lists.now c.args.first c.args.second c.args.side c.args.by) (same at.After-pair_kids) c.case.new.self c.in_ok-number.number (Grows_trans _ _ _ c.in_ok-kids.ensures.grows.grows c.in_ok-number.ensures.0.grows) (number at.In_ok-number)

pub returns-clause-grows : goal.returns-clause-grows
returns-clause-grows c = case_grown (goal.at.returns-clause-grows c).After-case
