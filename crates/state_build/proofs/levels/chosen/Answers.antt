use Rattle.std.proofs.Common.{◌≡◌, ◌<◌, ◌+◌, ℕ, Bool, List, ◌∷◌, length, get_or, subst, sym, ap, ◌∙◌, arith, slice_index, slice_index_or, Result, IfOk, Ok, Err}
use Rattle.pw_defs.specs.declared.values.Value.TheVariants.{Off}
use Rattle.plain_lists.specs.declared.faults.DiagFault.{DiagFault}
use Rattle.diagram_defs.specs.Diagrams.{IsNumberFor, AreKidsFor}
use Rattle.diagram_defs.specs.Parts.{GrowsBy, IsPartOf}
use Rattle.diagram_defs.specs.Sets.{case_set}
use Rattle.diagram_defs.proofs.PartLemmas.{GrowsBy_none, GrowsBy_step, passed_cause, refused_wider}
use Rattle.diagram_defs.proofs.Growth.{IsNumberFor_same}
use Rattle.diagram_defs.proofs.Steps.{AreKids_for, AreKidsSo, AreKidsSo_none, AreKidsSo_more, AreKidsSo_all, kids_number, kids_parts, value_parts}
use Rattle.state_build.specs.ValueTests.{guarded_set, chosen_set, passes}
use Rattle.state_build.proofs.Tested.{AreRests_tested, tested_behind}
use Rattle.diagram_defs.proofs.Yielding.{value_of, reason_of}
use Rattle.state_build.proofs.levels.chosen.Goals as goal
use Rattle.state_build.proofs.levels.chosen.Goals.{After-guarded, After-as_slice, After-case}

pub loop-value-init : goal.loop-value-init
loop-value-init c = record {
  grows = GrowsBy_none _ c.args.pool.now c.allocator.ensures;
  kids = subst (AreKidsSo c.args.pool.now c.args.level (chosen_set c.args.pool.now.arities c.args.level c.args.values.now c.args.test) 0) (sym c.new-kids.ensures.items) (AreKidsSo_none c.args.level (chosen_set c.args.pool.now.arities c.args.level c.args.values.now c.args.test) c.args.pool.now);
}

-- what stands behind a value
under : (c : After-guarded) (rest : List ℕ) → guarded_set c.loop-value.pool.arities (c.args.level + 1) c.passes.result rest ≡ chosen_set c.args.pool.now.arities c.args.level c.args.values.now c.args.test (c.loop-value.value-index ∷ rest)
under c rest =
    let old = c.args.pool.now in
    let i = c.loop-value.value-index in
    let low : i < get_or old.arities c.args.level 0 = let t = c.loop-value-test.true in let e = c.requires.arity in omega arith in
    ap (λ (arities : List ℕ). guarded_set arities (c.args.level + 1) c.passes.result rest) c.loop-value.invariant.grows.grows.arities
    ∙ ap (λ (b : Bool). guarded_set old.arities (c.args.level + 1) b rest) c.passes.ensures
    ∙ tested_behind old.arities c.args.level i (λ q. passes c.args.test (slice_index_or c.args.values.now (slice_index q 0) Off)) rest c.requires.level_in low

parts : (c : After-guarded) (l : ℕ) (part : List ℕ → Bool) → IsPartOf (length c.loop-value.pool.arities) (c.args.level + 1) (guarded_set c.loop-value.pool.arities (c.args.level + 1) c.passes.result) l part → IsPartOf (length c.args.pool.now.arities) c.args.level (chosen_set c.args.pool.now.arities c.args.level c.args.values.now c.args.test) l part
parts c =
    value_parts c.args.level (chosen_set c.args.pool.now.arities c.args.level c.args.values.now c.args.test) (length c.args.pool.now.arities) (length c.loop-value.pool.arities) c.loop-value.value-index (guarded_set c.loop-value.pool.arities (c.args.level + 1) c.passes.result) (ap (λ (arities : List ℕ). length arities) c.loop-value.invariant.grows.grows.arities) (under c)

grown : (c : After-guarded) → GrowsBy (IsPartOf (length c.args.pool.now.arities) c.args.level (chosen_set c.args.pool.now.arities c.args.level c.args.values.now c.args.test)) c.args.pool.now c.guarded.new.pool
grown c = GrowsBy_step _ _ c.args.pool.now c.loop-value.pool c.guarded.new.pool c.loop-value.invariant.grows (parts c) c.guarded.ensures.grows

pub returns-in_err-kid-clause-grows : goal.returns-in_err-kid-clause-grows
returns-in_err-kid-clause-grows c = grown (goal.at.returns-in_err-kid-clause-grows c).After-guarded

pub returns-in_err-kid-clause-cause : goal.returns-in_err-kid-clause-cause
returns-in_err-kid-clause-cause c =
    passed_cause _ _ c.guarded.new.pool c.from_residual.result c.in_err-kid.field-0.0 c.from_residual.ensures.1 (parts (goal.at.returns-in_err-kid-clause-cause c).After-guarded) c.in_err-kid.ensures.cause

pub returns-in_err-push-clause-grows : goal.returns-in_err-push-clause-grows
returns-in_err-push-clause-grows c = grown (goal.at.returns-in_err-push-clause-grows c).After-guarded

pub loop-value-preserved : goal.loop-value-preserved
loop-value-preserved c = record {
  grows = grown (goal.at.loop-value-preserved c).After-guarded;
  kids =
      let set = chosen_set c.args.pool.now.arities c.args.level c.args.values.now c.args.test in
      let one = IsNumberFor_same c.guarded.new.pool (c.args.level + 1) _ _ c.in_ok-kid.kid (under (goal.at.loop-value-preserved c).After-guarded) c.in_ok-kid.ensures.number in
      subst (AreKidsSo c.guarded.new.pool c.args.level set (c.loop-value.value-index + 1)) (sym c.in_ok-push.ensures.items) (AreKidsSo_more c.args.level set c.loop-value.pool c.guarded.new.pool c.loop-value.value-index c.in_ok-kid.kid c.loop-value.kids.items c.guarded.ensures.grows.grows c.loop-value.invariant.kids one);
}

-- the numbers behind all values
kids : (c : After-as_slice) → AreKidsFor c.loop-value.pool c.args.level (chosen_set c.args.pool.now.arities c.args.level c.args.values.now c.args.test) c.as_slice.result.now
kids c =
    let set = chosen_set c.args.pool.now.arities c.args.level c.args.values.now c.args.test in
    let mid = c.loop-value.pool in
    let wide : get_or mid.arities c.args.level 0 ≡ get_or c.args.pool.now.arities c.args.level 0 = ap (λ (arities : List ℕ). get_or arities c.args.level 0) c.loop-value.invariant.grows.grows.arities in
    let end : c.loop-value.value-index ≡ get_or mid.arities c.args.level 0 = let t = c.loop-value-test.false in let u = c.loop-value.auto.value-index-end in let e = c.requires.arity in omega arith in
    subst (AreKidsFor mid c.args.level set) (sym c.as_slice.ensures.value) (AreKidsSo_all c.args.level set mid c.loop-value.value-index c.loop-value.kids.items end c.loop-value.invariant.kids)

pub case-requires-clause-arity : goal.case-requires-clause-arity
case-requires-clause-arity c = (kids (goal.at.case-requires-clause-arity c).After-as_slice).arity

pub case-requires-clause-below : goal.case-requires-clause-below
case-requires-clause-below c =
    AreKids_for c.loop-value.pool c.args.level (chosen_set c.args.pool.now.arities c.args.level c.args.values.now c.args.test) c.as_slice.result.now (kids (goal.at.case-requires-clause-below c).After-as_slice)

case_parts : (c : After-case) (l : ℕ) (part : List ℕ → Bool) → IsPartOf (length c.loop-value.pool.arities) c.args.level (case_set c.loop-value.pool.nodes c.as_slice.result.now) l part → IsPartOf (length c.args.pool.now.arities) c.args.level (chosen_set c.args.pool.now.arities c.args.level c.args.values.now c.args.test) l part
case_parts c =
    kids_parts c.args.pool.now c.loop-value.pool c.args.level (chosen_set c.args.pool.now.arities c.args.level c.args.values.now c.args.test) c.as_slice.result.now c.loop-value.invariant.grows.grows c.requires.level_in (AreRests_tested c.args.pool.now c.args.level (λ rest. passes c.args.test (slice_index_or c.args.values.now (slice_index rest 0) Off))) (kids (goal.at-After-case c).After-as_slice)

made : (c : After-case) (r : Result ℕ DiagFault) → IfOk r (IsNumberFor c.case.new.self c.args.level (case_set c.loop-value.pool.nodes c.as_slice.result.now)) → IfOk r (IsNumberFor c.case.new.self c.args.level (chosen_set c.args.pool.now.arities c.args.level c.args.values.now c.args.test))
made c (Ok n) is =
    kids_number c.args.pool.now c.loop-value.pool c.args.level (chosen_set c.args.pool.now.arities c.args.level c.args.values.now c.args.test) c.as_slice.result.now c.loop-value.invariant.grows.grows c.requires.level_in (AreRests_tested c.args.pool.now c.args.level (λ rest. passes c.args.test (slice_index_or c.args.values.now (slice_index rest 0) Off))) (kids (goal.at-After-case c).After-as_slice) c.case.new.self n is
made c (Err e) is = tt

pub returns-clause-number : goal.returns-clause-number
returns-clause-number c = made (goal.at.returns-clause-number c).After-case c.case.result (value_of _ _ c.case.result c.case.ensures)

pub returns-clause-grows : goal.returns-clause-grows
returns-clause-grows c =
    GrowsBy_step _ _ c.args.pool.now c.loop-value.pool c.case.new.self c.loop-value.invariant.grows (case_parts (goal.at.returns-clause-grows c).After-case) c.case.ensures.0

pub returns-clause-cause : goal.returns-clause-cause
returns-clause-cause c =
    refused_wider _ _ c.case.new.self c.case.result (case_parts (goal.at.returns-clause-cause c).After-case) (reason_of _ _ c.case.result c.case.ensures)
