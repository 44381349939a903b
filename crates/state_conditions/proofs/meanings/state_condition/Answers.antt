use Rattle.std.proofs.Common.{◌≡◌, ℕ, List, length, Some, slice_get, sym, ap, ◌∙◌, Ok, subst, arith}
use Rattle.std.proofs.lemmas.Grind.{common_steps}
use Rattle.pw_defs.specs.declared.conditions.Cond.{Cond}
use Rattle.pw_defs.specs.declared.terms.Term.TheVariants.{Is}
use Rattle.power_states.specs.TermMeaning.{Means}
use Rattle.state_conditions.specs.Faults.{HasNoState}
use Rattle.state_conditions.specs.Keys.{first_in, key_of}
use Rattle.state_conditions.proofs.MeaningLemmas.{fault_absent, means_found}
use Rattle.state_conditions.proofs.meanings.state_condition.Goals as goal

pub returns-in_default-clause-cause : goal.returns-in_default-clause-cause
returns-in_default-clause-cause c =
    let key : key_of c.as_slice.result.now c.as_slice-2.result.now ≡ key_of c.args.object.now c.args.state.now =
    ap (λ (x : List ℕ). key_of x c.as_slice-2.result.now) c.as_slice.ensures.bytes ∙ ap (key_of c.args.object.now) c.as_slice-2.ensures.bytes in
    let first : c.in_ok-number.field-0 ≡ first_in c.args.found.now (key_of c.args.object.now c.args.state.now) =
    c.in_ok-number.ensures ∙ ap (first_in c.args.found.now) key in
    let N : List ℕ → Type 0 = λ x. HasNoState x c.absent.result in
    fault_absent c.args.names.now c.args.found.now c.args.object.now c.args.state.now c.absent.result c.requires (sym c.in_default.is ∙ first)
    (subst N c.as_slice-in_default.ensures.bytes c.absent.ensures)

pub returns-clause-ok : goal.returns-clause-ok
returns-clause-ok c =
    let key : key_of c.as_slice.result.now c.as_slice-2.result.now ≡ key_of c.args.object.now c.args.state.now =
    ap (λ (x : List ℕ). key_of x c.as_slice-2.result.now) c.as_slice.ensures.bytes ∙ ap (key_of c.args.object.now) c.as_slice-2.ensures.bytes in
    let first : c.in_ok-number.field-0 ≡ first_in c.args.found.now (key_of c.args.object.now c.args.state.now) =
    c.in_ok-number.ensures ∙ ap (first_in c.args.found.now) key in
    let at : slice_get c.args.names.now.states c.in-Some.number ≡ Some c.in-Some-get.named.now = grind (arith, common_steps) in
    let M : Cond → Type 0 = λ x. Means c.args.names.now (Is c.args.object.now c.args.state.now) (Ok x) in
    subst M (sym c.in_ok-cond.ensures)
    (means_found c.args.names.now c.args.found.now c.args.object.now c.args.state.now c.in-Some.number c.in-Some-get.named.now c.requires (sym c.in-Some.is ∙ first) at
    (omega (arith, ap length c.as_slice.ensures.bytes, c.as_slice.ensures.limit)) (omega (arith, ap length c.as_slice-limit.ensures.bytes, c.as_slice-limit.ensures.limit)))
