use Rattle.std.proofs.Common.{◌≡◌, ◌+◌, ◌<◌, ◌++◌, ◌∷◌, [], List, length, Some, slice_get, take, sym, ap, ◌∙◌, subst, arith}
use Rattle.std.proofs.lemmas.Grind.{common_steps}
use Rattle.std.proofs.lemmas.List.{length-take-le, take_more}
use Rattle.std.proofs.lemmas.Option.{get_or_from_slice_get, slice_get_within}
use Rattle.pw_defs.specs.declared.terms.NamedState.{NamedState as State}
use Rattle.state_conditions.specs.Keys.{AreFound}
use Rattle.state_conditions.proofs.named.found_in.Goals as goal

pub loop-number-preserved : goal.loop-number-preserved
loop-number-preserved c =
    let states = c.args.states.now in
    let n = c.loop-number.number in
    let s = c.in_ok-state.state.now in
    let at : slice_get states n ≡ Some s = grind (arith, common_steps) in
    let within : n < length states = slice_get_within states n s at in
    let more : take n states ++ s ∷ [] ≡ take (n + 1) states =
    ap (λ (x : State). take n states ++ x ∷ []) (sym (get_or_from_slice_get states n s s at)) ∙ sym (take_more states n s within) in
    let P : List State → Type 0 = λ xs. AreFound xs c.add.new.found in
    subst P more (c.in_ok-add.ensures (take n states) (sym (length-take-le n states (omega arith))) c.loop-number.invariant)
