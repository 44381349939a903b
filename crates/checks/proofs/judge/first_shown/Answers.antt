use Rattle.std.proofs.Common.{◌≡◌, ◌<◌, ℕ, Bool, true, cond, suc, List, Some, length, drop, get_or, slice_get, ap, sym, ◌∙◌, drop-cons}
use Rattle.std.specs.List.{find}
use Rattle.std.proofs.lemmas.Option.{slice_get-get_or}
use Rattle.pw_defs.specs.declared.values.State.{State}
use Rattle.supply_defs.specs.Conditions.{holds}
use Rattle.supply_defs.specs.States.{value_in}
use Rattle.checks.specs.LineWatches.{isolation_missing}
use Rattle.checks.proofs.judge.first_shown.Goals as goal

-- where none before it passes, the one that passes is the first
found_here : (p : State → Bool) (xs : List State) (i : ℕ) (x : State) → i < length xs → x ≡ get_or xs i x → p x ≡ true → find p (drop i xs) ≡ find p xs → slice_get xs i ≡ find p xs
found_here p xs i x lt is passes left =
    let here : p (get_or xs i x) ≡ true = ap p (sym is) ∙ passes in
    slice_get-get_or xs i x lt ∙ sym (ap (λ (b : Bool). cond b (Some (get_or xs i x)) (find p (drop (suc i) xs))) here) ∙ sym (ap (find p) (drop-cons xs i x lt)) ∙ left

pub returns-then-shows : goal.returns-then-shows
returns-then-shows c =
    let passes : holds (value_in c.index-states-place.result.values) (isolation_missing c.args.sides.driver c.args.sides.receiver) ≡ true = cc in
    found_here (λ s. holds (value_in s.values) (isolation_missing c.args.sides.driver c.args.sides.receiver)) c.args.states.now c.loop-place.place c.index-states-place.result
    c.loop-place-test.true c.index-states-place.is passes c.loop-place.invariant
