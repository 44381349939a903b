use Rattle.std.proofs.Common.{◌≡◌, ℕ, List, length, nat_eq, subst, sym, ap, ◌∙◌, arith}
use Rattle.std.specs.List.{Contains, dedup}
use Rattle.std.proofs.lemmas.List.Sorted.{Contains-permutation, IsPermutation-sym}
use Rattle.std.proofs.lemmas.List.Kept.{Contains-dedup_nat, Contains-from_dedup}
use Rattle.smallvec.proofs.SmallVecLemmas.{items-with_items}
use Rattle.state_meets.proofs.tuples.in_order.Goals as goal
use Rattle.state_meets.proofs.tuples.in_order.Goals.{After-dedup}

-- what is left of the sorted numbers
left : (c : After-dedup) → c.dedup.new.self.items ≡ dedup nat_eq c.sort_unstable.new.self
left c =
    let l = c.sort_unstable.ensures.len in
    let m = ap length c.as_mut_slice.ensures.value in
    c.dedup.ensures.items ∙ ap (dedup nat_eq) (items-with_items c.args.numbers c.sort_unstable.new.self (omega arith))

pub returns-clause-there : goal.returns-clause-there
returns-clause-there c n there =
    let moved = Contains-permutation c.as_mut_slice.result.now c.sort_unstable.new.self n c.sort_unstable.ensures.permutation (subst (λ (xs : List ℕ). Contains xs n) (sym c.as_mut_slice.ensures.value) there) in
    subst (λ (xs : List ℕ). Contains xs n) (sym (left c)) (Contains-dedup_nat c.sort_unstable.new.self n moved)

pub returns-clause-back : goal.returns-clause-back
returns-clause-back c n there =
    let kept = Contains-from_dedup nat_eq c.sort_unstable.new.self n (subst (λ (xs : List ℕ). Contains xs n) (left c) there) in
    let moved = IsPermutation-sym c.as_mut_slice.result.now c.sort_unstable.new.self c.sort_unstable.ensures.permutation in
    subst (λ (xs : List ℕ). Contains xs n) c.as_mut_slice.ensures.value (Contains-permutation c.sort_unstable.new.self c.as_mut_slice.result.now n moved kept)
