use Rattle.std.proofs.Common.{◌≡◌, ◌+◌, ◌-◌, ◌++◌, ◌∷◌, ◌≤◌, ℕ, [], inl, inr, ap, ◌∙◌, arith}
use Rattle.std.specs.List.{range_with_len}
use Rattle.std.proofs.lemmas.Bool.{cases_lt}
use Rattle.design_rows.proofs.RisingChildren.{next_inner}
use Rattle.design_rows.proofs.ordered.inner_insts.Goals as goal

pub loop-n-preserved : goal.loop-n-preserved
loop-n-preserved c =
    let n = c.loop-n.n in
    record {
      made = c.in_ok-push.ensures.items ∙ ap (λ xs. xs ++ n ∷ []) c.loop-n.invariant.made ∙ next_inner n c.loop-n.invariant.inner;
      inner = omega arith;
      near = omega (arith, c.loop-n-test.true);
    }

-- behind the last of a range stands its end, where the range has any
all_made : (n len : ℕ) → 1 ≤ n → n ≤ len + 1 → len ≤ n → (1 ≤ len → n ≤ len) → n - 1 ≡ len - 1
all_made n len some near past end = elim (cases_lt 0 len) [ inl any ↦ omega (arith, past, end any) | inr none ↦ omega (arith, some, near, none) ]

pub returns : goal.returns
returns c =
    let n = c.loop-n.n in
    let invariant = c.loop-n.invariant in
    let last : n - 1 ≡ c.len-len.result - 1 = all_made n c.len-len.result invariant.inner invariant.near c.loop-n-test.false c.loop-n.auto.n-end in
    invariant.made ∙ ap (range_with_len 1) (last ∙ ap (λ len. len - 1) c.len-len.ensures)
