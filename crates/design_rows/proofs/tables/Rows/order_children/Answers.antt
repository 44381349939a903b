use Rattle.std.proofs.Common.{◌≡◌, ◌-◌, ℕ, List, true, false, length, refl, subst, sym}
use Rattle.std.specs.List.{IsAllAdjacentAnswer, range_with_len}
use Rattle.std.specs.List.Sorted.{IsPermutation}
use Rattle.std.specs.Ordering.{is_lt}
use Rattle.design_rows.specs.Children.{HasChildren, child_cmp}
use Rattle.design_rows.specs.Growth.{with_children}
use Rattle.design_rows.proofs.RisingChildren.{children_of, twice_of}
use Rattle.design_rows.proofs.tables.Rows.order_children.Goals as goal

pub returns-then-not-are_rising-clause-ordered : goal.returns-then-not-are_rising-clause-ordered
returns-then-not-are_rising-clause-ordered c =
    let r = c.args.self.now in
    let sorted = c.sort.new.list.items in
    let moved : IsPermutation (range_with_len 1 (length r.insts - 1)) sorted = subst (λ xs. IsPermutation xs sorted) c.in_ok-inner.ensures c.sort.ensures.same in
    let Falls : List ℕ → Type 0 = λ xs. IsAllAdjacentAnswer (λ one other rises. rises ≡ is_lt (child_cmp r one other)) xs false in
    let falls : Falls sorted = subst Falls c.as_slice.ensures.value c.if-not-are_rising.ensures in
    (twice_of r sorted moved c.in_ok-sort.ensures.sorted falls, refl)

pub returns-clause-ordered : goal.returns-clause-ordered
returns-clause-ordered c =
    let r = c.args.self.now in
    let sorted = c.sort.new.list.items in
    let moved : IsPermutation (range_with_len 1 (length r.insts - 1)) sorted = subst (λ xs. IsPermutation xs sorted) c.in_ok-inner.ensures c.sort.ensures.same in
    let Rises : List ℕ → Type 0 = λ xs. IsAllAdjacentAnswer (λ one other rises. rises ≡ is_lt (child_cmp r one other)) xs true in
    let rises : Rises sorted = subst Rises c.as_slice.ensures.value c.if-not-are_rising.ensures in
    let P : List ℕ → Type 0 = λ xs. HasChildren (with_children r xs) in
    subst P (sym c.in-Some.ensures) (children_of r sorted moved rises)
