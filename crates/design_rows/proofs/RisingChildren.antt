-- All instances but the first, sorted, are the children in order, or two of them stand side by side that have one name.
use Rattle.std.proofs.Common.{◌≡◌, ◌≢◌, ◌⊎◌, ℕ, zero, suc, ◌+◌, ◌-◌, ◌<◌, ◌≤◌, true, false, List, [], ◌∷◌, ◌++◌, length, get_or, Some, slice_get, inl, inr, refl, sym, ap, ◌∙◌, subst, eqb, arith}
use Rattle.std.specs.Cmp.{IsTotalOrder}
use Rattle.std.specs.List.{IsAllAdjacentAnswer, IsDistinct, range_with_len}
use Rattle.std.specs.List.Sorted.{IsPermutation, IsSorted}
use Rattle.std.specs.Ordering.{is_lt, ordering_reverse}
use Rattle.std.specs.declared.cmp.Ordering.{Ordering}
use Rattle.std.specs.declared.cmp.Ordering.TheVariants.{Less, Equal, Greater}
use Rattle.std.proofs.lemmas.Bool.{cases_eq, cases_lt, eq-eqb, eqb-false, ne_eqb}
use Rattle.std.proofs.lemmas.Cmp.{on_total}
use Rattle.std.proofs.lemmas.List.FromFn.{get_or-range_with_len, length-range_with_len}
use Rattle.std.proofs.lemmas.List.Sorted.{IsPermutation-sym}
use Rattle.std.proofs.lemmas.Map.Keys.{IsDistinct-IsPermutation, IsDistinct-from_apart, apart_from_distinct}
use Rattle.list_defs.specs.Members.{IsIn}
use Rattle.list_defs.proofs.Few.{place_of_member}
use Rattle.list_defs.proofs.Rising.{not_before_itself, rising_at}
use Rattle.port_order.proofs.ListingLemmas.{in_range, range_has}
use Rattle.port_order.proofs.Risings.{all_in, rising_from_answer, still_in}
use Rattle.design_rows.proofs.ChildLemmas.{child_key, key_total, same_key}
use Rattle.design_rows.specs.declared.tables.Rows.{Rows}
use Rattle.design_rows.specs.Children.{HasChildren, HasNameTwice, IsInner, child_cmp, key_cmp, key_of}
use Rattle.design_rows.specs.Growth.{with_children}

-- the range up to the next number
range_push : (a n : ℕ) → range_with_len a (suc n) ≡ range_with_len a n ++ (a + n) ∷ []
range_push a zero = ap (λ (x : ℕ). x ∷ []) {x = a} {y = a + 0} (omega arith)
range_push a (suc n) =
    ap (λ xs. a ∷ xs) (range_push (a + 1) n ∙ ap (λ (x : ℕ). range_with_len (a + 1) n ++ x ∷ []) {x = a + 1 + n} {y = a + suc n} (omega arith))

pub next_inner : (n : ℕ) → 1 ≤ n → range_with_len 1 (n - 1) ++ n ∷ [] ≡ range_with_len 1 (n + 1 - 1)
next_inner n some =
    ap (λ (x : ℕ). range_with_len 1 (n - 1) ++ x ∷ []) {x = n} {y = 1 + (n - 1)} (omega (arith, some))
    ∙ sym (range_push 1 (n - 1)) ∙ ap (range_with_len 1) {x = suc (n - 1)} {y = n + 1 - 1} (omega (arith, some))

either_way : (x y : ℕ) → eqb x y ≡ eqb y x
either_way x y = elim (cases_eq x y) [
  | inl same ↦ eq-eqb x y same ∙ sym (eq-eqb y x (sym same))
  | inr other ↦ ne_eqb x y other ∙ sym (ne_eqb y x (λ same. other (sym same)))
]

range_distinct : (a n : ℕ) → IsDistinct eqb (range_with_len a n)
range_distinct a n = IsDistinct-from_apart eqb (range_with_len a n) (λ i j d before within.
    let long = length-range_with_len a n in
    ne_eqb (get_or (range_with_len a n) i d) (get_or (range_with_len a n) j d)
    (λ same. absurd (omega (arith, same, before, within, long, get_or-range_with_len a n i d (omega (arith, before, within, long)), get_or-range_with_len a n j d (omega (arith, within, long))))))

-- neither comes before the other
neither : (a b : Ordering) → a ≡ ordering_reverse b → is_lt a ≡ false → is_lt b ≡ false → a ≡ Equal
neither Less b back one other = cc
neither Equal b back one other = refl
neither Greater Less back one other = cc
neither Greater Equal back one other = cc
neither Greater Greater back one other = cc

module _ (r : Rows) (sorted : List ℕ) (moved : IsPermutation (range_with_len 1 (length r.insts - 1)) sorted) where
  abbrev inner : List ℕ
  inner = range_with_len 1 (length r.insts - 1)

  child_total : IsTotalOrder (child_cmp r)
  child_total = on_total (key_of r) key_total

  each_inner : (n : ℕ) → IsIn n sorted → IsInner r n
  each_inner n there =
      let bounds = in_range n 1 (length r.insts - 1) (still_in sorted inner (IsPermutation-sym inner sorted moved) n there) in
      (omega (arith, bounds.0), omega (arith, bounds.0, bounds.1))

  all_inner : (n : ℕ) → IsInner r n → IsIn n sorted
  all_inner n is = still_in inner sorted moved n (range_has n 1 (length r.insts - 1) (omega (arith, is.0)) (omega (arith, is.0, is.1)))

  inner_at : (k : ℕ) → k < length sorted → IsInner r (get_or sorted k 0)
  inner_at k within = each_inner (get_or sorted k 0) (all_in sorted k 0 within)

  differ_at : (k : ℕ) → k + 1 < length sorted → get_or sorted k 0 ≢ get_or sorted (k + 1) 0
  differ_at k within =
      eqb-false (get_or sorted k 0) (get_or sorted (k + 1) 0)
      (apart_from_distinct eqb sorted k (k + 1) 0 (IsDistinct-IsPermutation eqb either_way inner sorted moved (range_distinct 1 (length r.insts - 1))) (omega arith) within)

  pub children_of : IsAllAdjacentAnswer (λ one other rises. rises ≡ is_lt (child_cmp r one other)) sorted true → HasChildren (with_children r sorted)
  children_of rises = record {
    rising = rising_from_answer (child_cmp r) child_total sorted rises;
    each = each_inner;
    all = all_inner;
  }

  pub twice_of : IsSorted (child_cmp r) sorted → IsAllAdjacentAnswer (λ one other rises. rises ≡ is_lt (child_cmp r one other)) sorted false → HasNameTwice r
  twice_of up falls =
      let k = falls.0 in
      let one = get_or sorted k 0 in
      let other = get_or sorted (k + 1) 0 in
      let equal : child_cmp r one other ≡ Equal =
      neither (child_cmp r one other) (child_cmp r other one) (child_total.antisymm one other) (sym (falls.2 0)) (up k 0 (omega arith) falls.1) in
      let same = same_key (key_of r one) (key_of r other) equal in
      record {
        outer = (key_of r other).0;
        name = (key_of r other).1;
        one = one;
        other = other;
        two = differ_at k falls.1;
        is_one = record { inner = inner_at k (omega (arith, falls.1)); inside = same.0; named = same.1 };
        is_other = record { inner = inner_at (k + 1) falls.1; inside = refl; named = refl };
      }

-- where the children are in order no name is twice inside one instance
pub none_twice : (r : Rows) → HasChildren r → HasNameTwice r → ⊥
none_twice r children twice = by (cases_lt i.0 j.0)
  where
    i : (k : ℕ) × (slice_get r.children k ≡ Some twice.one)
    i = place_of_member twice.one r.children (children.all twice.one twice.is_one.inner)

    j : (k : ℕ) × (slice_get r.children k ≡ Some twice.other)
    j = place_of_member twice.other r.children (children.all twice.other twice.is_other.inner)

    keys : key_of r twice.one ≡ key_of r twice.other
    keys = child_key r twice.outer twice.name twice.one twice.is_one ∙ sym (child_key r twice.outer twice.name twice.other twice.is_other)

    by : (i.0 < j.0) ⊎ (j.0 ≤ i.0) → ⊥
    by (inl before) =
        let less = rising_at (child_cmp r) r.children children.rising i.0 j.0 twice.one twice.other before i.1 j.1 in
        not_before_itself key_cmp key_total (key_of r twice.other) (subst (λ key. key_cmp key (key_of r twice.other) ≡ Less) keys less)
    by (inr past) = elim (cases_eq j.0 i.0) [
      | inl same ↦
          let there : slice_get r.children i.0 ≡ Some twice.other = ap (slice_get r.children) (sym same) ∙ j.1 in
          let one = i.1 in
          let same_inst : twice.one ≡ twice.other = cc in
          twice.two same_inst
      | inr unlike ↦
          let less = rising_at (child_cmp r) r.children children.rising j.0 i.0 twice.other twice.one (omega (arith, past, unlike)) j.1 i.1 in
          not_before_itself key_cmp key_total (key_of r twice.other) (subst (λ key. key_cmp (key_of r twice.other) key ≡ Less) keys less)
    ]
