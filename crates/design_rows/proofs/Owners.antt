-- Which instance owns a bit.
use Rattle.std.proofs.Common.{◌≡◌, ℕ, zero, suc, ◌+◌, ◌<◌, ◌≤◌, Bool, true, false, List, length, take, ◌⊎◌, inl, inr, refl, sym, ap, ◌∙◌, arith}
use Rattle.std.specs.List.{prefix_len, sum_by}
use Rattle.std.specs.List.Sorted.{IsNonDecreasingBy, IsPartitionPoint}
use Rattle.std.proofs.lemmas.Bool.{cases_eq, cases_lt, leb-true, leb-false}
use Rattle.std.proofs.lemmas.List.{get_or_default, nil_from_length, take_all}
use Rattle.std.proofs.lemmas.List.Sums.{prefix_len-le-length, prefix_len_is, prefix_len_passes, prefix_len_stops, sum_by_more}
use Rattle.design_rows.specs.declared.tables.InstanceRow.{InstanceRow}
use Rattle.design_rows.specs.declared.tables.Rows.{Rows}
use Rattle.design_rows.specs.Sound.{AreRows, Owns}
use Rattle.design_rows.specs.View.{begins_by, inst_at, no_instance, owner_at, size}

-- an instance begins where the one before it ends
pub next_first : (r : Rows) → AreRows r → (n next : ℕ) → next ≡ n + 1 → next < length r.insts
    → (inst_at r next).first_bit ≡ (inst_at r n).first_bit + size r (inst_at r n)
next_first r rows n next is within =
    let here = rows.firsts n (omega arith) in
    let there = rows.firsts next within in
    let one = ap (λ k. sum_by (size r) (take k r.insts)) is in
    let more = sum_by_more (size r) r.insts n no_instance (omega arith) in
    omega (arith, here, there, one, more)

-- the last one ends with the bits
pub last_end : (r : Rows) → AreRows r → (n : ℕ) → n + 1 ≡ length r.insts → (inst_at r n).first_bit + size r (inst_at r n) ≡ length r.feeds.items
last_end r rows n last =
    let here = rows.firsts n (omega arith) in
    let more = sum_by_more (size r) r.insts n no_instance (omega arith) in
    let whole = ap (sum_by (size r)) (take_all (n + 1) r.insts (omega arith)) in
    omega (arith, here, more, whole, rows.all)

rise : (r : Rows) → AreRows r → (j i : ℕ) → i ≤ j → j < length r.insts → (inst_at r i).first_bit ≤ (inst_at r j).first_bit
rise r rows zero i le within =
    let none : i ≡ 0 = omega arith in
    omega (arith, ap (λ k. (inst_at r k).first_bit) none)
rise r rows (suc j) i le within =
    elim (cases_eq i (suc j)) [
      | inl same ↦ omega (arith, ap (λ k. (inst_at r k).first_bit) same)
      | inr other ↦ omega (arith, rise r rows j i (omega arith) (omega arith), next_first r rows j (suc j) (omega arith) within)
    ]

-- instances begin in their order
pub firsts_rise : (r : Rows) → AreRows r → IsNonDecreasingBy (λ i. i.first_bit) r.insts
firsts_rise r rows = λ i j d le within.
    let first = ap (λ (x : InstanceRow). x.first_bit) (get_or_default r.insts i d no_instance (omega arith)) in
    let last = ap (λ (x : InstanceRow). x.first_bit) (get_or_default r.insts j d no_instance within) in
    omega (arith, first, last, rise r rows j i le within)

some_instance : (r : Rows) → AreRows r → (n : ℕ) → n < length r.feeds.items → 0 < length r.insts
some_instance r rows n within = by (length r.insts) refl
  where
    by : (k : ℕ) → length r.insts ≡ k → 0 < length r.insts
    by zero e = absurd (omega (arith, rows.all, ap (sum_by (size r)) (nil_from_length r.insts e)))
    by (suc k) e = omega arith

-- some instance begins at or before a bit
pub some_begun : (r : Rows) → AreRows r → (n : ℕ) → n < length r.feeds.items → 0 < prefix_len (begins_by n) r.insts
some_begun r rows n within = by (prefix_len (begins_by n) r.insts) refl
  where
    by : (k : ℕ) → prefix_len (begins_by n) r.insts ≡ k → 0 < prefix_len (begins_by n) r.insts
    by (suc k) e = omega arith
    by zero e =
        let there = some_instance r rows n within in
        let stops = prefix_len_stops (begins_by n) r.insts no_instance (omega arith) in
        let first = sym (ap (λ k. begins_by n (inst_at r k)) e) ∙ stops in
        absurd (omega (arith, leb-false (inst_at r 0).first_bit n first, rows.firsts 0 there))

-- the last instance that begins at or before a bit owns it
pub owner_owns : (r : Rows) → AreRows r → (n : ℕ) → n < length r.feeds.items → Owns r (owner_at r n) n
owner_owns r rows n within = record { there = omega (arith, some, few); from = from; to = by (cases_lt (prefix_len (begins_by n) r.insts) (length r.insts)) }
  where
    some : 0 < prefix_len (begins_by n) r.insts
    some = some_begun r rows n within

    few : prefix_len (begins_by n) r.insts ≤ length r.insts
    few = prefix_len-le-length (begins_by n) r.insts

    from : (inst_at r (owner_at r n)).first_bit ≤ n
    from = leb-true (inst_at r (owner_at r n)).first_bit n (prefix_len_passes (begins_by n) r.insts (owner_at r n) no_instance (omega (arith, some)))

    by : (prefix_len (begins_by n) r.insts < length r.insts) ⊎ (length r.insts ≤ prefix_len (begins_by n) r.insts)
        → n < (inst_at r (owner_at r n)).first_bit + size r (inst_at r (owner_at r n))
    by (inl more) =
        let next = prefix_len (begins_by n) r.insts in
        let past = leb-false (inst_at r next).first_bit n (prefix_len_stops (begins_by n) r.insts no_instance more) in
        omega (arith, past, next_first r rows (owner_at r n) next (omega (arith, some)) more)
    by (inr all) = omega (arith, last_end r rows (owner_at r n) (omega (arith, some, few, all)))

-- a partition by a test is where the front that passes it ends
pub front_is : {X : Type 0} (p : X → Bool) (xs : List X) (i : ℕ) → i ≤ length xs → IsPartitionPoint (λ y. p y ≡ true) (λ y. p y ≡ false) xs i → (d : X) → prefix_len p xs ≡ i
front_is p xs i few point d = prefix_len_is p xs i d few (λ k below. point.0 k d (omega arith) below) (λ more. point.1 i d (omega arith) more)
