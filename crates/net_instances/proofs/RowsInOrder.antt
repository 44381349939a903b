-- Rows and orders that grow by one.
use Rattle.std.proofs.Common.{◌≡◌, ℕ, ◌+◌, ◌-◌, ◌<◌, ◌≤◌, ◌⊎◌, List, [], ◌∷◌, ◌++◌, Option, None, Some, get_or, length, map, option_map, option_and_then, take, slice_get, inl, inr, refl, sym, ap, ◌∙◌, subst, arith}
use Rattle.std.specs.List.{AllByRecursion, sum_by}
use Rattle.std.specs.Cmp.{IsTotalOrder}
use Rattle.std.specs.declared.cmp.Ordering.{Ordering}
use Rattle.std.specs.declared.cmp.Ordering.TheVariants.{Less}
use Rattle.std.proofs.lemmas.Bool.{cases_lt}
use Rattle.std.proofs.lemmas.List.{length_push, map-append, take-append-le, take_all, take_more}
use Rattle.std.proofs.lemmas.List.Sums.{sum_by-append, sum_by-cons}
use Rattle.std.specs.Prelude.{IfSome, MatchOption}
use Rattle.std.proofs.lemmas.Option.{none-some, same_Some, slice_get_within}
use Rattle.list_defs.specs.Orders.{IsRising}
use Rattle.list_defs.proofs.Longer.{slice_get_front, slice_get_last}
use Rattle.list_defs.proofs.Members.{IsIn-append_right}
use Rattle.list_defs.proofs.Rising.{IsRising-append, each_in}
use Rattle.net_sizes.specs.declared.sizes.Counts.{Counts}
use Rattle.net_instances.specs.declared.numbering.InstanceRow.{InstanceRow}
use Rattle.net_instances.specs.declared.tree.TreeRow.{TreeRow}
use Rattle.net_instances.specs.Instances.{AreRowsOf, IsRowOf, own_bits, row_in}

-- what comes before the last of a rising list comes before what comes after that
all_below : {X : Type 0} (cmp : X → X → Ordering) → IsTotalOrder cmp → (xs : List X) (x y : X) → IsRising cmp (xs ++ x ∷ []) → cmp x y ≡ Less
    → AllByRecursion (λ z. AllByRecursion (λ w. cmp z w ≡ Less) (y ∷ [])) (xs ++ x ∷ [])
all_below cmp total [] x y rising less = ((less, tt), tt)
all_below cmp total (z ∷ xs) x y rising less =
    let z_x : cmp z x ≡ Less = each_in (λ w. cmp z w ≡ Less) (xs ++ x ∷ []) x rising.0 (IsIn-append_right x xs (x ∷ []) (inl refl)) in
    ((total.trans z x y z_x less, tt), all_below cmp total xs x y rising.1 less)

pub rising_more : {X : Type 0} (cmp : X → X → Ordering) → IsTotalOrder cmp → (xs : List X) (x y : X) → IsRising cmp (xs ++ x ∷ []) → cmp x y ≡ Less
    → IsRising cmp ((xs ++ x ∷ []) ++ y ∷ [])
rising_more cmp total xs x y rising less = IsRising-append cmp (xs ++ x ∷ []) (y ∷ []) rising (tt, tt) (all_below cmp total xs x y rising less)

-- one thing alone is in order
pub rising_start : {X : Type 0} (cmp : X → X → Ordering) (f : ℕ → X) (order : List ℕ) → IsRising cmp (map f (take 1 order))
rising_start cmp f [] = tt
rising_start cmp f (n ∷ order) = (tt, tt)

-- the next one comes after the last
pub rising_step : {X : Type 0} (cmp : X → X → Ordering) → IsTotalOrder cmp → (f : ℕ → X) (order : List ℕ) (at : ℕ) → 0 < at → at < length order
    → cmp (f (get_or order (at - 1) 0)) (f (get_or order at 0)) ≡ Less → IsRising cmp (map f (take at order)) → IsRising cmp (map f (take (at + 1) order))
rising_step {X} cmp total f order at above within less rising =
    subst (IsRising cmp) (sym longer) (rising_more cmp total (map f (take (at - 1) order)) (f last) (f next) (subst (IsRising cmp) before rising) less)
  where
    last : ℕ
    last = get_or order (at - 1) 0

    next : ℕ
    next = get_or order at 0

    before : map f (take at order) ≡ map f (take (at - 1) order) ++ f last ∷ []
    before =
        let number : at ≡ at - 1 + 1 = omega (arith, above) in
        ap (λ (k : ℕ). map f (take k order)) number ∙ ap (map f) (take_more order (at - 1) 0 (omega (arith, above, within))) ∙ map-append f (take (at - 1) order) (last ∷ [])

    longer : map f (take (at + 1) order) ≡ (map f (take (at - 1) order) ++ f last ∷ []) ++ f next ∷ []
    longer = ap (map f) (take_more order at 0 within) ∙ map-append f (take at order) (next ∷ []) ∙ ap (λ xs. xs ++ f next ∷ []) before

module _ (rows : List TreeRow) (firsts places : List ℕ) (bits : Counts) where
  pub no_rows : AreRowsOf rows firsts [] places bits []
  no_rows = record {
    count = refl;
    each = λ number n row e f. absurd (none-some n e);
    first_bits = λ number row e. absurd (none-some row e);
  }

  pub one_row_more : (order : List ℕ) (made : List InstanceRow) (n : ℕ) (row : InstanceRow) → AreRowsOf rows firsts order places bits made
      → IsRowOf rows firsts places n row → row.first_bit ≡ sum_by (own_bits bits) made → AreRowsOf rows firsts (order ++ n ∷ []) places bits (made ++ row ∷ [])
  one_row_more order made n row are one first = record { count = count; each = each; first_bits = first_bits }
    where
      count : length (made ++ row ∷ []) ≡ length (order ++ n ∷ [])
      count = length_push made row ∙ ap (λ (k : ℕ). k + 1) are.count ∙ sym (length_push order n)

      last_place : (number : ℕ) (other : InstanceRow) → length made ≤ number → slice_get (made ++ row ∷ []) number ≡ Some other → number ≡ length made
      last_place number other late e =
          let short : number < length (made ++ row ∷ []) = slice_get_within (made ++ row ∷ []) number other e in
          let size = length_push made row in
          omega (arith, late, short, size)

      each : (number k : ℕ) (other : InstanceRow) → slice_get (order ++ n ∷ []) number ≡ Some k → slice_get (made ++ row ∷ []) number ≡ Some other
          → IsRowOf rows firsts places k other
      each number k other e f = by (cases_lt number (length made))
        where
          by : (number < length made) ⊎ (length made ≤ number) → IsRowOf rows firsts places k other
          by (inl early) =
              are.each number k other (slice_get_front order (n ∷ []) number k (omega (arith, early, are.count)) e) (slice_get_front made (row ∷ []) number other early f)
          by (inr late) =
              let last : number ≡ length made = last_place number other late f in
              let same_n : n ≡ k = same_Some n k (sym (slice_get_last order n number (last ∙ are.count)) ∙ e) in
              let same_row : row ≡ other = same_Some row other (sym (slice_get_last made row number last) ∙ f) in
              subst (λ (r : InstanceRow). IsRowOf rows firsts places k r) same_row (subst (λ (x : ℕ). IsRowOf rows firsts places x row) same_n one)

      first_bits : (number : ℕ) (other : InstanceRow) → slice_get (made ++ row ∷ []) number ≡ Some other
          → other.first_bit ≡ sum_by (own_bits bits) (take number (made ++ row ∷ []))
      first_bits number other e = by (cases_lt number (length made))
        where
          by : (number < length made) ⊎ (length made ≤ number) → other.first_bit ≡ sum_by (own_bits bits) (take number (made ++ row ∷ []))
          by (inl early) =
              are.first_bits number other (slice_get_front made (row ∷ []) number other early e)
              ∙ ap (sum_by (own_bits bits)) (sym (take-append-le number made (row ∷ []) (omega (arith, early))))
          by (inr late) =
              let last : number ≡ length made = last_place number other late e in
              let same_row : row ≡ other = same_Some row other (sym (slice_get_last made row number last) ∙ e) in
              let front : take number (made ++ row ∷ []) ≡ made = take-append-le number made (row ∷ []) (omega (arith, last)) ∙ take_all number made (omega (arith, last)) in
              ap (λ (r : InstanceRow). r.first_bit) (sym same_row) ∙ first ∙ ap (sum_by (own_bits bits)) (sym front)

-- what the row of an instance takes is there
pub row_is : (rows : List TreeRow) (firsts places : List ℕ) (n first_bit : ℕ) (row : InstanceRow) → row_in rows firsts places n first_bit ≡ Some row
    → IsRowOf rows firsts places n row × (row.first_bit ≡ first_bit)
row_is rows firsts places n first_bit row e = of_row (slice_get rows n) refl e
  where
    made : TreeRow → ℕ → ℕ → InstanceRow
    made old first parent = record { parent = parent; inst = old.inst; name = old.name; body = old.body; first_bit = first_bit; first_child = first }

    of_place : (old : TreeRow) (first : ℕ) → slice_get rows n ≡ Some old → slice_get firsts n ≡ Some first → (o : Option ℕ) → slice_get places old.parent ≡ o
        → option_map (made old first) o ≡ Some row → IsRowOf rows firsts places n row × (row.first_bit ≡ first_bit)
    of_place old first there first_there None none h = cc
    of_place old first there first_there (Some parent) parent_there h =
        let same : made old first parent ≡ row = same_Some (made old first parent) row h in
        subst (λ (r : InstanceRow). IsRowOf rows firsts places n r × (r.first_bit ≡ first_bit)) same
        (record { old = old; there = there; inside = parent_there; inst = refl; name = refl; body = refl; first = first_there }, refl)

    of_first : (old : TreeRow) → slice_get rows n ≡ Some old → (o : Option ℕ) → slice_get firsts n ≡ o
        → option_and_then (λ first. option_map (made old first) (slice_get places old.parent)) o ≡ Some row → IsRowOf rows firsts places n row × (row.first_bit ≡ first_bit)
    of_first old there None none h = cc
    of_first old there (Some first) first_there h = of_place old first there first_there (slice_get places old.parent) refl h

    of_row : (o : Option TreeRow) → slice_get rows n ≡ o
        → option_and_then (λ (old : TreeRow). option_and_then (λ first. option_map (made old first) (slice_get places old.parent)) (slice_get firsts n)) o ≡ Some row
        → IsRowOf rows firsts places n row × (row.first_bit ≡ first_bit)
    of_row None none h = cc
    of_row (Some old) there h = of_first old there (slice_get firsts n) refl h

pub sum_there : (o : Option ℕ) (sum total : ℕ) → o ≡ Some sum → IfSome o (λ x. x ≡ total) → sum ≡ total
sum_there None sum total e h = cc
sum_there (Some x) sum total e h = let same : x ≡ sum = same_Some x sum e in sym same ∙ h

pub sum_one : (bits : Counts) (made : List InstanceRow) (row : InstanceRow) → sum_by (own_bits bits) (made ++ row ∷ []) ≡ sum_by (own_bits bits) made + own_bits bits row
sum_one bits made row = sum_by-append (own_bits bits) made (row ∷ []) ∙ ap (λ (k : ℕ). sum_by (own_bits bits) made + k) (sum_by-cons (own_bits bits) row [] ∙ omega arith)

pub list_there : (A : Type 0) (o : Option (List ℕ)) (xs ys : List ℕ) → o ≡ Some xs → MatchOption o A (λ zs. zs ≡ ys) → xs ≡ ys
list_there A None xs ys e h = cc
list_there A (Some zs) xs ys e h = let same : zs ≡ xs = same_Some zs xs e in sym same ∙ h
