-- Nets in the order of their names, and the numbers of their first bits.
use Rattle.std.proofs.Common.{◌≡◌, ℕ, zero, suc, ◌+◌, ◌<◌, ◌≤◌, Bool, true, false, cond, List, [], ◌∷◌, ◌++◌, length, get_or, map, take, refl, sym, ap, ◌∙◌, subst, arith, inl, inr, is_lt, append_assoc}
use Rattle.std.specs.Prelude.{Option, Some, slice_index_or}
use Rattle.std.specs.Cmp.{IsTotalOrder}
use Rattle.std.specs.List.{All, AllByRecursion, Contains, count_by, sum_by}
use Rattle.std.specs.List.Sorted.{IsPermutation, IsSorted}
use Rattle.std.specs.Ordering.{ordering_reverse}
use Rattle.std.specs.declared.cmp.Ordering.{Ordering}
use Rattle.std.specs.declared.cmp.Ordering.TheVariants.{Less, Equal, Greater}
use Rattle.std.proofs.lemmas.Bool.{false≢true}
use Rattle.std.proofs.lemmas.Cmp.{nat_list_cmp_total, on_total}
use Rattle.std.proofs.lemmas.List.Sorted.{All-permutation, Contains-permutation, IsPermutation-map, IsPermutation-sym, ranks_by, sorted_far, sum_by-IsPermutation}
use Rattle.std.proofs.lemmas.List.{take_more}
use Rattle.std.proofs.lemmas.List.Sums.{sum_by-cons, sum_by_more}
use Rattle.std.proofs.lemmas.Map.Lookups.{exact_bytes}
use Rattle.std.proofs.lemmas.Option.{get_or_from_slice_get, slice_get-get_or, slice_get_within}
use Rattle.list_defs.specs.Members.{IsIn, same_name}
use Rattle.list_defs.specs.Orders.{AreAllRising, IsPutInOrder, IsRising}
use Rattle.list_defs.proofs.Few.{place_of_member}
use Rattle.list_defs.proofs.Members.{IsIn-map, IsIn-slice_get}
use Rattle.list_defs.proofs.NameLemmas.{same_name-itself}
use Rattle.design_defs.specs.Ranges.{width}
use Rattle.module_rows.specs.View.{name_at}
use Rattle.net_places.specs.declared.rows.NamedRow.{NamedRow}
use Rattle.net_places.specs.declared.rows.NetRow.{NetRow}
use Rattle.net_places.specs.Nets.{OwnNet, bit_count, net_cmp}
use Rattle.net_places.specs.Mentions.{Mention, net_mentioned}
use Rattle.net_places.specs.Gathered.{AreGathered, IsSpelled, is_named, net_by, net_of}
use Rattle.net_places.specs.Tables.{IsPlanOf, bits_in, placed_from, row_cmp}

-- the orders
pub row_total : IsTotalOrder row_cmp
row_total = on_total (λ (n : NamedRow). n.name.now) nat_list_cmp_total

-- what is in a list is in it in any order
pub moved : {X : Type 0} (xs ys : List X) (x : X) → IsPermutation xs ys → IsIn x xs → IsIn x ys
moved xs ys x same there =
    let at = place_of_member x xs there in
    let was : Contains xs x = (at.0, slice_get_within xs at.0 x at.1, get_or_from_slice_get xs at.0 x x at.1) in
    let now : Contains ys x = Contains-permutation xs ys x same was in
    IsIn-slice_get ys now.0 x (slice_get-get_or ys now.0 x now.1 ∙ ap Some now.2)

each_of : {X Y : Type 0} (P : Y → Type 0) (f : X → Y) (xs : List X) → ((x : X) → IsIn x xs → P (f x)) → AllByRecursion P (map f xs)
each_of P f [] each = tt
each_of P f (x ∷ xs) each = (each x (inl refl), each_of P f xs (λ y there. each y (inr there)))

-- the first of two of one name in a list
two_of_name : (x y : NamedRow) (xs : List NamedRow) → IsIn y xs → x.name.now ≡ y.name.now → 2 ≤ count_by (is_named x.name.now) (map net_of (x ∷ xs))
two_of_name x y xs there same =
    let first : cond {A = ℕ} (same_name x.name.now x.name.now) 1 0 ≡ 1 = ap (λ (b : Bool). cond {A = ℕ} b 1 0) (same_name-itself x.name.now) in
    let one : 1 ≤ count_by (is_named x.name.now) (map net_of xs) =
    one_at (is_named x.name.now) (map net_of xs) (net_of y) (IsIn-map net_of y xs there) (subst (λ (n : List ℕ). same_name x.name.now n ≡ true) same (same_name-itself x.name.now)) in
    let two : 2 ≤ cond {A = ℕ} (same_name x.name.now x.name.now) 1 0 + count_by (is_named x.name.now) (map net_of xs) = omega arith in
    subst (λ (n : ℕ). 2 ≤ n) (sym (sum_by-cons (λ (n : OwnNet). cond {A = ℕ} (is_named x.name.now n) 1 0) (net_of x) (map net_of xs))) two
  where
    one_at : {X : Type 0} (p : X → Bool) (ys : List X) (z : X) → IsIn z ys → p z ≡ true → 1 ≤ count_by p ys
    one_at p [] z there passes = absurd there
    one_at p (y ∷ ys) z (inl is) passes =
        let here : cond {A = ℕ} (p y) 1 0 ≡ 1 = ap (λ (b : Bool). cond {A = ℕ} b 1 0) (ap p (sym is) ∙ passes) in
        let one : 1 ≤ cond {A = ℕ} (p y) 1 0 + count_by p ys = omega arith in
        subst (λ (n : ℕ). 1 ≤ n) (sym (sum_by-cons (λ x. cond {A = ℕ} (p x) 1 0) y ys)) one
    one_at p (y ∷ ys) z (inr later) passes =
        let rest : 1 ≤ count_by p ys = one_at p ys z later passes in
        let one : 1 ≤ cond {A = ℕ} (p y) 1 0 + count_by p ys = omega arith in
        subst (λ (n : ℕ). 1 ≤ n) (sym (sum_by-cons (λ x. cond {A = ℕ} (p x) 1 0) y ys)) one

-- nothing comes before the first of rows in order, and nothing else has its name
before_rest : (x : NamedRow) (xs : List NamedRow) → IsSorted row_cmp (x ∷ xs) → ((name : List ℕ) → count_by (is_named name) (map net_of (x ∷ xs)) ≤ 1)
    → (y : NamedRow) → IsIn y xs → row_cmp x y ≡ Less
before_rest x xs up once y there = by (row_cmp y x) refl
  where
    not_less : is_lt (row_cmp y x) ≡ false
    not_less =
        let at = place_of_member y xs there in
        let far = sorted_far (λ a b. is_lt (row_cmp a b)) (ranks_by row_total (λ n. n)) (x ∷ xs) up 0 (suc at.0) x (omega arith) (omega (arith, slice_get_within xs at.0 y at.1)) in
        ap (λ (z : NamedRow). is_lt (row_cmp z x)) (sym (get_or_from_slice_get xs at.0 y x at.1)) ∙ far

    by : (o : Ordering) → row_cmp y x ≡ o → row_cmp x y ≡ Less
    by Less e = absurd (false≢true (sym not_less ∙ ap is_lt e))
    by Equal e =
        let two = two_of_name x y xs there (sym (exact_bytes y.name.now x.name.now e)) in
        absurd (omega (arith, once x.name.now, two))
    by Greater e = row_total.antisymm x y ∙ ap ordering_reverse e

rest_sorted : (x : NamedRow) (xs : List NamedRow) → IsSorted row_cmp (x ∷ xs) → IsSorted row_cmp xs
rest_sorted x xs up k d low below =
    subst (λ (n : ℕ). is_lt (row_cmp (slice_index_or (x ∷ xs) n d) (slice_index_or xs k d)) ≡ false) {x = suc k + 1} {y = suc (k + 1)} (omega arith)
    (up (suc k) d (omega arith) (omega arith))

-- rows in order with names of their own rise
pub rising : (xs : List NamedRow) → IsSorted row_cmp xs → ((name : List ℕ) → count_by (is_named name) (map net_of xs) ≤ 1) → IsRising net_cmp (map net_of xs)
rising [] up once = tt
rising (x ∷ xs) up once =
    (each_of (λ n. net_cmp (net_of x) n ≡ Less) net_of xs (before_rest x xs up once), rising xs (rest_sorted x xs up) later)
  where
    later : (name : List ℕ) → count_by (is_named name) (map net_of xs) ≤ 1
    later name =
        let all : cond {A = ℕ} (is_named name (net_of x)) 1 0 + count_by (is_named name) (map net_of xs) ≤ 1 =
        subst (λ (n : ℕ). n ≤ 1) (sum_by-cons (λ (n : OwnNet). cond {A = ℕ} (is_named name n) 1 0) (net_of x) (map net_of xs)) (once name) in
        omega arith

-- Nets that were gathered and put in order are all that the body owns.
pub in_order : (own : List ℕ → Option OwnNet) (names : List (List ℕ)) (rows sorted : List NamedRow) (mentions : List Mention) → ((name : List ℕ) → net_mentioned mentions name ≡ own name)
    → AreGathered names rows mentions → IsPutInOrder row_cmp rows sorted → AreAllRising net_cmp (λ n. own n.name ≡ Some n) (map net_of sorted)
in_order own names rows sorted mentions owned g put =
    let same = IsPermutation-map net_of rows sorted put.same in
    record {
      rising = rising sorted put.sorted (λ name.
          let count = sum_by-IsPermutation (λ (n : OwnNet). cond (is_named name n) 1 0) (map net_of rows) (map net_of sorted) same in
          omega (arith, count, g.once name));
      each = λ n there. sym (owned n.name) ∙ g.each n (moved (map net_of sorted) (map net_of rows) n (IsPermutation-sym (map net_of rows) (map net_of sorted) same) there);
      all = λ n is. moved (map net_of rows) (map net_of sorted) n same (g.all n.name n (owned n.name ∙ is));
    }

-- rows with the numbers of their first bits
abbrev pub bits_of : List NamedRow → ℕ
bits_of = sum_by (λ (n : NamedRow). width n.row.range)

pub placed_push : (k : ℕ) (xs : List NamedRow) (x : NamedRow) → placed_from k (xs ++ x ∷ []) ≡ placed_from k xs ++ record x.row { first = k + bits_of xs } ∷ []
placed_push k [] x = let same : k ≡ k + 0 = omega arith in ap (λ (first : ℕ). record x.row { first = first } ∷ []) same
placed_push k (y ∷ ys) x =
    let w = width y.row.range in
    let cons : bits_of (y ∷ ys) ≡ w + bits_of ys = sum_by-cons (λ (n : NamedRow). width n.row.range) y ys in
    let sums : k + w + bits_of ys ≡ k + bits_of (y ∷ ys) = omega (arith, cons) in
    ap (λ rest. record y.row { first = k } ∷ rest) (placed_push (k + w) ys x ∙ ap (λ (first : ℕ). placed_from (k + w) ys ++ record x.row { first = first } ∷ []) sums)

pub bits_placed : (k : ℕ) (xs : List NamedRow) → bits_in (placed_from k xs) ≡ bits_of xs
bits_placed k [] = refl
bits_placed k (x ∷ xs) =
    let w = width x.row.range in
    sum_by-cons (λ (row : NetRow). width row.range) (record x.row { first = k }) (placed_from (k + w) xs)
    ∙ ap (λ (n : ℕ). w + n) (bits_placed (k + w) xs) ∙ sym (sum_by-cons (λ (n : NamedRow). width n.row.range) x xs)

pub nets_placed : (names : List (List ℕ)) (k : ℕ) (xs : List NamedRow) → All (IsSpelled names) xs → map (net_by names) (placed_from k xs) ≡ map net_of xs
nets_placed names k [] each = refl
nets_placed names k (x ∷ xs) each =
    let spelled : name_at names x.row.name ≡ x.name.now = get_or_from_slice_get names x.row.name x.name.now [] (each 0 x (omega arith)) in
    ap (λ (name : List ℕ). record { name = name; range = x.row.range; port = x.row.port } ∷ map (net_by names) (placed_from (k + width x.row.range) xs)) spelled
    ∙ ap (λ rest. net_of x ∷ rest) (nets_placed names (k + width x.row.range) xs (λ i d within. each (suc i) d (omega arith)))

pub named_placed : (names : List (List ℕ)) (k : ℕ) (xs : List NamedRow) → All (IsSpelled names) xs → All (λ row. row.name < length names) (placed_from k xs)
named_placed names k [] each i d within = absurd (omega arith)
named_placed names k (x ∷ xs) each zero d within = slice_get_within names x.row.name x.name.now (each 0 x (omega arith))
named_placed names k (x ∷ xs) each (suc i) d within =
    named_placed names (k + width x.row.range) xs (λ j e inside. each (suc j) e (omega arith)) i d (omega arith)

pub firsts_placed : (k : ℕ) (xs : List NamedRow) (i : ℕ) (d : NetRow) → i < length (placed_from k xs)
    → (get_or (placed_from k xs) i d).first ≡ k + bit_count (take i (map net_of xs))
firsts_placed k [] i d within = absurd (omega arith)
firsts_placed k (x ∷ xs) zero d within = omega arith
firsts_placed k (x ∷ xs) (suc i) d within =
    let w = width x.row.range in
    let rest = firsts_placed (k + w) xs i d (omega arith) in
    let bits = bit_count (take i (map net_of xs)) in
    let sums : k + w + bits ≡ k + (w + bits) = omega arith in
    rest ∙ sums ∙ ap (λ (n : ℕ). k + n) (sym (sum_by-cons (λ (n : OwnNet). width n.range) (net_of x) (take i (map net_of xs))))

pub plan_of : (own : List ℕ → Option OwnNet) (names : List (List ℕ)) (rows sorted : List NamedRow) (mentions : List Mention) → ((name : List ℕ) → net_mentioned mentions name ≡ own name)
    → AreGathered names rows mentions → IsPutInOrder row_cmp rows sorted → IsPlanOf own names (placed_from 0 sorted)
plan_of own names rows sorted mentions owned g put =
    let spelled = All-permutation (IsSpelled names) rows sorted put.same g.spelled in
    let nets = nets_placed names 0 sorted spelled in
    record {
      named = named_placed names 0 sorted spelled;
      nets = subst (AreAllRising net_cmp (λ n. own n.name ≡ Some n)) (sym nets) (in_order own names rows sorted mentions owned g put);
      firsts = λ i d within. omega (arith, firsts_placed 0 sorted i d within, ap (λ all. bit_count (take i all)) nets);
    }

-- one row more
pub placed_next : (rows : List NamedRow) (i : ℕ) (d : NamedRow) → i < length rows
    → placed_from 0 (take (i + 1) rows) ≡ placed_from 0 (take i rows) ++ record (get_or rows i d).row { first = bits_of (take i rows) } ∷ []
placed_next rows i d within =
    let x = get_or rows i d in
    let front = take i rows in
    let same : 0 + bits_of front ≡ bits_of front = omega arith in
    ap (placed_from 0) (take_more rows i d within) ∙ placed_push 0 front x
    ∙ ap (λ (first : ℕ). placed_from 0 front ++ record x.row { first = first } ∷ []) same

pub bits_next : (rows : List NamedRow) (i : ℕ) (d : NamedRow) → i < length rows → bits_of (take (i + 1) rows) ≡ bits_of (take i rows) + width (get_or rows i d).row.range
bits_next rows i d within = sum_by_more (λ (n : NamedRow). width n.row.range) rows i d within

pub put_step : (nets old : List NetRow) (rows : List NamedRow) (i : ℕ) (d : NamedRow) (bits : ℕ) → i < length rows → nets ≡ old ++ placed_from 0 (take i rows) → bits ≡ bits_of (take i rows)
    → nets ++ record (get_or rows i d).row { first = bits } ∷ [] ≡ old ++ placed_from 0 (take (i + 1) rows)
put_step nets old rows i d bits within is sum =
    let x = get_or rows i d in
    let front = placed_from 0 (take i rows) in
    ap (λ (all : List NetRow). all ++ record x.row { first = bits } ∷ []) is
    ∙ ap (λ (first : ℕ). old ++ front ++ record x.row { first = first } ∷ []) sum
    ∙ append_assoc old front (record x.row { first = bits_of (take i rows) } ∷ [])
    ∙ ap (λ (all : List NetRow). old ++ all) (sym (placed_next rows i d within))

pub bits_step : (rows : List NamedRow) (i : ℕ) (d : NamedRow) (bits more sum : ℕ) → i < length rows → bits ≡ bits_of (take i rows) → more ≡ width (get_or rows i d).row.range
    → sum ≡ bits + more → sum ≡ bits_of (take (i + 1) rows)
bits_step rows i d bits more sum within is_bits is_more is_sum =
    is_sum ∙ ap (λ (n : ℕ). n + more) is_bits ∙ ap (λ (n : ℕ). bits_of (take i rows) + n) is_more ∙ sym (bits_next rows i d within)
