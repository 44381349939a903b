-- The bits of a body, and of a hierarchy, by their numbers.
use Rattle.std.proofs.Common.{◌≡◌, ℕ, zero, suc, ◌+◌, ◌<◌, ◌≤◌, ◌⊎◌, inl, inr, List, [], ◌∷◌, ◌++◌, length, map, take, refl, sym, ap, ◌∙◌, subst, arith}
use Rattle.std.specs.Prelude.{Option, Some, None, option_map, option_and_then, slice_get}
use Rattle.std.specs.List.{AllByRecursion, flat_map, range_with_len, sum_by}
use Rattle.std.specs.Ordering.{nat_cmp, ordering_reverse, ordering_then}
use Rattle.std.specs.declared.cmp.Ordering.{Ordering}
use Rattle.std.specs.declared.cmp.Ordering.TheVariants.{Less, Equal, Greater}
use Rattle.std.proofs.lemmas.Bool.{cases_lt}
use Rattle.std.specs.Cmp.{nat_cmp_is}
use Rattle.std.proofs.lemmas.List.{length-map}
use Rattle.std.proofs.lemmas.List.Concat.{length-flat_map}
use Rattle.std.proofs.lemmas.List.Sums.{sum_by-cons}
use Rattle.std.proofs.lemmas.List.FromFn.{get_or-map-range_with_len, length-map-range_with_len}
use Rattle.std.proofs.lemmas.Option.{slice_get-get_or, slice_get-map}
use Rattle.pw_defs.specs.declared.design.Body.{Body}
use Rattle.pw_defs.specs.declared.netlist.Port.{Port}
use Rattle.list_defs.specs.Members.{IsIn}
use Rattle.list_defs.specs.Orders.{IsRising, name_cmp}
use Rattle.list_defs.proofs.Members.{IsIn-flat_map, IsIn-flat_map_from, IsIn-map, IsIn-map_from}
use Rattle.list_defs.proofs.Longer.{slice_get-append, slice_get_behind}
use Rattle.list_defs.proofs.Rising.{IsRising-append, each_in, not_before_itself}
use Rattle.design_defs.specs.Bits.{IsSpot, Spot, range_in, spot_cmp}
use Rattle.design_defs.specs.Hierarchy.{Sources, Way, body_at, number_named, ports_in, way_cmp}
use Rattle.design_defs.specs.Ranges.{width}
use Rattle.design_defs.proofs.BitOrders.{way_total}
use Rattle.net_places.specs.Nets.{AreLocalBits, AreOwnNets, HasAllSpots, HasBitNumbers, HasSpotNumbers, IsLocalBit, LocalBit, OwnNet, all_spots, bit_count, bit_of, bits_of_net, local_bits, local_cmp, net_cmp, own_net, spot_of, spots_of}
use Rattle.net_places.specs.declared.rows.NetRow.{NetRow}
use Rattle.net_places.specs.Gathered.{net_by}
use Rattle.net_places.specs.Tables.{bits_in}

-- what holds of each is shown for each
by_each : {X : Type 0} (P : X → Type 0) (xs : List X) → ((x : X) → IsIn x xs → P x) → AllByRecursion P xs
by_each P [] each = tt
by_each P (x ∷ xs) each = (each x (inl refl), by_each P xs (λ y there. each y (inr there)))

-- lists in order, one for each thing of a list in order, make one list in order
rising_flat : {X Z : Type 0} (first : X → X → Ordering) (cmp : Z → Z → Ordering) (f : X → List Z) (xs : List X) → IsRising first xs
    → ((x : X) → IsIn x xs → IsRising cmp (f x)) → ((x y : X) → IsIn x xs → IsIn y xs → first x y ≡ Less → (z w : Z) → IsIn z (f x) → IsIn w (f y) → cmp z w ≡ Less)
    → IsRising cmp (flat_map f xs)
rising_flat first cmp f [] up inside across = tt
rising_flat {X} {Z} first cmp f (x ∷ xs) up inside across =
    IsRising-append cmp (f x) (flat_map f xs) (inside x (inl refl))
    (rising_flat first cmp f xs up.1 (λ y there. inside y (inr there)) (λ y z at_y at_z. across y z (inr at_y) (inr at_z)))
    (by_each (λ z. AllByRecursion (λ w. cmp z w ≡ Less) (flat_map f xs)) (f x) (λ z at_z. by_each (λ w. cmp z w ≡ Less) (flat_map f xs) (λ w at_w. before z w at_z at_w)))
  where
    before : (z w : Z) → IsIn z (f x) → IsIn w (flat_map f xs) → cmp z w ≡ Less
    before z w at_z at_w =
        let from = IsIn-flat_map_from f xs w at_w in
        across x from.0 (inl refl) (inr from.1) (each_in (λ y. first x y ≡ Less) xs from.0 up.0 from.1) z w at_z from.2

-- numbers from one on
above : (a n k : ℕ) → IsIn k (range_with_len a n) → (a ≤ k) × (k < a + n)
above a zero k there = absurd there
above a (suc n) k (inl is) = (omega arith, omega arith)
above a (suc n) k (inr later) = let rest = above (a + 1) n k later in (omega (arith, rest.0), omega (arith, rest.1))

is_there : (a n k : ℕ) → a ≤ k → k < a + n → IsIn k (range_with_len a n)
is_there a zero k low high = absurd (omega arith)
is_there a (suc n) k low high = by (cases_lt a k) (is_there (a + 1) n k)
  where
    by : (a < k) ⊎ (k ≤ a) → (a + 1 ≤ k → k < a + 1 + n → IsIn k (range_with_len (a + 1) n)) → IsIn k (range_with_len a (suc n))
    by (inl more) rest = inr (rest (omega arith) (omega arith))
    by (inr equal) rest = inl (omega arith)

less : (x y : ℕ) → x < y → nat_cmp x y ≡ Less
less x y below = sym (nat_cmp_is x y Less below)

nat_itself : (x : ℕ) → nat_cmp x x ≡ Equal
nat_itself x = sym (nat_cmp_is x x Equal refl)

-- names are equal to themselves
name_itself : (x : List ℕ) → name_cmp x x ≡ Equal
name_itself [] = refl
name_itself (c ∷ cs) = ap (λ o. ordering_then o (name_cmp cs cs)) (nat_itself c) ∙ name_itself cs

-- things by places from one on
module _ {Z : Type 0} (cmp : Z → Z → Ordering) (f : ℕ → Z) (up : (i j : ℕ) → i < j → cmp (f i) (f j) ≡ Less) where
  rising_places : (a n : ℕ) → IsRising cmp (map f (range_with_len a n))
  rising_places a zero = tt
  rising_places a (suc n) = (by_each (λ z. cmp (f a) z ≡ Less) (map f (range_with_len (a + 1) n)) behind, rising_places (a + 1) n)
    where
      behind : (z : Z) → IsIn z (map f (range_with_len (a + 1) n)) → cmp (f a) z ≡ Less
      behind z there =
          let from = IsIn-map_from f z (range_with_len (a + 1) n) there in
          ap (cmp (f a)) from.2 ∙ up a from.0 (omega (arith, (above (a + 1) n from.0 from.1).0))

-- BITS of one body
bits_up : (n : OwnNet) (i j : ℕ) → i < j → local_cmp (n.name, i) (n.name, j) ≡ Less
bits_up n i j below = ap (λ o. ordering_then o (nat_cmp i j)) (name_itself n.name) ∙ less i j below

bit_in_net : (n : OwnNet) (x : LocalBit) → IsIn x (bits_of_net n) → (x.0 ≡ n.name) × (x.1 < width n.range)
bit_in_net n x there =
    let from = IsIn-map_from (bit_of n) x (range_with_len 0 (width n.range)) there in
    let place : x.1 ≡ from.0 = ap (λ (y : LocalBit). y.1) from.2 in
    (ap (λ (y : LocalBit). y.0) from.2, omega (arith, place, (above 0 (width n.range) from.0 from.1).1))

net_has_bit : (n : OwnNet) (x : LocalBit) → x.0 ≡ n.name → x.1 < width n.range → IsIn x (bits_of_net n)
net_has_bit n x name within =
    let same : x ≡ (n.name, x.1) = λ i. (name i, x.1) in
    subst (λ y. IsIn y (bits_of_net n)) (sym same)
    (IsIn-map (bit_of n) x.1 (range_with_len 0 (width n.range)) (is_there 0 (width n.range) x.1 (omega arith) (omega arith)))

module _ (s : Sources) (body : Body) (nets : List OwnNet) (are : AreOwnNets s body nets) where
  abbrev range_if : Option OwnNet → Option (Option (ℕ × ℕ))
  range_if = option_map (λ (x : OwnNet). x.range)

  own_range : (name : List ℕ) (o : Option (Option (ℕ × ℕ))) → range_if (option_map (λ (range : Option (ℕ × ℕ)). record { name = name; range = range; port = option_and_then (number_named (λ (p : Port). p.name) name) (ports_in s body) }) o) ≡ o
  own_range name None = refl
  own_range name (Some r) = refl

  range_is : (n : OwnNet) → own_net s body n.name ≡ Some n → range_in s body n.name ≡ Some n.range
  range_is n own = sym (own_range n.name (range_in s body n.name)) ∙ ap range_if own

  pub local_bits_are : AreLocalBits s body (local_bits nets)
  local_bits_are = record {
    rising = rising_flat net_cmp local_cmp bits_of_net nets are.rising
        (λ n there. rising_places local_cmp (bit_of n) (bits_up n) 0 (width n.range))
        (λ n m at_n at_m before z w at_z at_w.
        let a = bit_in_net n z at_z in
        let b = bit_in_net m w at_w in
        ap (λ (x : List ℕ). ordering_then (name_cmp x w.0) (nat_cmp z.1 w.1)) a.0 ∙ ap (λ (x : List ℕ). ordering_then (name_cmp n.name x) (nat_cmp z.1 w.1)) b.0
        ∙ ap (λ o. ordering_then o (nat_cmp z.1 w.1)) before);
    each = λ x there.
        let from = IsIn-flat_map_from bits_of_net nets x there in
        let n = from.0 in
        let bit = bit_in_net n x from.2 in
        record { range = n.range; is_range = ap (range_in s body) bit.0 ∙ range_is n (are.each n from.1); within = bit.1 };
    all = λ x is. one x is;
  }
    where
      one : (x : LocalBit) → IsLocalBit s body x → IsIn x (local_bits nets)
      one x is =
          let n : OwnNet = record { name = x.0; range = is.range; port = option_and_then (number_named (λ (p : Port). p.name) x.0) (ports_in s body) } in
          let own : own_net s body x.0 ≡ Some n = ap (option_map (λ (range : Option (ℕ × ℕ)). record { name = x.0; range = range; port = n.port })) is.is_range in
          IsIn-flat_map bits_of_net n nets x (are.all n own) (net_has_bit n x refl is.within)

-- NUMBERS of things that stand one list after the other
flat_at : {X Z : Type 0} (f : X → List Z) (xs : List X) (i : ℕ) (x : X) (k : ℕ) (z : Z) → slice_get xs i ≡ Some x → slice_get (f x) k ≡ Some z
    → slice_get (flat_map f xs) (sum_by (λ y. length (f y)) (take i xs) + k) ≡ Some z
flat_at f [] i x k z at there = cc
flat_at f (y ∷ ys) zero x k z at there =
    let same : y ≡ x = cc in
    let place : 0 + k ≡ k = omega arith in
    ap (slice_get (f y ++ flat_map f ys)) place ∙ slice_get-append (f y) (flat_map f ys) k z (ap (λ w. slice_get (f w) k) same ∙ there)
flat_at f (y ∷ ys) (suc i) x k z at there =
    let rest = sum_by (λ w. length (f w)) (take i ys) in
    let cons : sum_by (λ w. length (f w)) (y ∷ take i ys) ≡ length (f y) + rest = sum_by-cons (λ w. length (f w)) y (take i ys) in
    let sums : length (f y) + rest + k ≡ length (f y) + (rest + k) = omega arith in
    let place : sum_by (λ w. length (f w)) (y ∷ take i ys) + k ≡ length (f y) + (rest + k) = ap (λ (n : ℕ). n + k) cons ∙ sums in
    ap (slice_get (f y ++ flat_map f ys)) place ∙ slice_get_behind (f y) (flat_map f ys) (rest + k) ∙ flat_at f ys i x k z at there

same_sums : {X : Type 0} (f g : X → ℕ) (xs : List X) → ((x : X) → f x ≡ g x) → sum_by f xs ≡ sum_by g xs
same_sums f g [] same = refl
same_sums f g (x ∷ xs) same =
    sum_by-cons f x xs ∙ ap (λ (n : ℕ). n + sum_by f xs) (same x) ∙ ap (λ (n : ℕ). g x + n) (same_sums f g xs same) ∙ sym (sum_by-cons g x xs)

net_length : (n : OwnNet) → length (bits_of_net n) ≡ width n.range
net_length n = length-map-range_with_len (bit_of n) 0 (width n.range)

-- nets have as many bits as their rows
pub row_counts : (names : List (List ℕ)) (rows : List NetRow) → bit_count (map (net_by names) rows) ≡ bits_in rows
row_counts names [] = refl
row_counts names (row ∷ rows) =
    sum_by-cons (λ (n : OwnNet). width n.range) (net_by names row) (map (net_by names) rows) ∙ ap (λ (n : ℕ). width row.range + n) (row_counts names rows)
    ∙ sym (sum_by-cons (λ (r : NetRow). width r.range) row rows)

pub local_length : (nets : List OwnNet) → length (local_bits nets) ≡ bit_count nets
local_length nets = length-flat_map bits_of_net nets ∙ same_sums (λ n. length (bits_of_net n)) (λ n. width n.range) nets net_length

place_in_net : (n : OwnNet) (place : ℕ) → place < width n.range → slice_get (bits_of_net n) place ≡ Some (n.name, place)
place_in_net n place within =
    let bits = bits_of_net n in
    slice_get-get_or bits place (n.name, 0) (omega (arith, within, net_length n))
    ∙ ap Some (get_or-map-range_with_len (bit_of n) 0 (width n.range) place place (n.name, 0) within (omega arith))

pub bit_numbers : HasBitNumbers
bit_numbers nets i n place at within =
    let sums = same_sums (λ (x : OwnNet). length (bits_of_net x)) (λ x. width x.range) (take i nets) net_length in
    ap (λ (first : ℕ). slice_get (local_bits nets) (first + place)) (sym sums) ∙ flat_at bits_of_net nets i n place (n.name, place) at (place_in_net n place within)

-- ALL BITS of a hierarchy
way_itself : (way : Way) → way_cmp way way ≡ Equal
way_itself way = equal (way_cmp way way) refl
  where
    equal : (o : Ordering) → way_cmp way way ≡ o → way_cmp way way ≡ Equal
    equal Equal e = e
    equal Less e = absurd (not_before_itself way_cmp way_total way e)
    equal Greater e =
        let back : way_cmp way way ≡ ordering_reverse (way_cmp way way) = way_total.antisymm way way in
        let less : ordering_reverse (way_cmp way way) ≡ Less = ap ordering_reverse e in
        absurd (not_before_itself way_cmp way_total way (back ∙ less))

rising_map : {X Z : Type 0} (first : X → X → Ordering) (cmp : Z → Z → Ordering) (f : X → Z) (xs : List X) → ((x y : X) → first x y ≡ Less → cmp (f x) (f y) ≡ Less)
    → IsRising first xs → IsRising cmp (map f xs)
rising_map first cmp f [] keeps up = tt
rising_map {X} {Z} first cmp f (x ∷ xs) keeps up = (by_each (λ z. cmp (f x) z ≡ Less) (map f xs) behind, rising_map first cmp f xs keeps up.1)
  where
    behind : (z : Z) → IsIn z (map f xs) → cmp (f x) z ≡ Less
    behind z there =
        let from = IsIn-map_from f z xs there in
        ap (cmp (f x)) from.2 ∙ keeps x from.0 (each_in (λ y. first x y ≡ Less) xs from.0 up.0 from.1)

pub all_spots_are : HasAllSpots
all_spots_are s nets ways are own = record {
  rising = rising_flat way_cmp spot_cmp (spots_of nets) ways are.rising inside across;
  each = λ x there. each_spot x there;
  all = λ x is. every x is;
}
  where
    bits_at : (way : Way) → IsIn way ways → (body : Body) × (body_at s way ≡ Some body) × AreLocalBits s body (local_bits (nets way))
    bits_at way there = let has = are.each way there in (has.0, has.1, local_bits_are s has.0 (nets way) (own way has.0 has.1))

    inside : (way : Way) → IsIn way ways → IsRising spot_cmp (spots_of nets way)
    inside way there =
        let bits = bits_at way there in
        rising_map local_cmp spot_cmp (spot_of way) (local_bits (nets way))
        (λ x y less. ap (λ o. ordering_then o (local_cmp x y)) (way_itself way) ∙ less) bits.2.rising

    across : (v w : Way) → IsIn v ways → IsIn w ways → way_cmp v w ≡ Less → (x y : Spot) → IsIn x (spots_of nets v)
        → IsIn y (spots_of nets w) → spot_cmp x y ≡ Less
    across v w at_v at_w before x y at_x at_y =
        let a = IsIn-map_from (spot_of v) x (local_bits (nets v)) at_x in
        let b = IsIn-map_from (spot_of w) y (local_bits (nets w)) at_y in
        ap (λ (z : Spot). spot_cmp z y) a.2 ∙ ap (spot_cmp (spot_of v a.0)) b.2 ∙ ap (λ o. ordering_then o (local_cmp a.0 b.0)) before

    each_spot : (x : Spot) → IsIn x (all_spots nets ways) → IsSpot s x
    each_spot x there =
        let from = IsIn-flat_map_from (spots_of nets) ways x there in
        let way = from.0 in
        let a = IsIn-map_from (spot_of way) x (local_bits (nets way)) from.2 in
        let bits = bits_at way from.1 in
        let bit = bits.2.each a.0 a.1 in
        subst (IsSpot s) (sym a.2) (bit.range, ap (option_and_then (λ body. range_in s body a.0.0)) bits.1 ∙ bit.is_range, bit.within)

    at_body : (x : Spot) (o : Option Body) → body_at s x.way ≡ o → (range : Option (ℕ × ℕ)) → option_and_then (λ body. range_in s body x.net) o ≡ Some range
        → x.place < width range → IsIn x (all_spots nets ways)
    at_body x None e range is within = cc
    at_body x (Some body) e range is within =
        let there : IsIn x.way ways = are.all x.way (body, e) in
        let bits = local_bits_are s body (nets x.way) (own x.way body e) in
        let bit : IsIn (x.net, x.place) (local_bits (nets x.way)) = bits.all (x.net, x.place) (record { range = range; is_range = is; within = within }) in
        IsIn-flat_map (spots_of nets) x.way ways x there (IsIn-map (spot_of x.way) (x.net, x.place) (local_bits (nets x.way)) bit)

    every : (x : Spot) → IsSpot s x → IsIn x (all_spots nets ways)
    every x is = at_body x (body_at s x.way) refl is.0 is.1 is.2

pub spot_numbers : HasSpotNumbers
spot_numbers nets ways i way k x at there =
    let sums = same_sums (λ (w : Way). length (spots_of nets w)) (λ (w : Way). bit_count (nets w)) (take i ways)
    (λ w. length-map (local_bits (nets w)) (spot_of w) ∙ local_length (nets w)) in
    ap (λ (first : ℕ). slice_get (all_spots nets ways) (first + k)) (sym sums)
    ∙ flat_at (spots_of nets) ways i way k (spot_of way x) at (slice_get-map (spot_of way) (local_bits (nets way)) k ∙ ap (option_map (spot_of way)) there)
