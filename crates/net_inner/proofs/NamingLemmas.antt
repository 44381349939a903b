-- Names that are added to others one list after the other.
use Rattle.std.proofs.Common.{◌≡◌, ℕ, zero, suc, ◌+◌, ◌-◌, ◌<◌, Bool, true, false, not, List, [], ◌∷◌, ◌++◌, None}
use Rattle.std.proofs.Common.{Some, get_or, length, map, option_map, slice_get, take, drop, refl, sym, ap, ◌∙◌, subst, arith, append_assoc}
use Rattle.std.specs.Prelude.{MatchBool}
use Rattle.std.specs.List.{list_any, range_with_len}
use Rattle.std.proofs.lemmas.Grind.{flat_map-append}
use Rattle.std.proofs.lemmas.List.{append-nil, length-map, take-append-drop, take_more}
use Rattle.std.proofs.lemmas.List.Elements.{All-get_or}
use Rattle.std.proofs.lemmas.Option.{get_or_from_slice_get, same_Some, slice_get-get_or, slice_get-map, slice_get_within}
use Rattle.pw_defs.specs.declared.design.Body.{Body}
use Rattle.list_defs.specs.Members.{all_differ, same_name}
use Rattle.list_defs.proofs.Members.{IsIn-slice_get}
use Rattle.list_defs.proofs.NameLemmas.{all_differ-again}
use Rattle.design_defs.specs.Bits.{range_in}
use Rattle.design_defs.specs.Hierarchy.{Sources, HasBody}
use Rattle.design_defs.specs.Ranges.{bit_name, width}
use Rattle.net_bits.specs.declared.placed.Placed.{Placed}
use Rattle.net_bits.proofs.Spots.{range_owned}
use Rattle.net_places.specs.Gathered.{net_by}
use Rattle.net_places.specs.Nets.{LocalBit, OwnNet, bit_of, bits_of_net, local_bits, own_net}
use Rattle.net_places.specs.Plans.{names_in, rows_at}
use Rattle.net_places.specs.Tables.{IsPlanOf}
use Rattle.net_places.specs.declared.rows.NetRow.{NetRow}
use Rattle.net_inner.specs.Inside.{HasPlans, local_name, named_in, nets_in}
use Rattle.net_inner.specs.Naming.{AddsNames}
use Rattle.net_inner.specs.Pairs.{names_from}

pub adds_one : (name : List ℕ) (old new : List (List ℕ)) (r : Bool) → r ≡ not (list_any (same_name name) old) → MatchBool r (new ≡ old ++ name ∷ []) (new ≡ old)
    → AddsNames (name ∷ []) old new r
adds_one name old new true e is = is
adds_one name old new false e is = λ more. all_differ-again old name more (by (list_any (same_name name) old) refl)
  where
    by : (b : Bool) → list_any (same_name name) old ≡ b → list_any (same_name name) old ≡ true
    by true f = f
    by false f = let never : false ≡ true = e ∙ ap not f in cc

pub adds_then : (a b old mid new : List (List ℕ)) (r : Bool) → mid ≡ old ++ a → AddsNames b mid new r → AddsNames (a ++ b) old new r
adds_then a b old mid new true first is = is ∙ ap (λ x. x ++ b) first ∙ append_assoc old a b
adds_then a b old mid new false first is = λ more.
    let regroup : old ++ ((a ++ b) ++ more) ≡ mid ++ (b ++ more) = ap (λ x. old ++ x) (append_assoc a b more) ∙ sym (append_assoc old a (b ++ more)) ∙ ap (λ x. x ++ (b ++ more)) (sym first) in
    ap (all_differ same_name) regroup ∙ is more

pub adds_front : (a b old new : List (List ℕ)) → AddsNames a old new false → AddsNames (a ++ b) old new false
adds_front a b old new is = λ more. ap (all_differ same_name) (ap (λ x. old ++ x) (append_assoc a b more)) ∙ is (b ++ more)

pub same_adds : (a b old new : List (List ℕ)) (r : Bool) → a ≡ b → AddsNames a old new r → AddsNames b old new r
same_adds a b old new r same is = subst (λ x. AddsNames x old new r) same is

-- a range in two parts, one number between them
pub split_range : (f : ℕ → List ℕ) (a k m : ℕ) → map f (range_with_len a (k + suc m)) ≡ (map f (range_with_len a k) ++ f (a + k) ∷ []) ++ map f (range_with_len (a + k + 1) m)
split_range f a zero m =
    let here : zero + suc m ≡ suc m = omega arith in
    let first : a + zero ≡ a = omega arith in
    ap (λ (n : ℕ). map f (range_with_len a n)) here ∙ sym (ap (λ (n : ℕ). f n ∷ map f (range_with_len (n + 1) m)) first)
split_range f a (suc k) m =
    let here : suc k + suc m ≡ suc (k + suc m) = omega arith in
    let next : a + 1 + k ≡ a + suc k = omega arith in
    ap (λ (n : ℕ). map f (range_with_len a n)) here ∙ ap (λ xs. f a ∷ xs) (split_range f (a + 1) k m)
    ∙ ap (λ (n : ℕ). f a ∷ ((map f (range_with_len (a + 1) k) ++ f n ∷ []) ++ map f (range_with_len (n + 1) m))) next

-- names of the bits of a net up to a place, and one more
pub next_place : (f : ℕ → List ℕ) (k : ℕ) → map f (range_with_len 0 (k + 1)) ≡ map f (range_with_len 0 k) ++ f k ∷ []
next_place f k =
    let one : k + 1 ≡ k + suc 0 = omega arith in
    let at : 0 + k ≡ k = omega arith in
    ap (λ (n : ℕ). map f (range_with_len 0 n)) one ∙ split_range f 0 k 0 ∙ append-nil (map f (range_with_len 0 k) ++ f (0 + k) ∷ []) ∙ ap (λ (n : ℕ). map f (range_with_len 0 k) ++ f n ∷ []) at

pub place_taken : (f : ℕ → List ℕ) (k n : ℕ) (old index new : List (List ℕ)) → k < n → index ≡ old ++ map f (range_with_len 0 k) → AddsNames (f k ∷ []) index new false
    → AddsNames (map f (range_with_len 0 n)) old new false
place_taken f k n old index new within so_far taken =
    let count : k + suc (n - k - 1) ≡ n = omega (arith, within) in
    let at : 0 + k ≡ k = omega arith in
    let split : (map f (range_with_len 0 k) ++ f k ∷ []) ++ map f (range_with_len (0 + k + 1) (n - k - 1)) ≡ map f (range_with_len 0 n) =
    ap (λ (i : ℕ). (map f (range_with_len 0 k) ++ f i ∷ []) ++ map f (range_with_len (0 + k + 1) (n - k - 1))) (sym at) ∙ sym (split_range f 0 k (n - k - 1))
    ∙ ap (λ (i : ℕ). map f (range_with_len 0 i)) count in
    same_adds ((map f (range_with_len 0 k) ++ f k ∷ []) ++ map f (range_with_len (0 + k + 1) (n - k - 1))) (map f (range_with_len 0 n)) old new false split
    (adds_front (map f (range_with_len 0 k) ++ f k ∷ []) (map f (range_with_len (0 + k + 1) (n - k - 1))) old new
    (adds_then (map f (range_with_len 0 k)) (f k ∷ []) old index new false so_far taken))

module _ (s : Sources) (p : Placed) (plans : HasPlans s p) (b : Body) (has : HasBody s b) where
  plan : IsPlanOf (own_net s b) (names_in p.modules.now.symbols s b) (rows_at p.plans.now b)
  plan = plans.plans.each b has

  -- the net of a row
  pub record IsNetAt (k : ℕ) (row : NetRow) (n : OwnNet) : Type 0 where
    pub named : slice_get (names_in p.modules.now.symbols s b) row.name ≡ Some n.name
    pub ranged : n.range ≡ row.range
    pub range_is : range_in s b n.name ≡ Some n.range

  pub net_at : (k : ℕ) (row : NetRow) (n : OwnNet) → slice_get (rows_at p.plans.now b) k ≡ Some row → slice_get (nets_in s p b) k ≡ Some n → IsNetAt k row n
  net_at k row n at_row at_n =
      let names = names_in p.modules.now.symbols s b in
      let rows = rows_at p.plans.now b in
      let same : net_by names row ≡ n = same_Some (net_by names row) n (sym (slice_get-map (net_by names) rows k ∙ ap (option_map (net_by names)) at_row) ∙ at_n) in
      let within : row.name < length names =
      subst (λ (r : NetRow). r.name < length names) (get_or_from_slice_get rows k row row at_row)
      (All-get_or (λ (r : NetRow). r.name < length names) rows k row (slice_get_within rows k row at_row) plan.named) in
      record {
        named = slice_get-get_or names row.name [] within ∙ ap (λ (x : OwnNet). Some x.name) same;
        ranged = sym (ap (λ (x : OwnNet). x.range) same);
        range_is = range_owned s b n (plan.nets.each n (IsIn-slice_get (nets_in s p b) k n at_n));
      }

  pub names_of_net : (n : OwnNet) → range_in s b n.name ≡ Some n.range → names_from n.name n.range ≡ map (local_name s b) (bits_of_net n)
  names_of_net n is = by (range_with_len 0 (width n.range))
    where
      by : (xs : List ℕ) → map (bit_name n.name n.range) xs ≡ map (local_name s b) (map (bit_of n) xs)
      by [] = refl
      by (x ∷ xs) = let first : bit_name n.name n.range x ≡ local_name s b (bit_of n x) = sym (ap (named_in (bit_of n x)) is) in let rest = by xs in λ i. first i ∷ rest i

map_append : {X Y : Type 0} (f : X → Y) (xs ys : List X) → map f (xs ++ ys) ≡ map f xs ++ map f ys
map_append f [] ys = refl
map_append f (x ∷ xs) ys = ap (λ zs. f x ∷ zs) (map_append f xs ys)

-- names of the nets up to one, and one net more
pub next_net : (f : LocalBit → List ℕ) (nets : List OwnNet) (k : ℕ) (n : OwnNet) → slice_get nets k ≡ Some n
    → map f (local_bits (take (k + 1) nets)) ≡ map f (local_bits (take k nets)) ++ map f (bits_of_net n)
next_net f nets k n at =
    let more : take (k + 1) nets ≡ take k nets ++ n ∷ [] = take_more nets k n (slice_get_within nets k n at) ∙ ap (λ x. take k nets ++ x ∷ []) (get_or_from_slice_get nets k n n at) in
    ap (λ xs. map f (local_bits xs)) more ∙ ap (map f) (flat_map-append bits_of_net (take k nets) (n ∷ [])) ∙ map_append f (local_bits (take k nets)) (bits_of_net n ++ [])
    ∙ ap (λ xs. map f (local_bits (take k nets)) ++ map f xs) (append-nil (bits_of_net n))

-- a net one of whose names is there already
pub net_taken : (f : LocalBit → List ℕ) (nets : List OwnNet) (k : ℕ) (n : OwnNet) (index new : List (List ℕ)) → slice_get nets k ≡ Some n → index ≡ map f (local_bits (take k nets))
    → AddsNames (map f (bits_of_net n)) index new false → all_differ same_name (map f (local_bits nets)) ≡ false
net_taken f nets k n index new at so_far taken =
    let split : take (k + 1) nets ++ drop (k + 1) nets ≡ nets = take-append-drop (k + 1) nets in
    let parts : map f (local_bits nets) ≡ map f (local_bits (take (k + 1) nets)) ++ map f (local_bits (drop (k + 1) nets)) =
    ap (λ xs. map f (local_bits xs)) (sym split) ∙ ap (map f) (flat_map-append bits_of_net (take (k + 1) nets) (drop (k + 1) nets))
    ∙ map_append f (local_bits (take (k + 1) nets)) (local_bits (drop (k + 1) nets)) in
    ap (all_differ same_name) (parts ∙ ap (λ x. x ++ map f (local_bits (drop (k + 1) nets))) (next_net f nets k n at)
    ∙ append_assoc (map f (local_bits (take k nets))) (map f (bits_of_net n)) (map f (local_bits (drop (k + 1) nets)))
    ∙ ap (λ x. x ++ (map f (bits_of_net n) ++ map f (local_bits (drop (k + 1) nets)))) (sym so_far))
    ∙ taken (map f (local_bits (drop (k + 1) nets)))

-- each row is that of a net
pub net_there : (s : Sources) (p : Placed) (b : Body) (k : ℕ) → k < length (rows_at p.plans.now b) → (n : OwnNet) × (slice_get (nets_in s p b) k ≡ Some n)
net_there s p b k within =
    let nets = nets_in s p b in
    let none : OwnNet = record { name = []; range = None; port = None } in
    let count : length nets ≡ length (rows_at p.plans.now b) = length-map (rows_at p.plans.now b) (net_by (names_in p.modules.now.symbols s b)) in
    (get_or nets k none, slice_get-get_or nets k none (omega (arith, within, count)))
