-- Lists of which one item more is taken, and the names of the bits of ports.
use Rattle.std.proofs.Common.{◌≡◌, ℕ, zero, suc, ◌+◌, ◌<◌, ◌≤◌, Bool, true, false, cond, ◌⊎◌, inl, inr, List, [], ◌∷◌, ◌++◌, filter, get_or, length, map, take, refl, sym, ap, ◌∙◌, subst, arith}
use Rattle.std.proofs.Common.{append_assoc}
use Rattle.std.specs.Prelude.{MatchBool, Some}
use Rattle.std.specs.List.{flat_map, range_with_len}
use Rattle.std.proofs.lemmas.Grind.{flat_map-append}
use Rattle.std.proofs.lemmas.List.{append-nil, take_all, take_more}
use Rattle.std.proofs.lemmas.List.Elements.{filter-append}
use Rattle.pw_defs.specs.declared.cells.Dir.{Dir}
use Rattle.pw_defs.specs.declared.cells.Dir.TheVariants.{Input, Output}
use Rattle.pw_defs.specs.declared.netlist.Port.{Port}
use Rattle.list_defs.specs.Members.{IsIn}
use Rattle.list_defs.proofs.Members.{IsIn-append_cases, IsIn-append_left, IsIn-append_right}
use Rattle.design_defs.specs.Models.{bits_of_port, input_bits, output_bits}
use Rattle.design_defs.specs.Ports.{is_input, is_output}

module _ {X : Type 0} (xs : List X) (i : ℕ) (y : X) (within : i < length xs) (is : y ≡ get_or xs i y) where
  -- the front of a list with one item more
  pub front_more : take (i + 1) xs ≡ take i xs ++ y ∷ []
  front_more = take_more xs i y within ∙ ap (λ (x : X). take i xs ++ x ∷ []) (sym is)

  -- what holds of each of a front, and of one item more, holds of each of the longer front
  pub each_more : (P : X → Type 0) → ((x : X) → IsIn x (take i xs) → P x) → P y → (x : X) → IsIn x (take (i + 1) xs) → P x
  each_more P old new x there = by (IsIn-append_cases x (take i xs) (y ∷ []) (subst (IsIn x) front_more there))
    where
      by : IsIn x (take i xs) ⊎ IsIn x (y ∷ []) → P x
      by (inl early) = old x early
      by (inr (inl last)) = subst P (sym last) new
      by (inr (inr never)) = absurd never

  -- a longer front mapped
  pub map_more : {Y : Type 0} (f : X → Y) → map f (take (i + 1) xs) ≡ map f (take i xs) ++ f y ∷ []
  map_more f = ap (map f) front_more ∙ map_append (take i xs)
    where
      map_append : (front : List X) → map f (front ++ y ∷ []) ≡ map f front ++ f y ∷ []
      map_append [] = refl
      map_append (x ∷ front) = ap (λ rest. f x ∷ rest) (map_append front)

  -- the items of a longer front that a test keeps, with what they are made of
  pub kept_more : {Y : Type 0} (f : X → List Y) (test : X → Bool) → flat_map f (filter test (take (i + 1) xs)) ≡ flat_map f (filter test (take i xs)) ++ flat_map f (filter test (y ∷ []))
  kept_more f test =
      ap (λ (front : List X). flat_map f (filter test front)) front_more ∙ ap (flat_map f) (filter-append test (take i xs) (y ∷ []))
      ∙ flat_map-append f (filter test (take i xs)) (filter test (y ∷ []))

-- what holds of each of a front that is the whole list holds of each
pub each_all : {X : Type 0} (P : X → Type 0) (xs : List X) (i : ℕ) → length xs ≤ i → ((x : X) → IsIn x (take i xs) → P x) → (x : X) → IsIn x xs → P x
each_all P xs i end each x there = each x (subst (IsIn x) (sym (take_all i xs end)) there)

-- one place more
range_more : (f : ℕ → List ℕ) (from k : ℕ) → map f (range_with_len from (k + 1)) ≡ map f (range_with_len from k) ++ f (from + k) ∷ []
range_more f from zero = let here : from + zero ≡ from = omega arith in ap (λ (n : ℕ). f n ∷ []) (sym here)
range_more f from (suc k) =
    let next : from + 1 + k ≡ from + suc k = omega arith in
    let one : suc k + 1 ≡ suc (k + 1) = omega arith in
    ap (λ (n : ℕ). map f (range_with_len from n)) one ∙ ap (λ rest. f from ∷ rest) (range_more f (from + 1) k)
    ∙ ap (λ (n : ℕ). (f from ∷ map f (range_with_len (from + 1) k)) ++ f n ∷ []) next

pub place_more : (f : ℕ → List ℕ) (old now new : List (List ℕ)) (k : ℕ) (name : List ℕ) → now ≡ old ++ map f (range_with_len 0 k) → name ≡ f k → new ≡ now ++ name ∷ []
    → new ≡ old ++ map f (range_with_len 0 (k + 1))
place_more f old now new k name so_far is step =
    let at : 0 + k ≡ k = omega arith in
    step ∙ ap (λ front. front ++ name ∷ []) so_far ∙ append_assoc old (map f (range_with_len 0 k)) (name ∷ [])
    ∙ ap (λ (n : List ℕ). old ++ (map f (range_with_len 0 k) ++ n ∷ [])) (is ∙ ap f (sym at))
    ∙ ap (λ rest. old ++ rest) (sym (range_more f 0 k))

-- the bits of one port, by its direction
pub input_port : (p : Port) → p.dir ≡ Input → input_bits (p ∷ []) ≡ bits_of_port p
input_port p e = ap (λ (d : Dir). flat_map bits_of_port (cond (is_input (Some d)) (p ∷ []) [])) e ∙ append-nil (bits_of_port p)

pub no_input_port : (p : Port) → p.dir ≡ Output → input_bits (p ∷ []) ≡ []
no_input_port p e = ap (λ (d : Dir). flat_map bits_of_port (cond (is_input (Some d)) (p ∷ []) [])) e

pub output_port : (p : Port) → p.dir ≡ Output → output_bits (p ∷ []) ≡ bits_of_port p
output_port p e = ap (λ (d : Dir). flat_map bits_of_port (cond (is_output (Some d)) (p ∷ []) [])) e ∙ append-nil (bits_of_port p)

pub no_output_port : (p : Port) → p.dir ≡ Input → output_bits (p ∷ []) ≡ []
no_output_port p e = ap (λ (d : Dir). flat_map bits_of_port (cond (is_output (Some d)) (p ∷ []) [])) e

-- names that were added one after the other, each where it wasn't there yet
pub each_added : (names : List (List ℕ)) (i : ℕ) (name : List ℕ) → i < length names → name ≡ get_or names i name → (old new : List (List ℕ)) (added : Bool)
    → MatchBool added (new ≡ old ++ name ∷ []) (new ≡ old) → ((x : List ℕ) → IsIn x old → IsIn x (take i names)) → (x : List ℕ) → IsIn x new → IsIn x (take (i + 1) names)
each_added names i name within is old new added step so_far x there = subst (IsIn x) (sym (front_more names i name within is)) (by added step)
  where
    by : (b : Bool) → MatchBool b (new ≡ old ++ name ∷ []) (new ≡ old) → IsIn x (take i names ++ name ∷ [])
    by true grown = elim (IsIn-append_cases x old (name ∷ []) (subst (IsIn x) grown there)) [
      | inl early ↦ IsIn-append_left x (take i names) (name ∷ []) (so_far x early)
      | inr last ↦ IsIn-append_right x (take i names) (name ∷ []) last
    ]
    by false same = IsIn-append_left x (take i names) (name ∷ []) (so_far x (subst (IsIn x) same there))

pub each_from : (names : List (List ℕ)) (i : ℕ) → length names ≤ i → (index : List (List ℕ)) → ((x : List ℕ) → IsIn x index → IsIn x (take i names)) → (x : List ℕ) → IsIn x index → IsIn x names
each_from names i end index each x there = subst (IsIn x) (take_all i names end) (each x there)
