-- How many states there are, and which of them has a number.
use Rattle.std.proofs.Common.{◌≡◌, ℕ, zero, suc, ◌+◌, ◌*◌, ◌/◌, ◌%◌, ◌<◌, ◌≤◌, min, List, [], ◌∷◌, ◌++◌, length, map, take, drop, get_or, refl, sym, ap, ◌∙◌, arith, inl, inr}
use Rattle.std.specs.List.{flat_map}
use Rattle.std.proofs.lemmas.List.{append-nil, append_assoc, drop_all, drop_more, get_or-map, length-append, length-map, length-take-le}
use Rattle.std.proofs.lemmas.List.Concat.{get_or-flat_map}
use Rattle.std.proofs.lemmas.Bool.{cases_lt}
use Rattle.std.proofs.lemmas.Nat.{mul-le}
use Rattle.std.proofs.Math.Nat.{mul_assoc, mul_comm, mul-div_left, div-lt_iff_lt-mul, mod-lt, mul-le-mul_left, mul-le-mul_right}
use Rattle.pw_defs.specs.declared.values.Value.{Value}
use Rattle.pw_defs.specs.declared.values.Value.TheVariants.{Off}
use Rattle.supply_defs.specs.States.{all_states, state_count}

-- pieces of one length
length_pieces : {X Y : Type 0} (f : X → List Y) (n : ℕ) → ((x : X) → length (f x) ≡ n) → (xs : List X) → length (flat_map f xs) ≡ length xs * n
length_pieces f n each [] = omega arith
length_pieces f n each (x ∷ xs) = omega (arith, length-append (f x) (flat_map f xs), each x, length_pieces f n each xs)

pub length-all_states : (lists : List (List Value)) → length (all_states lists) ≡ state_count lists
length-all_states [] = refl
length-all_states (values ∷ lists) = length_pieces (λ v. map (λ rest. v ∷ rest) (all_states lists)) (state_count lists) (λ v. length-map (all_states lists) (λ rest. v ∷ rest) ∙ length-all_states lists) values

-- The states that begin with the value of a place stand in one block.
pub in_block : (values : List Value) (lists : List (List Value)) (at rest : ℕ) (d : Value) → at < length values → rest < state_count lists
    → get_or (all_states (values ∷ lists)) (at * state_count lists + rest) [] ≡ get_or values at d ∷ get_or (all_states lists) rest []
in_block values lists at rest d in_values in_rest =
    let block : Value → List (List Value) = λ v. map (λ s. v ∷ s) (all_states lists) in
    let long : (v : Value) → length (block v) ≡ state_count lists = λ v. length-map (all_states lists) (λ s. v ∷ s) ∙ length-all_states lists in
    let before : length (flat_map block (take at values)) ≡ length (take at values) * state_count lists = length_pieces block (state_count lists) long (take at values) in
    let front : length (take at values) ≡ at = length-take-le at values (omega arith) in
    let place : length (flat_map block (take at values)) ≡ at * state_count lists = before ∙ ap (λ n. n * state_count lists) front in
    let within : rest < length (block (get_or values at d)) = omega (arith, long (get_or values at d)) in
    let inside : rest < length (all_states lists) = omega (arith, length-all_states lists) in
    ap (λ n. get_or (all_states (values ∷ lists)) (n + rest) []) (sym place)
    ∙ get_or-flat_map block values at rest d [] in_values within
    ∙ get_or-map (λ s. get_or values at d ∷ s) (all_states lists) rest [] [] inside

-- a product that is kept within a bound goes on as the product
pub min_step : (a n bound : ℕ) → min (min a bound * n) bound ≡ min (a * n) bound
min_step a zero bound = omega arith
min_step a (suc n) bound = elim (cases_lt a bound) [ inl below ↦ small below | inr above ↦ large above ]
  where
    small : a < bound → min (min a bound * suc n) bound ≡ min (a * suc n) bound
    small below = let e : min a bound ≡ a = omega arith in ap (λ m. min (m * suc n) bound) e

    large : bound ≤ a → min (min a bound * suc n) bound ≡ min (a * suc n) bound
    large above =
        let e : min a bound ≡ bound = omega arith in
        ap (λ m. min (m * suc n) bound) e ∙ omega (arith, mul-le bound n a n above (omega arith))

pub count_more : (count : ℕ) (values : List Value) (lists : List (List Value))
    → min (min (count * length values) 65537 * state_count lists) 65537 ≡ min (count * state_count (values ∷ lists)) 65537
count_more count values lists =
    min_step (count * length values) (state_count lists) 65537 ∙ ap (λ n. min n 65537) (mul_assoc count (length values) (state_count lists))

-- the lists from a place on are the list there and those behind it
from_place : (lists : List (List Value)) (i : ℕ) (values : List Value) → i < length lists → values ≡ get_or lists i values → drop i lists ≡ values ∷ drop (i + 1) lists
from_place lists i values inside is = drop_more lists i values inside ∙ ap (λ v. v ∷ drop (i + 1) lists) (sym is)

-- the lists from a place on, in the count
pub count_more_at : (count : ℕ) (lists : List (List Value)) (i : ℕ) (values : List Value) → i < length lists → values ≡ get_or lists i values
    → min (min (count * length values) 65537 * state_count (drop (i + 1) lists)) 65537 ≡ min (count * state_count (drop i lists)) 65537
count_more_at count lists i values inside is =
    count_more count values (drop (i + 1) lists)
    ∙ ap (λ ls. min (count * state_count ls) 65537) (sym (from_place lists i values inside is))

-- The first list's place of the state with a number, and the number of the rest of it.
pub record Splits (values : List Value) (lists : List (List Value)) (block rest : ℕ) : Type 0 where
  pub some : 0 < length values
  pub left : block / length values ≡ state_count lists
  pub positive : 0 < state_count lists
  pub place : rest / state_count lists < length values
  pub within : rest % state_count lists < state_count lists
  pub state : (d : Value) → get_or (all_states (values ∷ lists)) rest [] ≡ get_or values (rest / state_count lists) d ∷ get_or (all_states lists) (rest % state_count lists) []

pub splits : (values : List Value) (lists : List (List Value)) (block rest : ℕ) → block ≡ state_count (values ∷ lists) → rest < block → Splits values lists block rest
splits values lists block rest all within = record { some = some; left = left; positive = positive; place = place; within = less; state = state }
  where
    some : 0 < length values
    some = elim (cases_lt 0 (length values)) [ inl above ↦ above | inr below ↦ absurd (omega (arith, all, mul-le-mul_right (state_count lists) below)) ]

    positive : 0 < state_count lists
    positive = elim (cases_lt 0 (state_count lists)) [ inl above ↦ above | inr below ↦ absurd (omega (arith, all, mul-le-mul_left (length values) below)) ]

    left : block / length values ≡ state_count lists
    left = ap (λ n. n / length values) (all ∙ mul_comm (length values) (state_count lists)) ∙ mul-div_left (state_count lists) some

    place : rest / state_count lists < length values
    place = (div-lt_iff_lt-mul positive).1 (omega (arith, all))

    less : rest % state_count lists < state_count lists
    less = mod-lt rest positive

    state : (d : Value) → get_or (all_states (values ∷ lists)) rest [] ≡ get_or values (rest / state_count lists) d ∷ get_or (all_states lists) (rest % state_count lists) []
    state d =
        let e : rest ≡ rest / state_count lists * state_count lists + rest % state_count lists = omega arith in
        ap (λ n. get_or (all_states (values ∷ lists)) n []) e ∙ in_block values lists (rest / state_count lists) (rest % state_count lists) d place less

pub splits_at : (lists : List (List Value)) (i : ℕ) (values : List Value) (block rest : ℕ) → i < length lists → values ≡ get_or lists i values
    → block ≡ state_count (drop i lists) → rest < block → Splits values (drop (i + 1) lists) block rest
splits_at lists i values block rest inside is all within =
    splits values (drop (i + 1) lists) block rest (all ∙ ap state_count (from_place lists i values inside is)) within

-- one more value of a state
pub state_more : (lists : List (List Value)) (i : ℕ) (values : List Value) (block rest : ℕ) → i < length lists → values ≡ get_or lists i values
    → Splits values (drop (i + 1) lists) block rest → (front : List Value)
    → (front ++ get_or values (rest / (block / length values)) Off ∷ []) ++ get_or (all_states (drop (i + 1) lists)) (rest % (block / length values)) []
    ≡ front ++ get_or (all_states (drop i lists)) rest []
state_more lists i values block rest inside is s front =
    rw s.left (append_assoc front (get_or values (rest / state_count (drop (i + 1) lists)) Off ∷ []) (get_or (all_states (drop (i + 1) lists)) (rest % state_count (drop (i + 1) lists)) [])
    ∙ ap (λ t. front ++ t) (sym (ap (λ ls. get_or (all_states ls) rest []) (from_place lists i values inside is) ∙ s.state Off)))

-- the values are the state once no list is left
pub state_all : (lists : List (List Value)) (i block rest : ℕ) → length lists ≤ i → block ≡ state_count (drop i lists) → rest < block → (front : List Value)
    → front ≡ front ++ get_or (all_states (drop i lists)) rest []
state_all lists i block rest past all within front =
    let none : drop i lists ≡ [] = drop_all i lists past in
    let first : rest ≡ 0 = omega (arith, ap state_count none) in
    sym (append-nil front) ∙ ap (λ t. front ++ t) (sym (ap (λ ls. get_or (all_states ls) rest []) none ∙ ap (λ n. get_or (all_states []) n []) first))
