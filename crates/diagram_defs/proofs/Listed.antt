-- The list of all rests of a level, and sets of rests as lists.
use Rattle.std.proofs.Common.{◌≡◌, ℕ, zero, suc, ◌+◌, ◌<◌, Bool, true, false, ◌||◌, List, [], ◌∷◌, ◌++◌, map, length, get_or, drop, refl, sym, ap, ◌∙◌, inl, inr, arith}
use Rattle.std.specs.List.{list_any, flat_map, range_with_len}
use Rattle.std.proofs.lemmas.List.Folds.{list_any-append, list_any_at}
use Rattle.std.proofs.lemmas.List.FromFn.{get_or-range_with_len}
use Rattle.std.proofs.lemmas.Bool.{and_parts, and_from, or_cases, or_left, ltb-true, false≢true}
use Rattle.diagram_defs.specs.Rests.{is_rest, all_rests}

-- equal truth is equality
pub same_truth : (x y : Bool) → (x ≡ true → y ≡ true) → (y ≡ true → x ≡ true) → x ≡ y
same_truth true y there back = sym (there refl)
same_truth false true there back = back refl
same_truth false false there back = refl

list_any-flat_map : {X A : Type 0} (p : A → Bool) (f : X → List A) (xs : List X) → list_any p (flat_map f xs) ≡ list_any (λ x. list_any p (f x)) xs
list_any-flat_map p f [] = refl
list_any-flat_map p f (x ∷ xs) = list_any-append p (f x) (flat_map f xs) ∙ ap (λ (b : Bool). list_any p (f x) || b) (list_any-flat_map p f xs)

pub list_any-map : {X A : Type 0} (p : A → Bool) (f : X → A) (xs : List X) → list_any p (map f xs) ≡ list_any (λ x. p (f x)) xs
list_any-map p f [] = refl
list_any-map p f (x ∷ xs) = ap (λ (b : Bool). p (f x) || b) (list_any-map p f xs)

pub length-range : (a n : ℕ) → length (range_with_len a n) ≡ n
length-range a zero = refl
length-range a (suc n) = ap suc (length-range (a + 1) n)

-- a test that some rest of the level passes is passed by one of the list
pub some_rest : (arities : List ℕ) (p : List ℕ → Bool) (rest : List ℕ) → is_rest arities rest ≡ true → p rest ≡ true → list_any p (all_rests arities) ≡ true
some_rest [] p [] is passes = or_left (p []) false passes
some_rest [] p (v ∷ rest) is passes = absurd (false≢true is)
some_rest (arity ∷ arities) p [] is passes = absurd (false≢true is)
some_rest (arity ∷ arities) p (v ∷ rest) is passes =
    let both = and_parts _ _ is in
    let low = ltb-true v arity both.0 in
    let further = some_rest arities (λ q. p (v ∷ q)) rest both.1 passes in
    let here : list_any p (map (λ q. v ∷ q) (all_rests arities)) ≡ true = list_any-map p (λ q. v ∷ q) (all_rests arities) ∙ further in
    let place : v < length (range_with_len 0 arity) = omega (arith, length-range 0 arity) in
    let value : get_or (range_with_len 0 arity) v 0 ≡ v = get_or-range_with_len 0 arity v 0 low ∙ (let z : 0 + v ≡ v = omega arith in z) in
    list_any-flat_map p (λ w. map (λ q. w ∷ q) (all_rests arities)) (range_with_len 0 arity)
    ∙ list_any_at (λ w. list_any p (map (λ q. w ∷ q) (all_rests arities))) (range_with_len 0 arity) v 0 place (ap (λ (w : ℕ). list_any p (map (λ q. w ∷ q) (all_rests arities))) value ∙ here)

-- what passes where some of a list does
pub passing : {X : Type 0} (p : X → Bool) (xs : List X) → list_any p xs ≡ true → (x : X) × (p x ≡ true)
passing p [] e = absurd (false≢true e)
passing p (x ∷ xs) e = elim (or_cases _ _ e) [ inl here ↦ (x, here) | inr later ↦ passing p xs later ]

-- a rest has as many indices as there are levels
pub length-rest : (arities rest : List ℕ) → is_rest arities rest ≡ true → length rest ≡ length arities
length-rest [] [] e = refl
length-rest [] (v ∷ rest) e = absurd (false≢true e)
length-rest (a ∷ arities) [] e = absurd (false≢true e)
length-rest (a ∷ arities) (v ∷ rest) e = ap suc (length-rest arities rest (and_parts _ _ e).1)

-- the end of a rest, and its beginning
pub is_rest-drop : (k : ℕ) (arities rest : List ℕ) → is_rest arities rest ≡ true → is_rest (drop k arities) (drop k rest) ≡ true
is_rest-drop zero arities rest e = e
is_rest-drop (suc k) [] [] e = refl
is_rest-drop (suc k) [] (v ∷ rest) e = absurd (false≢true e)
is_rest-drop (suc k) (a ∷ arities) [] e = absurd (false≢true e)
is_rest-drop (suc k) (a ∷ arities) (v ∷ rest) e = is_rest-drop k arities rest (and_parts _ _ e).1

pub is_rest_front : (arities more front rest : List ℕ) → length front ≡ length arities → is_rest (arities ++ more) (front ++ rest) ≡ true → is_rest arities front ≡ true
is_rest_front [] more [] rest size e = refl
is_rest_front [] more (v ∷ front) rest size e = absurd (omega arith)
is_rest_front (a ∷ arities) more [] rest size e = absurd (omega arith)
is_rest_front (a ∷ arities) more (v ∷ front) rest size e =
    let both = and_parts _ _ e in
    and_from _ _ both.0 (is_rest_front arities more front rest (omega arith) both.1)
