-- Which things a filter keeps, and which ones joined and mapped lists have.
use Rattle.std.proofs.Common.{◌≡◌, ℕ, zero, suc, Bool, true, false, cond, List, [], ◌∷◌, ◌++◌, map, filter, Some, slice_get, ◌⊎◌, inl, inr, refl, subst}
use Rattle.std.specs.List.{flat_map}
use Rattle.list_defs.specs.Members.{IsIn}

pub IsIn-append_left : {X : Type 0} (x : X) (xs ys : List X) → IsIn x xs → IsIn x (xs ++ ys)
IsIn-append_left x [] ys h = absurd h
IsIn-append_left x (z ∷ xs) ys h = elim h [ inl e ↦ inl e | inr i ↦ inr (IsIn-append_left x xs ys i) ]

pub IsIn-append_right : {X : Type 0} (x : X) (xs ys : List X) → IsIn x ys → IsIn x (xs ++ ys)
IsIn-append_right x [] ys h = h
IsIn-append_right x (z ∷ xs) ys h = inr (IsIn-append_right x xs ys h)

pub IsIn-append_cases : {X : Type 0} (x : X) (xs ys : List X) → IsIn x (xs ++ ys) → IsIn x xs ⊎ IsIn x ys
IsIn-append_cases x [] ys h = inr h
IsIn-append_cases x (z ∷ xs) ys h =
    elim h [ inl e ↦ inl (inl e) | inr i ↦ elim (IsIn-append_cases x xs ys i) [ inl j ↦ inl (inr j) | inr j ↦ inr j ] ]

pub IsIn-map : {X Y : Type 0} (f : X → Y) (x : X) (xs : List X) → IsIn x xs → IsIn (f x) (map f xs)
IsIn-map f x [] h = absurd h
IsIn-map f x (z ∷ xs) h = elim h [ inl e ↦ inl (cc) | inr i ↦ inr (IsIn-map f x xs i) ]

pub IsIn-map_from : {X Y : Type 0} (f : X → Y) (y : Y) (xs : List X) → IsIn y (map f xs) → (x : X) × IsIn x xs × (y ≡ f x)
IsIn-map_from f y [] h = absurd h
IsIn-map_from f y (z ∷ xs) h =
    elim h [ inl e ↦ (z, inl refl, e) | inr i ↦ (let found = IsIn-map_from f y xs i in (found.0, inr found.1, found.2)) ]

pub IsIn-flat_map : {X Y : Type 0} (f : X → List Y) (x : X) (xs : List X) (y : Y) → IsIn x xs → IsIn y (f x) → IsIn y (flat_map f xs)
IsIn-flat_map f x [] y h k = absurd h
IsIn-flat_map {X} {Y} f x (z ∷ xs) y h k =
    elim h [
      | inl e ↦ IsIn-append_left y (f z) (flat_map f xs) (let P : X → Type 0 = λ w. IsIn y (f w) in subst P e k)
      | inr i ↦ IsIn-append_right y (f z) (flat_map f xs) (IsIn-flat_map f x xs y i k)
    ]

pub IsIn-flat_map_from : {X Y : Type 0} (f : X → List Y) (xs : List X) (y : Y) → IsIn y (flat_map f xs) → (x : X) × IsIn x xs × IsIn y (f x)
IsIn-flat_map_from f [] y h = absurd h
IsIn-flat_map_from f (z ∷ xs) y h =
    elim (IsIn-append_cases y (f z) (flat_map f xs) h)
    [ inl i ↦ (z, inl refl, i) | inr i ↦ (let found = IsIn-flat_map_from f xs y i in (found.0, inr found.1, found.2)) ]

pub IsIn-filter : {X : Type 0} (p : X → Bool) (x : X) (xs : List X) → IsIn x xs → p x ≡ true → IsIn x (filter p xs)
IsIn-filter p x [] h passes = absurd h
IsIn-filter {X} p x (z ∷ xs) h passes = here (p z) refl h (λ i. IsIn-filter p x xs i passes)
  where
    here : (b : Bool) → p z ≡ b → (x ≡ z) ⊎ IsIn x xs → (IsIn x xs → IsIn x (filter p xs)) → IsIn x (cond b (z ∷ filter p xs) (filter p xs))
    here true e (inl same) rest = inl same
    here true e (inr later) rest = inr (rest later)
    here false e (inl same) rest = cc
    here false e (inr later) rest = rest later

pub IsIn-filter_from : {X : Type 0} (p : X → Bool) (x : X) (xs : List X) → IsIn x (filter p xs) → IsIn x xs × (p x ≡ true)
IsIn-filter_from p x [] h = absurd h
IsIn-filter_from {X} p x (z ∷ xs) h = here (p z) refl h (IsIn-filter_from p x xs)
  where
    here : (b : Bool) → p z ≡ b → IsIn x (cond b (z ∷ filter p xs) (filter p xs)) → (IsIn x (filter p xs) → IsIn x xs × (p x ≡ true)) → IsIn x (z ∷ xs) × (p x ≡ true)
    here true e (inl same) rest = (inl same, cc)
    here true e (inr later) rest = let found = rest later in (inr found.0, found.1)
    here false e later rest = let found = rest later in (inr found.0, found.1)

-- what stands at a place of a list is one of it
pub IsIn-slice_get : {X : Type 0} (xs : List X) (n : ℕ) (x : X) → slice_get xs n ≡ Some x → IsIn x xs
IsIn-slice_get [] n x e = cc
IsIn-slice_get (y ∷ ys) zero x e = inl cc
IsIn-slice_get (y ∷ ys) (suc n) x e = inr (IsIn-slice_get ys n x e)
