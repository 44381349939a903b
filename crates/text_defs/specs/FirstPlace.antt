-- The first place of a list at which something holds, and each of a list at its first place.
use Rattle.std.specs.Prelude.{◌≡◌, ◌≤◌, Bool, not, List, [], ◌∷◌, ◌++◌, length}
use Rattle.std.specs.List.{filter}

-- x is the first of the list for which P holds, by what stands before it and behind it
pub record IsFirstPlace {X : Type 0} (P : List X → X → List X → Type 0) (xs : List X) (x : X) : Type 0 where
  pub before : List X
  pub behind : List X
  pub split : xs ≡ before ++ x ∷ behind
  pub holds : P before x behind
  pub first : (front : List X) (y : X) (rest : List X) → xs ≡ front ++ y ∷ rest → P front y rest → length before ≤ length front

-- P holds for none of the list
abbrev pub HasNoPlace : {X : Type 0} → (List X → X → List X → Type 0) → List X → Type 0
HasNoPlace {X} P xs = (front : List X) (y : X) (rest : List X) → xs ≡ front ++ y ∷ rest → ¬ P front y rest

-- each of a list once, at its first place, by a test of sameness
unfoldable pub firsts : {X : Type 0} → (X → X → Bool) → List X → List X
firsts same [] = []
firsts same (x ∷ xs) = x ∷ filter (λ y. not (same x y)) (firsts same xs)

-- P holds for one of the list
abbrev pub HasPlace : {X : Type 0} → (List X → X → List X → Type 0) → List X → Type 0
HasPlace {X} P xs = (front : List X) × (y : X) × (rest : List X) × (xs ≡ front ++ y ∷ rest) × P front y rest
