-- Which things a list has.
use Rattle.std.specs.Prelude.{◌≡◌, ℕ, ◌+◌, Bool, true, not, ◌&&◌, ◌⊎◌, List, [], ◌∷◌, length, slice_get, Option, None, Some, if◌then◌else◌, nat_eq}
use Rattle.std.specs.List.{list_any}
use Rattle.std.specs.Option.{option_map}
use Rattle.std.specs.Cmp.Lexicographic.{pointwise}
use Rattle.std.proofs.Common.{suc}

-- x is one of the list
abbrev pub IsIn : {X : Type 0} → X → List X → Type 0
IsIn x [] = ⊥
IsIn x (y ∷ ys) = (x ≡ y) ⊎ IsIn x ys

-- whether no two of the list are the same, by a test of sameness
abbrev pub all_differ : {X : Type 0} → (X → X → Bool) → List X → Bool
all_differ same [] = true
all_differ same (x ∷ xs) = not (list_any (same x) xs) && all_differ same xs

-- the first place in the list of what passes a test
abbrev pub place_of : {X : Type 0} → (X → Bool) → List X → Option ℕ
place_of test [] = None
place_of test (x ∷ xs) = if test x then Some 0 else option_map suc (place_of test xs)

-- whether two names are the same, byte by byte
abbrev pub same_name : List ℕ → List ℕ → Bool
same_name = pointwise nat_eq

-- there are more than n things of a kind: a list of n + 1 different ones.
pub record HasMoreThan {X : Type 0} (n : ℕ) (P : X → Type 0) : Type 0 where
  pub things : List X
  pub count : length things ≡ n + 1
  pub each : (x : X) → IsIn x things → P x
  pub different : (i j : ℕ) (x : X) → slice_get things i ≡ Some x → slice_get things j ≡ Some x → i ≡ j
