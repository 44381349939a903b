-- Orders, lists in order, and what is least.
use Rattle.std.specs.Prelude.{◌≡◌, ◌≢◌, ℕ, List, [], ◌∷◌}
use Rattle.std.specs.List.{AllByRecursion}
use Rattle.std.specs.List.Sorted.{IsPermutation, IsSorted, IsStable}
use Rattle.std.specs.Ordering.{nat_cmp}
use Rattle.std.specs.Cmp.Lexicographic.{slice_cmp}
use Rattle.std.specs.declared.cmp.Ordering.{Ordering}
use Rattle.std.specs.declared.cmp.Ordering.TheVariants.{Less}
use Rattle.list_defs.specs.Members.{IsIn}

-- names are compared byte by byte
abbrev pub name_cmp : List ℕ → List ℕ → Ordering
name_cmp = slice_cmp nat_cmp

-- each comes before all that stand behind it
abbrev pub IsRising : {X : Type 0} → (X → X → Ordering) → List X → Type 0
IsRising cmp [] = Unit {0}
IsRising cmp (x ∷ xs) = AllByRecursion (λ y. cmp x y ≡ Less) xs × IsRising cmp xs

-- the list has each x with P once, in rising order, and nothing else
pub record AreAllRising {X : Type 0} (cmp : X → X → Ordering) (P : X → Type 0) (xs : List X) : Type 0 where
  pub rising : IsRising cmp xs
  pub each : (x : X) → IsIn x xs → P x
  pub all : (x : X) → P x → IsIn x xs

-- x has P, and nothing with P comes before it
pub record IsLeast {X : Type 0} (cmp : X → X → Ordering) (P : X → Type 0) (x : X) : Type 0 where
  pub holds : P x
  pub least : (y : X) → P y → cmp y x ≢ Less

-- ys is xs put in order, ties in their old order
pub record IsPutInOrder {X : Type 0} (cmp : X → X → Ordering) (xs ys : List X) : Type 0 where
  pub same : IsPermutation xs ys
  pub sorted : IsSorted cmp ys
  pub stable : IsStable cmp xs ys
