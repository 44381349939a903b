-- Several sets at once, where some begin at later levels.
use Rattle.std.specs.Prelude.{◌≡◌, ℕ, ◌+◌, ◌≤◌, Bool, true, ◌&&◌, List, [], ◌∷◌, ◌++◌, All, map, drop, slice_index_or}
use Rattle.diagram_defs.specs.declared.quantifiers.Quantifier.{Quantifier}
use Rattle.diagram_defs.specs.Diagrams.{Diagram, Shape, IsSet, kid, member}
use Rattle.diagram_defs.specs.Sets.{full_set}
use Rattle.diagram_defs.specs.Quantified.{quantified, quantified_two, quantified_none}

-- whether a rest is in all of the sets of some numbers, or in any of them
abbrev pub meet : Quantifier → List Shape → List ℕ → List ℕ → Bool
meet which nodes numbers rest = quantified which (λ n. member nodes n rest) numbers

-- whether it is in those of the numbers that begin at its level, and its ends in those of the later levels
abbrev pub later : Quantifier → List Shape → List (List ℕ) → List ℕ → Bool
later which nodes [] rest = quantified_none which
later which nodes (begun ∷ more) rest = quantified_two which (meet which nodes begun rest) (later which nodes more (drop 1 rest))

-- the rests of a level that are in the sets of some numbers, and whose ends are in those that begin at later levels
abbrev pub walk_set : Diagram → Quantifier → List (List ℕ) → ℕ → List ℕ → List ℕ → Bool
walk_set d which begun level numbers rest =
    full_set d level rest && quantified_two which (meet which d.nodes numbers rest) (later which d.nodes (drop (level + 1) begun) (drop 1 rest))

-- each is a number of the level
abbrev pub AreSets : Diagram → ℕ → List ℕ → Type 0
AreSets d level numbers = All (IsSet d level) numbers

-- from a level on, each list has numbers of its level
abbrev pub AreBegun : Diagram → ℕ → List (List ℕ) → Type 0
AreBegun d level begun = (k : ℕ) → AreSets d (level + k) (slice_index_or begun k [])

-- from the level on nothing begins
abbrev pub IsOver : List (List ℕ) → ℕ → Type 0
IsOver begun level = (k : ℕ) → level ≤ k → slice_index_or begun k [] ≡ []

-- all rests of a level, or none
abbrev pub constant_set : Diagram → ℕ → Bool → List ℕ → Bool
constant_set d level holds rest = full_set d level rest && holds

-- the numbers whose sets decide what stands behind a value: the children there, and those that begin at the next level
abbrev pub numbers_behind : List Shape → List (List ℕ) → ℕ → List ℕ → ℕ → List ℕ
numbers_behind nodes begun level numbers v = map (λ n. kid nodes n v) numbers ++ slice_index_or begun (level + 1) []

-- a tuple that may be taken in place of the numbers: it says the same of each rest of the level
pub record Stands (d : Diagram) (which : Quantifier) (level : ℕ) (numbers tuple : List ℕ) : Type 0 where
  pub sets : AreSets d level tuple
  pub same : (rest : List ℕ) → full_set d level rest ≡ true → meet which d.nodes tuple rest ≡ meet which d.nodes numbers rest
