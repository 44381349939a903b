-- More different parts of some sets than a table may have nodes.
use Rattle.std.specs.Prelude.{◌≡◌, ℕ, ◌+◌, ◌<◌, Bool, List, Some, length, slice_get}
use Rattle.list_defs.specs.Members.{IsIn}
use Rattle.diagram_defs.specs.Diagrams.{Diagram, Shape, member}
use Rattle.diagram_defs.specs.Parts.{IsPartOfSome}
use Rattle.diagram_defs.specs.Answers.{IsFullWithout}

-- a part of one of the sets, with some rest
abbrev pub IsPartOfAny : ℕ → List (List ℕ → Bool) → ℕ → (List ℕ → Bool) → Type 0
IsPartOfAny levels sets = IsPartOfSome levels (λ set. IsIn set sets)

-- each node means such a part
pub record AreParts (d : Diagram) (sets : List (List ℕ → Bool)) : Type 0 where
  pub each : (at : ℕ) (shape : Shape) → slice_get d.nodes at ≡ Some shape → IsPartOfAny (length d.arities) sets shape.level (member d.nodes (at + 2))

-- so many parts of the sets, no two of which have one level and the same rests
pub record HasParts (levels : ℕ) (sets : List (List ℕ → Bool)) (count : ℕ) : Type 0 where
  pub level_of : ℕ → ℕ
  pub part_of : ℕ → List ℕ → Bool
  pub each : (i : ℕ) → i < count → IsPartOfAny levels sets (level_of i) (part_of i)
  pub distinct : (i j : ℕ) → i < j → j < count → level_of i ≡ level_of j → ((rest : List ℕ) → part_of i rest ≡ part_of j rest) → ⊥

-- where a full table has parts of the sets alone, and one of their parts has no node, they have more parts than the
-- table may have nodes
abbrev pub CountsParts : Diagram → Type 0
CountsParts d = (sets : List (List ℕ → Bool)) (nodes : ℕ) → AreParts d sets → IsFullWithout d (IsPartOfAny (length d.arities) sets) nodes → HasParts (length d.arities) sets (d.bound + 1)
