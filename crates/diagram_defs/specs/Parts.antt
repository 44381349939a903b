-- Parts of sets, and what an operation may add to a table of nodes.
use Rattle.std.specs.Prelude.{◌≡◌, ℕ, ◌+◌, ◌≤◌, ◌<◌, Bool, true, List, ◌++◌, Some, length, slice_get}
use Rattle.diagram_defs.specs.Diagrams.{Diagram, Shape, IsNumberFor, Grows, member}

-- the part of a set of rests of `base` by a front: a level, and the rests that complete the front, of which there is one
pub record IsPartOf (levels base : ℕ) (set : List ℕ → Bool) (level : ℕ) (part : List ℕ → Bool) : Type 0 where
  pub front : List ℕ
  pub at : level ≡ base + length front
  pub level_in : level < levels
  pub same : (rest : List ℕ) → part rest ≡ set (front ++ rest)
  pub some : (rest : List ℕ) × (part rest ≡ true)

-- each node that was added means an allowed part
pub record AddsParts (old new : Diagram) (Allowed : ℕ → (List ℕ → Bool) → Type 0) : Type 0 where
  pub each : (at : ℕ) (shape : Shape) → slice_get new.nodes at ≡ Some shape → length old.nodes ≤ at → Allowed shape.level (member new.nodes (at + 2))

-- the table keeps what it has, and each node that was added means an allowed part
pub record GrowsBy (Allowed : ℕ → (List ℕ → Bool) → Type 0) (old new : Diagram) : Type 0 where
  pub grows : Grows old new
  pub adds : AddsParts old new Allowed

-- an allowed part has no node
pub record LacksPart (d : Diagram) (Allowed : ℕ → (List ℕ → Bool) → Type 0) : Type 0 where
  pub level : ℕ
  pub part : List ℕ → Bool
  pub allowed : Allowed level part
  pub absent : (n : ℕ) → IsNumberFor d level part n → ⊥

-- a part of one of some sets of whole states
pub record IsPartOfSome (levels : ℕ) (IsListed : (List ℕ → Bool) → Type 0) (level : ℕ) (part : List ℕ → Bool) : Type 0 where
  pub entry : List ℕ → Bool
  pub listed : IsListed entry
  pub of : IsPartOf levels 0 entry level part
