-- Which kept numbers a kept number leads to.
use Rattle.std.specs.Prelude.{◌≡◌, ℕ, ◌+◌, ◌<◌, ◌⊎◌, Bool, true, List, [], ◌∷◌, Some, length, slice_get, slice_index}
use Rattle.diagram_defs.specs.Diagrams.{Shape, kid, kids_of}

-- a number leads to another by the values of a front
abbrev pub Leads : List Shape → ℕ → List ℕ → ℕ → Type 0
Leads nodes n [] m = n ≡ m
Leads nodes n (v ∷ front) m = (v < length (kids_of nodes n)) × Leads nodes (kid nodes n v) front m

abbrev pub IsMarked : List Bool → ℕ → Type 0
IsMarked marks n = slice_get marks n ≡ Some true

-- the marks stand at a number, and at all to which it leads
pub record AreReached (nodes : List Shape) (node : ℕ) (marks : List Bool) : Type 0 where
  pub size : length marks ≡ node + 1
  pub itself : IsMarked marks node
  pub leads : (n : ℕ) → IsMarked marks n → (front : List ℕ) × Leads nodes node front n
  pub kids : (n v : ℕ) → IsMarked marks n → v < length (kids_of nodes n) → IsMarked marks (kid nodes n v)

-- the new marks stand where the old ones do, and at the children
pub record MarksKids (kids : List ℕ) (old new : List Bool) : Type 0 where
  pub size : length new ≡ length old
  pub stay : (n : ℕ) → IsMarked old n → IsMarked new n
  pub marked : (v : ℕ) → v < length kids → IsMarked new (slice_index kids v)
  pub only : (n : ℕ) → IsMarked new n → IsMarked old n ⊎ ((v : ℕ) × (v < length kids) × (slice_index kids v ≡ n))
