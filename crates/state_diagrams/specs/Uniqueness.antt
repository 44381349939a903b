-- Sets of rests and their numbers, one to one.
use Rattle.std.specs.Prelude.{◌≡◌, ℕ, false, List}
use Rattle.diagram_defs.specs.Diagrams.{Diagram, IsSet, member}

-- two numbers of a level that mean the same set are equal, and only 0 means the empty set
pub record HasOneNumberEach (d : Diagram) : Type 0 where
  pub one : (level a b : ℕ) → IsSet d level a → IsSet d level b → ((rest : List ℕ) → member d.nodes a rest ≡ member d.nodes b rest) → a ≡ b
  pub none : (level n : ℕ) → IsSet d level n → ((rest : List ℕ) → member d.nodes n rest ≡ false) → n ≡ 0
