-- In a table each set of rests of a level has one number.
use Rattle.std.proofs.Common.{◌≡◌, ℕ, ◌+◌, ◌-◌, ◌≤◌, ◌⊎◌, false, List, length, sym, ap, ◌∙◌, inl, inr, arith}
use Rattle.diagram_defs.specs.Diagrams.{Diagram, member, IsPool, IsSet}
use Rattle.diagram_defs.specs.Diagrams.IsKid.{empty, whole, node}
use Rattle.diagram_defs.proofs.Canonical.{canonical, empty_alone}
use Rattle.diagram_defs.proofs.Meaning.{member-empty}
use Rattle.state_diagrams.specs.Uniqueness.{HasOneNumberEach}

-- past the last level 0 alone is a number
within : (d : Diagram) (level n : ℕ) → IsPool d → IsSet d level n → (n ≡ 0) ⊎ (level ≤ length d.arities)
within d level n pool (empty z) = inl z
within d level n pool (whole w at) = inr (omega arith)
within d level n pool (node at shape is below there same) = let inside = (pool.nodes.each at shape there).level_in in inr (omega arith)

zero_alone : (d : Diagram) (level n : ℕ) → IsPool d → IsSet d level n → ((rest : List ℕ) → member d.nodes n rest ≡ false) → n ≡ 0
zero_alone d level n pool is none =
    elim (within d level n pool is) [
      | inl z ↦ z
      | inr low ↦ let fits : level + (length d.arities - level) ≡ length d.arities = omega arith in empty_alone d.arities d.nodes pool.nodes pool.sharp (length d.arities - level) (length d.nodes) level n fits is none
    ]

one_each : (d : Diagram) (level a b : ℕ) → IsPool d → IsSet d level a → IsSet d level b → ((rest : List ℕ) → member d.nodes a rest ≡ member d.nodes b rest) → a ≡ b
one_each d level a b pool first second agree =
    elim (within d level a pool first) [
      | inl z ↦ z ∙ sym (zero_alone d level b pool second (λ rest. sym (agree rest) ∙ ap (λ (n : ℕ). member d.nodes n rest) z ∙ member-empty d.nodes rest))
      | inr low ↦ let fits : level + (length d.arities - level) ≡ length d.arities = omega arith in canonical d.arities d.nodes pool.nodes pool.sharp (length d.arities - level) (length d.nodes) level a b fits first second agree
    ]

pub one_number_each : (d : Diagram) → IsPool d → HasOneNumberEach d
one_number_each d pool =
    record { one = λ level a b first second agree. one_each d level a b pool first second agree; none = λ level n is none. zero_alone d level n pool is none }
