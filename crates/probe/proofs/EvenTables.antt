-- Tables whose levels have equally many values, and numbers of their levels.
use Rattle.std.proofs.Common.{◌≡◌, ℕ, zero, suc, ◌≤◌, ◌<◌, List, [], ◌∷◌, length, get_or, replicate, ap, ◌∙◌, subst, arith}
use Rattle.std.proofs.lemmas.List.{get_or-replicate, length-replicate}
use Rattle.diagram_defs.specs.Diagrams.{Diagram, AreArities, AreKids, IsSet, AreOfOneLevel}
use Rattle.diagram_defs.specs.Diagrams.IsKid.{empty, whole, node}

pub even_arities : (arities : List ℕ) (levels arity : ℕ) → arities ≡ replicate levels arity → levels ≤ 1024 → 1 ≤ arity → arity ≤ 64 → AreArities arities
even_arities arities levels arity all few low high =
    let count = ap length all ∙ length-replicate levels arity in
    let at : (level : ℕ) → level < length arities → get_or arities level 0 ≡ arity = λ level inside.
    let within : level < levels = omega arith in
    ap (λ (as' : List ℕ). get_or as' level 0) all ∙ get_or-replicate levels level arity 0 within in
    record {
      levels = omega arith;
      low = λ level inside. let e = at level inside in omega arith;
      high = λ level inside. let e = at level inside in omega arith;
    }

-- the empty rest stands behind the last level
pub whole_at_end : (d : Diagram) (level : ℕ) → IsSet d level 1 → level ≡ length d.arities
whole_at_end d level (empty z) = absurd (omega arith)
whole_at_end d level (whole w end) = end
whole_at_end d level (node at shape is below there same) = absurd (omega arith)

-- the empty set is of each level
pub zero_anywhere : (d : Diagram) (level n : ℕ) → n ≡ 0 → IsSet d level n
zero_anywhere d level n z = empty z

-- a number is of the level that was found for it
pub found_level : (d : Diagram) (level found n : ℕ) → found ≡ level → IsSet d found n → IsSet d level n
found_level d level found n same is = subst (λ (l : ℕ). IsSet d l n) same is

pub one_level : (d : Diagram) (level a b : ℕ) → IsSet d level a → IsSet d level b → AreOfOneLevel d a b
one_level d level a b first second = record { level = level; first = first; second = second }

pub pair_of_kids : (d : Diagram) (level a b : ℕ) → IsSet d level a → IsSet d level b → AreKids d.arities d.nodes (length d.nodes) level (a ∷ b ∷ [])
pair_of_kids d level a b first second = record { each = each }
  where
    each : (v : ℕ) → v < length (a ∷ b ∷ []) → IsSet d level (get_or (a ∷ b ∷ []) v 0)
    each zero inside = first
    each (suc zero) inside = second
    each (suc (suc v)) inside = absurd (omega arith)
