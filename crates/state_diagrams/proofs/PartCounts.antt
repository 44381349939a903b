-- The nodes of a full table and a part that has none are different parts.
use Rattle.std.proofs.Common.{◌≡◌, ℕ, ◌+◌, ◌<◌, Bool, true, false, if◌then◌else◌, nat_lt, List, [], length, get_or, refl, sym, ◌∙◌, subst, arith}
use Rattle.std.proofs.lemmas.Bool.{ltb-true, ltb-false}
use Rattle.std.proofs.lemmas.Option.{slice_get-get_or}
use Rattle.diagram_defs.specs.Diagrams.{Diagram, member, IsPool, IsSet}
use Rattle.diagram_defs.specs.Diagrams.IsKid.{node}
use Rattle.diagram_defs.specs.Answers.{IsFullWithout}
use Rattle.state_diagrams.specs.Counts.{IsPartOfAny, AreParts, HasParts}
use Rattle.state_diagrams.proofs.OneNumber.{one_number_each}

module _ (d : Diagram) (pool : IsPool d) (sets : List (List ℕ → Bool)) (nodes : ℕ) (parts : AreParts d sets) (full : IsFullWithout d (IsPartOfAny (length d.arities) sets) nodes) where
  abbrev node_level : ℕ → ℕ
  node_level i = (get_or d.nodes i (record { level = 0; kids = [] })).level

  of_node : (i : ℕ) → i < length d.nodes → IsSet d (node_level i) (i + 2)
  of_node i low = node i (get_or d.nodes i (record { level = 0; kids = [] })) refl low (slice_get-get_or d.nodes i (record { level = 0; kids = [] }) low) refl

  abbrev level_if : Bool → ℕ → ℕ
  level_if b i = if b then node_level i else full.missing.level

  abbrev part_if : Bool → ℕ → List ℕ → Bool
  part_if b i = if b then member d.nodes (i + 2) else full.missing.part

  each : (i : ℕ) (b : Bool) → nat_lt i (length d.nodes) ≡ b → IsPartOfAny (length d.arities) sets (level_if b i) (part_if b i)
  each i true e =
      parts.each i (get_or d.nodes i (record { level = 0; kids = [] })) (slice_get-get_or d.nodes i (record { level = 0; kids = [] }) (ltb-true i (length d.nodes) e))
  each i false e = full.missing.allowed

  distinct : (i j : ℕ) → i < j → j < d.bound + 1 → (a b : Bool) → nat_lt i (length d.nodes) ≡ a → nat_lt j (length d.nodes) ≡ b → level_if a i ≡ level_if b j → ((rest : List ℕ) → part_if a i rest ≡ part_if b j rest) → ⊥
  distinct i j order low true true e f level same =
      let first = of_node i (ltb-true i (length d.nodes) e) in
      let second = subst (λ (l : ℕ). IsSet d l (j + 2)) (sym level) (of_node j (ltb-true j (length d.nodes) f)) in
      let one = (one_number_each d pool).one (node_level i) (i + 2) (j + 2) first second same in
      absurd (omega arith)
  distinct i j order low true false e f level same =
      let here = of_node i (ltb-true i (length d.nodes) e) in
      full.missing.absent (i + 2) (record { in_level = subst (λ (l : ℕ). IsSet d l (i + 2)) level here; same = same })
  distinct i j order low false b e f level same =
      let past = ltb-false i (length d.nodes) e in
      let size : length d.nodes ≡ d.bound = sym full.counted ∙ full.full in
      absurd (omega arith)

  pub more_parts : HasParts (length d.arities) sets (d.bound + 1)
  more_parts = record {
    level_of = λ i. level_if (nat_lt i (length d.nodes)) i;
    part_of = λ i. part_if (nat_lt i (length d.nodes)) i;
    each = λ i low. each i (nat_lt i (length d.nodes)) refl;
    distinct = λ i j order low level same. distinct i j order low (nat_lt i (length d.nodes)) (nat_lt j (length d.nodes)) refl refl level same;
  }
