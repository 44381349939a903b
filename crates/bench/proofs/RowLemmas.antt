-- Rows of numbers of one level.
use Rattle.std.proofs.Common.{◌≡◌, ℕ, ◌<◌, List, [], ◌∷◌, ◌++◌, length, get_or, refl, sym, subst, inl, inr, arith}
use Rattle.std.proofs.lemmas.List.{get_or_past, get_or_push, get_or_append_left, length_push}
use Rattle.std.proofs.lemmas.Bool.{cases_lt}
use Rattle.diagram_defs.specs.Diagrams.{Diagram, AreKids, IsSet, Grows}
use Rattle.diagram_defs.specs.Diagrams.IsKid.{empty, whole}
use Rattle.diagram_defs.proofs.Growth.{IsSet_grows}
use Rattle.bench.specs.Rows.{ArePicked}

-- what holds of each number of a list and of one more
pub each_push : (P : ℕ → Type 0) (xs : List ℕ) (x : ℕ) → ((v : ℕ) → v < length xs → P (get_or xs v 0)) → P x → (v : ℕ) → v < length (xs ++ x ∷ []) → P (get_or (xs ++ x ∷ []) v 0)
each_push P xs x each last v low = elim (cases_lt v (length xs)) [
  | inl early ↦ subst P (sym (get_or_append_left xs (x ∷ []) 0 v early)) (each v early)
  | inr late ↦
      let place : length xs ≡ v = omega (arith, length_push xs x) in
      subst P (sym (get_or_push xs x 0 v place)) last
]

-- a row of numbers of a level
abbrev pub IsRow : Diagram → ℕ → List ℕ → Type 0
IsRow d level kids = AreKids d.arities d.nodes (length d.nodes) level kids

pub IsRow_none : (d : Diagram) (level : ℕ) → IsRow d level []
IsRow_none d level = record { each = λ v low. absurd (omega arith) }

pub IsRow_push : (d : Diagram) (level : ℕ) (kids : List ℕ) (n : ℕ) → IsRow d level kids → IsSet d level n → IsRow d level (kids ++ n ∷ [])
IsRow_push d level kids n row is = record { each = each_push (IsSet d level) kids n row.each is }

pub IsRow_grows : (old new : Diagram) (level : ℕ) (kids : List ℕ) → Grows old new → IsRow old level kids → IsRow new level kids
IsRow_grows old new level kids g row = record { each = λ v low. IsSet_grows old new level (get_or kids v 0) g (row.each v low) }

-- behind the last level
pub IsRow_end : (d : Diagram) (level : ℕ) → level ≡ length d.arities → IsRow d level ((([] ++ 1 ∷ []) ++ 0 ∷ []))
IsRow_end d level end = IsRow_push d level ([] ++ 1 ∷ []) 0 (IsRow_push d level [] 1 (IsRow_none d level) (whole refl end)) (empty refl)

pub row_number : (d : Diagram) (level : ℕ) (kids : List ℕ) (v : ℕ) → IsRow d level kids → IsSet d level (get_or kids v 0)
row_number d level kids v row = elim (cases_lt v (length kids)) [
  | inl low ↦ row.each v low
  | inr past ↦ empty (get_or_past kids v 0 past)
]

-- numbers that are picked from a row
pub picked_row : (d : Diagram) (level : ℕ) (given kids : List ℕ) → IsRow d level given → ArePicked given kids → IsRow d level kids
picked_row d level given kids row picked = record { each = λ v low. let there = picked.each v low in subst (IsSet d level) (sym there.1) (row_number d level given there.0 row) }
