-- Rows with their names.
use Rattle.std.specs.Prelude.{ℕ, zero, suc, List, [], ◌∷◌, map}

-- the names alone
abbrev pub names_in : {X : Type 0} → List (List ℕ × X) → List (List ℕ)
names_in {X} rows = map (λ (p : List ℕ × X). p.0) rows

-- the rows alone
abbrev pub rows_in : {X : Type 0} → List (List ℕ × X) → List X
rows_in {X} rows = map (λ (p : List ℕ × X). p.1) rows

-- the rows, of which the one at a place is another
abbrev pub with_row : {X : Type 0} → List (List ℕ × X) → ℕ → X → List (List ℕ × X)
with_row [] n row = []
with_row (p ∷ rows) zero row = (p.0, row) ∷ rows
with_row (p ∷ rows) (suc n) row = p ∷ with_row rows n row
