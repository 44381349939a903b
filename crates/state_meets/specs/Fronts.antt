-- What first ones of several sets make.
use Rattle.std.specs.Prelude.{◌≡◌, ℕ, Bool, List, take, length}
use Rattle.diagram_defs.specs.declared.locals.Local.{Local}
use Rattle.diagram_defs.specs.declared.quantifiers.Quantifier.{Quantifier}
use Rattle.diagram_defs.specs.Diagrams.{Diagram}
use Rattle.diagram_defs.specs.Parts.{IsPartOfSome}
use Rattle.state_meets.specs.Gathered.{gathered_set}

-- the whole states that are in all of some first ones of the sets, or in any of them
pub record IsFront (d : Diagram) (which : Quantifier) (sets : List Local) (entry : List ℕ → Bool) : Type 0 where
  pub count : ℕ
  pub same : (state : List ℕ) → entry state ≡ gathered_set d which (take count sets) state

-- a part of one of these
abbrev pub IsPartOfFront : Diagram → Quantifier → List Local → ℕ → (List ℕ → Bool) → Type 0
IsPartOfFront d which sets = IsPartOfSome (length d.arities) (IsFront d which sets)
