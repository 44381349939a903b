-- Soft macros above an instance, by number.
use Rattle.std.specs.Prelude.{◌≡◌, ℕ, ◌<◌, ◌≤◌, Bool, not, ◌&&◌, ◌||◌, List, [], ◌∷◌, Some}
use Rattle.pw_defs.specs.declared.design.Design.{Design}
use Rattle.list_defs.specs.Members.{same_name}
use Rattle.design_defs.specs.Joined.{parent_of}
use Rattle.script_defs.specs.Scopes.{is_one_of, is_soft_macro, macros_inside}
use Rattle.script_scopes.specs.Standing.{own_path}

-- whether an instance has a unit of its own: the top and each soft macro
abbrev pub is_unit : Design → List (List ℕ) → List ℕ → Bool
is_unit d marks path = same_name path [] || is_soft_macro d marks path

-- whether an instance counts for the nesting of marks: the top doesn't
abbrev pub is_nesting_mark : List (List ℕ) → List ℕ → Bool
is_nesting_mark marks path = is_one_of path marks && not (same_name path [])

-- the soft macros at or above an instance that are further in than a unit, both by number
abbrev pub macros_from : Design → List (List ℕ) → ℕ → ℕ → List (List ℕ)
macros_from d marks unit inst = macros_inside d marks (own_path d unit) (own_path d inst)

-- n is the innermost of them, and the others are those at or above what n is inside
pub record IsInnermost (d : Design) (marks : List (List ℕ)) (unit inst n : ℕ) : Type 0 where
  pub later : 0 < n
  pub up : n ≤ inst
  pub others : (outer : ℕ) → parent_of d n ≡ Some (Some outer) → macros_from d marks unit inst ≡ own_path d n ∷ macros_from d marks unit outer
