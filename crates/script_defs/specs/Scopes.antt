-- Scopes: the paths of instances, what stands above an instance, and the units that soft macros make.
use Rattle.std.specs.Prelude.{ℕ, zero, suc, Bool, true, false, not, ◌&&◌, ◌||◌, nat_eq, List, [], ◌∷◌, ◌++◌, Option, None, Some, option_map, option_and_then, unwrap_or, length, slice_get, codes, if◌then◌else◌}
use Rattle.std.specs.List.{list_any, find, filter, take_while, starts_with}
use Rattle.pw_defs.specs.declared.design.Body.{Body}
use Rattle.pw_defs.specs.declared.design.Body.TheVariants.{Module, Cell, Model}
use Rattle.pw_defs.specs.declared.design.Design.{Design}
use Rattle.pw_defs.specs.declared.design.Instance.{Instance}
use Rattle.list_defs.specs.Members.{same_name}
use Rattle.design_defs.specs.Names.{joined}

-- the instance at a path
abbrev pub instance_at : Design → List ℕ → Option Instance
instance_at d path = find (λ i. same_name path i.path) d.insts

-- what the instance at a path is an instance of
abbrev pub body_at : Design → List ℕ → Option Body
body_at d path = option_map (λ i. i.body) (instance_at d path)

abbrev pub is_module : Option Body → Bool
is_module (Some (Module m)) = true
is_module _ = false

abbrev pub is_leaf_cell : Option Body → Bool
is_leaf_cell (Some (Cell c)) = true
is_leaf_cell _ = false

abbrev pub is_model : Option Body → Bool
is_model (Some (Model m)) = true
is_model _ = false

-- whether a model stands for the instance at a path
abbrev pub is_modelled : Design → List ℕ → Bool
is_modelled d path = is_model (body_at d path)

-- The instance that a word names from a scope, by its path: `.` is the scope's own.
abbrev pub path_from : List ℕ → List ℕ → List ℕ
path_from scope word = if same_name word (codes ".") then scope else joined scope word

-- the path of an instance and of those above it, from the inside out, through at most n of them
abbrev pub paths_up : Design → ℕ → Option Instance → List (List ℕ)
paths_up d zero at = []
paths_up d (suc n) None = []
paths_up d (suc n) (Some inst) = inst.path ∷ paths_up d n (option_and_then (slice_get d.insts) inst.parent)

-- the instance at a path and those above it, from the inside out
abbrev pub at_or_above : Design → List ℕ → List (List ℕ)
at_or_above d path = paths_up d (length d.insts) (instance_at d path)

-- those above the instance at a path, from the inside out
abbrev pub above : Design → List ℕ → List (List ℕ)
above d path = filter (λ p. not (same_name p path)) (at_or_above d path)

abbrev pub is_one_of : List ℕ → List (List ℕ) → Bool
is_one_of name names = list_any (same_name name) names

-- an instance is a soft macro where it is marked or a model stands for it; the top is none
abbrev pub is_soft_macro : Design → List (List ℕ) → List ℕ → Bool
is_soft_macro d marks [] = false
is_soft_macro d marks (c ∷ cs) = is_one_of (c ∷ cs) marks || is_modelled d (c ∷ cs)

-- The unit at or above an instance: the innermost soft macro there, else the top.
abbrev pub unit_of : Design → List (List ℕ) → List ℕ → List ℕ
unit_of d marks path = unwrap_or (find (is_soft_macro d marks) (at_or_above d path)) []

-- the soft macros at or above an instance that are further in than a unit
abbrev pub macros_inside : Design → List (List ℕ) → List ℕ → List ℕ → List (List ℕ)
macros_inside d marks unit path = filter (is_soft_macro d marks) (take_while (λ p. not (same_name p unit)) (at_or_above d path))

-- how many soft macros are marked at or above an instance, the top not counted
abbrev pub nesting : Design → List (List ℕ) → List ℕ → ℕ
nesting d marks path = length (filter (λ p. is_one_of p marks && not (same_name p [])) (at_or_above d path))

-- whether a name stands below an instance, as far as its bytes go
abbrev pub begins_below : List ℕ → List ℕ → Bool
begins_below path name = starts_with nat_eq name (path ++ 47 ∷ [])

-- a path as refusals show it: that of the top is `.`
abbrev pub shown_path : List ℕ → List ℕ
shown_path [] = codes "."
shown_path (c ∷ cs) = c ∷ cs
