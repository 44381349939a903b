-- The instances that a script marks as soft macros, by number.
use Rattle.std.specs.Prelude.{ℕ, ◌<◌, nat_eq, List, [], ◌∷◌, ◌++◌, length, map, if◌then◌else◌}
use Rattle.std.specs.List.{list_any}
use Rattle.pw_defs.specs.declared.design.Design.{Design}
use Rattle.list_defs.specs.Members.{IsIn}
use Rattle.script_scopes.specs.Standing.{own_path}

-- the paths of the marked instances, in the order of marking
abbrev pub marked : Design → List ℕ → List (List ℕ)
marked d numbers = map (own_path d) numbers

-- each is the number of an instance
abbrev pub AreThere : Design → List ℕ → Type 0
AreThere d numbers = (n : ℕ) → IsIn n numbers → n < length d.insts

-- one number more, which stands once
abbrev pub with_number : List ℕ → ℕ → List ℕ
with_number numbers n = if list_any (nat_eq n) numbers then numbers else numbers ++ n ∷ []
