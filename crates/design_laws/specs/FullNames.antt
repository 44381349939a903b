-- Sources in which no name is empty.
use Rattle.std.specs.Prelude.{◌≢◌, ℕ, List, [], ◌++◌}
use Rattle.std.specs.List.{flat_map}
use Rattle.pw_defs.specs.declared.netlist.Module.{Module}
use Rattle.list_defs.specs.Members.{IsIn}
use Rattle.design_defs.specs.Hierarchy.{Sources}
use Rattle.design_defs.specs.Inputs.{declared_names}
use Rattle.design_defs.specs.Places.{exprs_in, names_alone}

-- the names that a module declares, and those that stand alone in its expressions
abbrev pub names_of : Module → List (List ℕ)
names_of m = declared_names m ++ flat_map names_alone (exprs_in m)

-- No module of a netlist has an empty name in it. (Below an instance an empty name can't be told from the instance itself.)
abbrev pub HaveFullNames : Sources → Type 0
HaveFullNames s = (m : Module) (name : List ℕ) → IsIn m s.modules → IsIn name (names_of m) → name ≢ []
