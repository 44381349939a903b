-- What an expression names is what its names and constants do, from the left.
use Rattle.std.specs.Prelude.{◌≡◌}
use Rattle.std.specs.List.{flat_map}
use Rattle.pw_defs.specs.declared.netlist.Expr.{Expr}
use Rattle.pw_defs.specs.declared.netlist.Module.{Module}
use Rattle.design_defs.specs.Places.{misselected, names_alone, names_in, signals}
use Rattle.module_rows.specs.Leaves.{leaves}

-- the bits of an expression are those of its names and constants
abbrev pub HasSignalsOfLeaves : Type 0
HasSignalsOfLeaves = (m : Module) (e : Expr) → signals m e ≡ flat_map (signals m) (leaves e)

-- what an expression selects wrongly is what its names do
abbrev pub HasMisselectedOfLeaves : Type 0
HasMisselectedOfLeaves = (m : Module) (e : Expr) → misselected m e ≡ flat_map (misselected m) (leaves e)

-- the names of an expression that stand alone are those among its names
abbrev pub HasAloneOfLeaves : Type 0
HasAloneOfLeaves = (e : Expr) → names_alone e ≡ flat_map names_alone (leaves e)

-- the names in an expression are those of its names
abbrev pub HasNamesOfLeaves : Type 0
HasNamesOfLeaves = (e : Expr) → names_in e ≡ flat_map names_in (leaves e)
