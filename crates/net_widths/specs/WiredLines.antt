-- Lines of modules that are wired where a design has no fault of types, ports and widths.
use Rattle.std.specs.Prelude.{◌≢◌, ℕ, []}
use Rattle.pw_defs.specs.declared.netlist.Assign.{Assign}
use Rattle.pw_defs.specs.declared.netlist.Module.{Module}
use Rattle.list_defs.specs.Members.{IsIn}
use Rattle.design_defs.specs.DesignFaults.{FaultKind, HasNoneBefore}
use Rattle.design_defs.specs.Hierarchy.{IsOfModule, Sources, Way}
use Rattle.design_defs.specs.Places.{names_in}
use Rattle.net_runs.specs.Wired.{IsWired}

-- each assignment of a module names something on its left side
abbrev pub HasTargets : Module → Type 0
HasTargets m = (a : Assign) → IsIn a m.assigns → names_in a.left ≢ []

-- where no fault comes before those of names, the lines of each module that some way leads to are wired
abbrev pub HasWiredLines : Type 0
HasWiredLines = (s : Sources) (way : Way) (n : ℕ) (m : Module) → IsOfModule s way n m → HasTargets m → HasNoneBefore FaultKind.path_twice s → IsWired s m
