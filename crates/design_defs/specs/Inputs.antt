-- What is known of modules, cells and models that were read: what a design is made from.
use Rattle.std.specs.Prelude.{◌≡◌, ℕ, true, List, ◌++◌, Some, IsSome, IsTrue, map, count_by}
use Rattle.pw_defs.specs.declared.cells.Cell.{Cell}
use Rattle.pw_defs.specs.declared.cells.Pin.{Pin}
use Rattle.pw_defs.specs.declared.model.Model.{Model}
use Rattle.pw_defs.specs.declared.netlist.Assign.{Assign}
use Rattle.pw_defs.specs.declared.netlist.Inst.{Inst}
use Rattle.pw_defs.specs.declared.netlist.Module.{Module}
use Rattle.pw_defs.specs.declared.netlist.Net.{Net}
use Rattle.pw_defs.specs.declared.netlist.Port.{Port}
use Rattle.list_defs.specs.Members.{IsIn, all_differ, same_name}
use Rattle.design_defs.specs.Drivers.{is_interface_cell}
use Rattle.design_defs.specs.Hierarchy.{Sources}
use Rattle.design_defs.specs.Models.{HasWellFormedFields}
use Rattle.design_defs.specs.Places.{Signal, signals}
use Rattle.design_defs.specs.Ports.{is_output}
use Rattle.design_defs.specs.Sound.{HasItsPins}

-- no two names are the same
abbrev pub AllDiffer : List (List ℕ) → Type 0
AllDiffer names = IsTrue (all_differ same_name names)

-- an isolation cell or level shifter has a through pin and one output pin
pub record HasItsRoles (c : Cell) : Type 0 where
  pub through : is_interface_cell (Some c) ≡ true → IsSome c.through
  pub one_output : is_interface_cell (Some c) ≡ true → count_by (λ (p : Pin). is_output (Some p.dir)) c.pins ≡ 1

-- a cell as a library gives it: its pins have names of their own, and its roles are those of pins
pub record IsReadCell (c : Cell) : Type 0 where
  pub pin_names : AllDiffer (map (λ (p : Pin). p.name) c.pins)
  pub pins : HasItsPins c
  pub roles : HasItsRoles c

-- the names of ports, wires and instances of a module, which share one space
abbrev pub declared_names : Module → List (List ℕ)
declared_names m = map (λ (p : Port). p.name) m.ports ++ map (λ (n : Net). n.name) m.nets ++ map (λ (i : Inst). i.name) m.insts

-- a module as a netlist gives it: nothing is declared twice, and no constant stands on the left of an assignment
pub record IsReadModule (m : Module) : Type 0 where
  pub own_names : AllDiffer (declared_names m)
  pub no_constant : (a : Assign) → IsIn a m.assigns → IsIn Signal.constant (signals m a.left) → ⊥

-- what was read fits together: cells of names of their own, and one model at most for each module
pub record AreReadSources (s : Sources) : Type 0 where
  pub each_cell : (c : Cell) → IsIn c s.cells.cells → IsReadCell c
  pub each_module : (m : Module) → IsIn m s.modules → IsReadModule m
  pub each_model : (m : Model) → IsIn m s.models → HasWellFormedFields m
  pub cell_names : AllDiffer (map (λ (c : Cell). c.name) s.cells.cells)
  pub model_names : AllDiffer (map (λ (m : Model). m.module) s.models)
