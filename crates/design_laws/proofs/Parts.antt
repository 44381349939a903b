-- A design that is made from sources has their cells and models, and their modules with the same ports.
use Rattle.std.proofs.Common.{◌≡◌, ℕ, ◌==◌, ◌&&◌, not, Option, Some, None, option_map, option_and_then, List, map, slice_get, refl, ap, ◌∙◌}
use Rattle.std.proofs.lemmas.Option.{slice_get-map}
use Rattle.pw_defs.specs.declared.cells.Cell.{Cell}
use Rattle.pw_defs.specs.declared.cells.Cells.{Cells}
use Rattle.pw_defs.specs.declared.cells.Dir.{Dir}
use Rattle.pw_defs.specs.declared.cells.Pin.{Pin}
use Rattle.pw_defs.specs.declared.design.Body.{Body}
use Rattle.pw_defs.specs.declared.design.Body.TheVariants.{Module as ModuleBody, Cell as CellBody, Model as ModelBody}
use Rattle.pw_defs.specs.declared.design.Design.{Design}
use Rattle.pw_defs.specs.declared.design.PortBit.{PortBit}
use Rattle.pw_defs.specs.declared.model.Model.{Model}
use Rattle.pw_defs.specs.declared.netlist.Module.{Module}
use Rattle.pw_defs.specs.declared.netlist.Port.{Port}
use Rattle.design_defs.specs.Designs.{IsMadeFrom, head_of, parts_of}
use Rattle.design_defs.specs.Drivers.{begins_signal_in, is_interface_cell, passes_on_in}
use Rattle.design_defs.specs.Hierarchy.{Sources, ports_in}
use Rattle.design_defs.specs.Ports.{dir_in, is_input, is_output, port_of_pin, ports_among}

-- the head of a module has its ports
head_ports : (ms : List Module) (n : ℕ) → option_map (λ (x : Module). x.ports) (slice_get (map head_of ms) n) ≡ option_map (λ (x : Module). x.ports) (slice_get ms n)
head_ports ms n = ap (option_map (λ (x : Module). x.ports)) (slice_get-map head_of ms n) ∙ by (slice_get ms n)
  where
    by : (o : Option Module) → option_map (λ (x : Module). x.ports) (option_map head_of o) ≡ option_map (λ (x : Module). x.ports) o
    by None = refl
    by (Some m) = refl

-- what a body has as ports is the same in the design
pub same_ports : (s : Sources) (d : Design) → IsMadeFrom s d → (body : Body) → ports_among d.modules d.cells d.models body ≡ ports_in s body
same_ports s d made (ModuleBody m) = ap (λ ms. option_map (λ (x : Module). x.ports) (slice_get ms m)) made.heads ∙ head_ports s.modules m
same_ports s d made (CellBody c) = ap (λ (cs : Cells). option_map (λ (x : Cell). map port_of_pin x.pins) (slice_get cs.cells c)) made.same_cells
same_ports s d made (ModelBody m) = ap (λ ms. option_map (λ (x : Model). x.ports) (slice_get ms m)) made.same_models

-- a port has the same direction in the design
pub same_dirs : (s : Sources) (d : Design) → IsMadeFrom s d → (body : Body) (port : ℕ) → dir_in d body port ≡ dir_in (parts_of s) body port
same_dirs s d made (ModuleBody m) port = ap (of_module) made.heads ∙ ap (option_and_then of_head) (slice_get-map head_of s.modules m) ∙ by (slice_get s.modules m)
  where
    of_head : Module → Option Dir
    of_head x = option_map (λ (p : Port). p.dir) (slice_get x.ports port)

    of_module : List Module → Option Dir
    of_module ms = option_and_then (λ (x : Module). option_map (λ (p : Port). p.dir) (slice_get x.ports port)) (slice_get ms m)

    by : (o : Option Module) → option_and_then of_head (option_map head_of o) ≡ option_and_then of_head o
    by None = refl
    by (Some x) = refl
same_dirs s d made (CellBody c) port =
    ap (λ (cs : Cells). option_and_then (λ (x : Cell). option_map (λ (p : Pin). p.dir) (slice_get x.pins port)) (slice_get cs.cells c)) made.same_cells
same_dirs s d made (ModelBody m) port =
    ap (λ ms. option_and_then (λ (x : Model). option_map (λ (p : Port). p.dir) (slice_get x.ports port)) (slice_get ms m)) made.same_models

same_interface : (s : Sources) (d : Design) → IsMadeFrom s d → (c : ℕ) → is_interface_cell (slice_get d.cells.cells c) ≡ is_interface_cell (slice_get s.cells.cells c)
same_interface s d made c = ap (λ (cs : Cells). is_interface_cell (slice_get cs.cells c)) made.same_cells

-- signals begin at the same port bits
pub same_signals : (s : Sources) (d : Design) → IsMadeFrom s d → (body : Body) (p : PortBit) → begins_signal_in d body p ≡ begins_signal_in (parts_of s) body p
same_signals s d made (ModuleBody m) p = ap (λ dir. p.inst == 0 && is_input dir) (same_dirs s d made (ModuleBody m) p.port)
same_signals s d made (CellBody c) p =
    ap (λ dir. is_output dir && not (is_interface_cell (slice_get d.cells.cells c))) (same_dirs s d made (CellBody c) p.port)
    ∙ ap (λ b. is_output (dir_in (parts_of s) (CellBody c) p.port) && not b) (same_interface s d made c)
same_signals s d made (ModelBody m) p = ap is_output (same_dirs s d made (ModelBody m) p.port)

-- signals are passed on at the same port bits
pub same_passing : (s : Sources) (d : Design) → IsMadeFrom s d → (body : Body) (p : PortBit) → passes_on_in d body p ≡ passes_on_in (parts_of s) body p
same_passing s d made (ModuleBody m) p = refl
same_passing s d made (CellBody c) p =
    ap (λ dir. is_output dir && is_interface_cell (slice_get d.cells.cells c)) (same_dirs s d made (CellBody c) p.port)
    ∙ ap (λ b. is_output (dir_in (parts_of s) (CellBody c) p.port) && b) (same_interface s d made c)
same_passing s d made (ModelBody m) p = refl
