-- Where signals begin and are passed on is the same for the sources and for rows that have their parts.
use Rattle.std.proofs.Common.{◌≡◌, ℕ, ◌==◌, ◌&&◌, List, [], Option, Some, None, map, option_and_then, option_map, refl, ap, ◌∙◌}
use Rattle.std.specs.List.{slice_get}
use Rattle.std.proofs.lemmas.Option.{slice_get-map}
use Rattle.pw_defs.specs.declared.cells.Cells.{Cells}
use Rattle.pw_defs.specs.declared.cells.Dir.{Dir}
use Rattle.pw_defs.specs.declared.design.Body.{Body}
use Rattle.pw_defs.specs.declared.design.Body.TheVariants.{Module as ModuleBody, Cell as CellBody, Model as ModelBody}
use Rattle.pw_defs.specs.declared.design.Design.{Design}
use Rattle.pw_defs.specs.declared.design.PortBit.{PortBit}
use Rattle.pw_defs.specs.declared.model.Model.{Model}
use Rattle.pw_defs.specs.declared.netlist.Module.{Module}
use Rattle.pw_defs.specs.declared.netlist.Port.{Port}
use Rattle.design_defs.specs.Designs.{head_of, parts_of}
use Rattle.design_defs.specs.Drivers.{begins_signal_in, passes_on_in}
use Rattle.design_defs.specs.Hierarchy.{Sources}
use Rattle.design_defs.specs.Ports.{is_input}
use Rattle.design_rows.specs.declared.tables.Rows.{Rows}
use Rattle.design_rows.specs.View.{design_of}

-- cells, modules and models alone
abbrev parts : Cells → List Module → List Model → Design
parts cells modules models = record { cells = cells; modules = modules; models = models; insts = []; bits = [] }

module _ (s : Sources) (r : Rows) (cells : r.cells ≡ s.cells) (heads : r.modules ≡ map head_of s.modules) (models : r.models ≡ s.models) where
  -- what asks for cells, modules and models alone says the same of the rows as of the sources with the heads of their modules
  same_parts : {X : Type 0} (f : Cells → List Module → List Model → X) → f r.cells r.modules r.models ≡ f s.cells (map head_of s.modules) s.models
  same_parts f = λ i. f (cells i) (heads i) (models i)

  abbrev of_head : ℕ → Module → Option Dir
  of_head port x = option_map (λ (p : Port). p.dir) (slice_get x.ports port)

  same_head : (port : ℕ) (o : Option Module) → option_and_then (of_head port) (option_map head_of o) ≡ option_and_then (of_head port) o
  same_head port None = refl
  same_head port (Some x) = refl

  head_dir : (m port : ℕ) → option_and_then (of_head port) (slice_get (map head_of s.modules) m) ≡ option_and_then (of_head port) (slice_get s.modules m)
  head_dir m port = ap (option_and_then (of_head port)) (slice_get-map head_of s.modules m) ∙ same_head port (slice_get s.modules m)

  pub same_signal : (body : Body) (q : PortBit) → begins_signal_in (design_of r) body q ≡ begins_signal_in (parts_of s) body q
  same_signal (ModuleBody m) q =
      same_parts (λ cs ms ks. begins_signal_in (parts cs ms ks) (ModuleBody m) q) ∙ ap (λ (dir : Option Dir). q.inst == 0 && is_input dir) (head_dir m q.port)
  same_signal (CellBody c) q = same_parts (λ cs ms ks. begins_signal_in (parts cs ms ks) (CellBody c) q)
  same_signal (ModelBody m) q = same_parts (λ cs ms ks. begins_signal_in (parts cs ms ks) (ModelBody m) q)

  pub same_passing : (body : Body) (q : PortBit) → passes_on_in (design_of r) body q ≡ passes_on_in (parts_of s) body q
  same_passing (ModuleBody m) q = refl
  same_passing (CellBody c) q = same_parts (λ cs ms ks. passes_on_in (parts cs ms ks) (CellBody c) q)
  same_passing (ModelBody m) q = refl
