-- Where the nets of all bodies have their bits.
use Rattle.std.specs.Prelude.{◌≡◌, ℕ, List, [], Option, Some, None, length, map, slice_index_or}
use Rattle.pw_defs.specs.declared.cells.Cells.{Cells}
use Rattle.pw_defs.specs.declared.design.Body.{Body}
use Rattle.pw_defs.specs.declared.design.Body.TheVariants.{Module as ModuleBody, Cell as CellBody, Model as ModelBody}
use Rattle.pw_defs.specs.declared.model.Model.{Model}
use Rattle.pw_defs.specs.declared.netlist.Port.{Port}
use Rattle.design_defs.specs.Hierarchy.{Sources, ports_in, HasBody}
use Rattle.module_rows.specs.declared.plain.Netlist.{Netlist}
use Rattle.net_places.specs.declared.plans.Plans.{Plans}
use Rattle.net_places.specs.declared.rows.NetRow.{NetRow}
use Rattle.net_places.specs.Nets.{own_net}
use Rattle.net_places.specs.Tables.{IsPlanOf}

-- the names of ports
abbrev pub port_names : Option (List Port) → List (List ℕ)
port_names None = []
port_names (Some ports) = map (λ (p : Port). p.name) ports

-- the spellings by which the rows of a body have their names: those of the symbols for a module, else those of the ports
abbrev pub names_in : List (List ℕ) → Sources → Body → List (List ℕ)
names_in symbols s (ModuleBody m) = symbols
names_in symbols s (CellBody c) = port_names (ports_in s (CellBody c))
names_in symbols s (ModelBody m) = port_names (ports_in s (ModelBody m))

-- the rows of a body
abbrev pub rows_at : Plans → Body → List NetRow
rows_at p (ModuleBody m) = slice_index_or p.modules m []
rows_at p (CellBody c) = slice_index_or p.cells c []
rows_at p (ModelBody m) = slice_index_or p.models m []

-- modules, cells and models have their rows
pub record ArePlans (s : Sources) (symbols : List (List ℕ)) (p : Plans) : Type 0 where
  pub modules : length p.modules ≡ length s.modules
  pub cells : length p.cells ≡ length s.cells.cells
  pub models : length p.models ≡ length s.models
  pub each : (b : Body) → HasBody s b → IsPlanOf (own_net s b) (names_in symbols s b) (rows_at p b)

-- what stands for these modules, cells and models below any top
abbrev pub IsOf : Netlist → Cells → List Model → Sources → Type 0
IsOf n cells models s = (s.modules ≡ n.modules) × (s.cells ≡ cells) × (s.models ≡ models)
