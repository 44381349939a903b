-- The ports of types as they are looked up.
use Rattle.std.specs.Prelude.{ℕ, List, Option, Some, None, option_map, option_and_then}
use Rattle.pw_defs.specs.declared.design.Body.{Body}
use Rattle.pw_defs.specs.declared.netlist.Port.{Port}
use Rattle.design_defs.specs.Bits.{port_named}
use Rattle.design_defs.specs.Hierarchy.{Sources, ports_in}
use Rattle.design_defs.specs.Ranges.{width}
use Rattle.net_places.specs.declared.finding.Spellings.{Spellings}
use Rattle.net_places.specs.declared.plans.Plans.{Plans}
use Rattle.net_places.specs.Plans.{ArePlans, IsOf}

-- the nets of the modules, cells and models are looked up among these
pub record IsSeen (s : Sources) (spellings : Spellings) (plans : Plans) : Type 0 where
  pub is_of : IsOf spellings.modules.now spellings.cells.now spellings.models.now s
  pub plans_are : ArePlans s spellings.modules.now.symbols plans

-- how many bits the port of a name of a type has, where there is one
abbrev pub width_of_port : Sources → Option Body → List ℕ → Option ℕ
width_of_port s kind name = option_map (λ (p : Port). width p.range) (option_and_then (port_named name) (option_and_then (ports_in s) kind))

-- how many bits a net has, where it is a port
abbrev pub width_if_port : Option ℕ → Option (ℕ × ℕ) → Option ℕ
width_if_port None range = None
width_if_port (Some number) range = Some (width range)
