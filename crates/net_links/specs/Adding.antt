-- What the rows of lines are made from, and what they add.
use Rattle.std.specs.Prelude.{◌≡◌, ℕ, ◌+◌, ◌<◌, List, ◌++◌, Option, Some, None, option_map, option_and_then, slice_get}
use Rattle.std.specs.List.{AllZip}
use Rattle.pw_defs.specs.declared.cells.Cells.{Cells}
use Rattle.pw_defs.specs.declared.cells.Dir.{Dir}
use Rattle.pw_defs.specs.declared.design.Body.{Body}
use Rattle.pw_defs.specs.declared.design.Body.TheVariants.{Module as ModuleBody}
use Rattle.pw_defs.specs.declared.model.Model.{Model}
use Rattle.pw_defs.specs.declared.netlist.Inst.{Inst}
use Rattle.pw_defs.specs.declared.netlist.Module.{Module}
use Rattle.pw_defs.specs.declared.netlist.Port.{Port}
use Rattle.list_defs.specs.Members.{IsIn}
use Rattle.design_defs.specs.Hierarchy.{Sources, module_at, type_of}
use Rattle.design_defs.specs.Inputs.{IsReadModule}
use Rattle.design_defs.specs.Links.{Link}
use Rattle.design_defs.specs.Ranges.{width}
use Rattle.module_rows.specs.declared.plain.Netlist.{Netlist}
use Rattle.net_hierarchy.specs.Graph.{Types, types_of}
use Rattle.net_places.specs.declared.plans.Plans.{Plans}
use Rattle.net_places.specs.Plans.{ArePlans, IsOf}
use Rattle.net_runs.specs.LocalNumbers.{HasFewBits, IsBitNumber}
use Rattle.net_runs.specs.Wired.{IsWired}
use Rattle.net_links.specs.declared.ports.Linker.{Linker}
use Rattle.net_links.specs.declared.ports.PortPlace.{PortPlace}
use Rattle.net_links.specs.declared.rows.LinkRow.{LinkRow}
use Rattle.net_links.specs.LocalLinks.{IsLocalLink, LocalLink, locals}

-- the types of instances and the plans of bodies are those that modules, cells and models make
pub record AreParts (s : Sources) (n : Netlist) (cells : Cells) (models : List Model) (types : Types) (plans : Plans) : Type 0 where
  pub is_of : IsOf n cells models s
  pub types_are : types ≡ types_of s
  pub plans_are : ArePlans s n.symbols plans

-- the same of all that a linker has
abbrev pub AreSourcesOf : Linker → Sources → Type 0
AreSourcesOf l s = AreParts s l.spellings.modules.now l.spellings.cells.now l.spellings.models.now l.types.now l.plans.now

-- the lookup has the same modules and plans, and this module is open
abbrev pub HasOpen : Linker → ℕ → Type 0
HasOpen l number = l.lookup ≡ record { netlist = l.spellings.modules.now; plans = l.plans.now; holder = number }

-- the direction of a port by its number
abbrev pub dir_among : Option (List Port) → ℕ → Option Dir
dir_among ports number = option_map (λ (p : Port). p.dir) (option_and_then (λ (all : List Port). slice_get all number) ports)

-- a port of a body is found, with its direction and the number of its first bit
abbrev pub IsPlaced : Sources → Body → Port → Option PortPlace → Type 0
IsPlaced s body p None = ⊥
IsPlaced s body p (Some found) = (found.dir ≡ p.dir) × ((place : ℕ) → place < width p.range → IsBitNumber s body (p.name, place) (found.first + place))

-- a module and what its instances are of have no more bits than can be numbered in 32 bits
pub record HasFewBitsAround (s : Sources) (number : ℕ) (m : Module) : Type 0 where
  pub own : HasFewBits s (ModuleBody number)
  pub children : (i : Inst) (body : Body) → IsIn i m.insts → type_of s i.kind ≡ Some body → HasFewBits s body

-- a module as a netlist gives it, whose ends are there and of one width, with few bits
pub record IsLinkable (s : Sources) (number : ℕ) (m : Module) : Type 0 where
  pub there : module_at s number ≡ Some m
  pub read : IsReadModule m
  pub wired : IsWired s m
  pub few : HasFewBitsAround s number m

-- a line of a module makes an instance with a port whose bits have numbers from one on
pub record HasPortBits (s : Sources) (m : Module) (inst : ℕ) (i : Inst) (p : Port) (first : ℕ) : Type 0 where
  pub body : Body
  pub line : slice_get m.insts inst ≡ Some i
  pub is_type : type_of s i.kind ≡ Some body
  pub bits : (place : ℕ) → place < width p.range → IsBitNumber s body (p.name, place) (first + place)

-- new rows have the links of the old ones and, behind them, these
abbrev pub AddsLinks : Sources → ℕ → Module → List Link → List LinkRow → List LinkRow → Type 0
AddsLinks s number m links old new = (more : List LocalLink) × (locals new ≡ locals old ++ more) × AllZip (IsLocalLink s number m) links more
