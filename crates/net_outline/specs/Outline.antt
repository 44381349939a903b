-- What is decided of a design on its modules alone.
use Rattle.std.specs.Prelude.{◌≡◌, ℕ, List, Some, map}
use Rattle.pw_defs.specs.declared.design.Body.{Body}
use Rattle.pw_defs.specs.declared.design.Body.TheVariants.{Module as ModuleBody, Cell as CellBody, Model as ModelBody}
use Rattle.design_defs.specs.DesignFaults.{FaultKind, HasNoneBefore}
use Rattle.design_defs.specs.Hierarchy.{Sources, module_named, HasBody}
use Rattle.module_rows.specs.declared.plain.Netlist.{Netlist}
use Rattle.net_hierarchy.specs.Graph.{IsOrder, types_of}
use Rattle.net_places.specs.declared.plans.Plans.{Plans}
use Rattle.net_places.specs.Gathered.{net_by}
use Rattle.net_places.specs.Nets.{LocalBit, local_bits}
use Rattle.net_places.specs.Plans.{ArePlans, names_in, rows_at}
use Rattle.net_places.specs.Tables.{bits_in}
use Rattle.net_sizes.specs.declared.sizes.Counts.{Counts}
use Rattle.net_sizes.specs.Sizes.{count_in}
use Rattle.net_outline.specs.declared.counts.BodyKind.{BodyKind}
use Rattle.net_outline.specs.declared.counts.BodyKind.TheVariants.{Module, Cell, Model}
use Rattle.net_outline.specs.declared.outline.Outline.{Outline}

-- the module, cell or model of a number
abbrev pub body_of : BodyKind → ℕ → Body
body_of Module number = ModuleBody number
body_of Cell number = CellBody number
body_of Model number = ModelBody number

-- how many bits it owns
abbrev pub bits_at : Plans → BodyKind → ℕ → ℕ
bits_at plans kind number = bits_in (rows_at plans (body_of kind number))

-- the bits of a body, by the names of their nets and by their places
abbrev pub own_places : Sources → List (List ℕ) → Plans → Body → List LocalBit
own_places s symbols plans body = local_bits (map (net_by (names_in symbols s body)) (rows_at plans body))

-- each module, cell and model is counted with the bits of its nets
abbrev pub HaveBits : Sources → Plans → Counts → Type 0
HaveBits s plans counts = (body : Body) → HasBody s body → count_in counts body ≡ bits_in (rows_at plans body)

-- The outline of a design that has none of the faults that are decided on the modules alone.
pub record IsOutline (s : Sources) (n : Netlist) (outline : Outline) : Type 0 where
  pub top : module_named s s.top ≡ Some outline.top
  pub types : outline.types ≡ types_of s
  pub order : IsOrder (types_of s) outline.top outline.order.items
  pub plans : ArePlans s n.symbols outline.plans
  pub bits : HaveBits s outline.plans outline.bits
  pub none : HasNoneBefore FaultKind.unknown_port s
