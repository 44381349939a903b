-- The numbers of an intent: each is that of something that the design or the intent has.
use Rattle.std.specs.Prelude.{◌≡◌, ◌≢◌, ℕ, ◌<◌, true, List, Option, Some, None, IfSome, length}
use Rattle.pw_defs.specs.declared.design.Body.TheVariants.{Cell as CellBody}
use Rattle.pw_defs.specs.declared.design.Design.{Design}
use Rattle.pw_defs.specs.declared.design.Named.{Named}
use Rattle.pw_defs.specs.declared.design.Named.TheVariants.{Instance, Port, PortBit as NamedBit}
use Rattle.pw_defs.specs.declared.intent.CellSet.{CellSet}
use Rattle.pw_defs.specs.declared.intent.Domain.{Domain}
use Rattle.pw_defs.specs.declared.intent.Export.{Export}
use Rattle.pw_defs.specs.declared.intent.Intent.{Intent}
use Rattle.pw_defs.specs.declared.intent.PortSet.{PortSet}
use Rattle.pw_defs.specs.declared.intent.RootList.{RootList}
use Rattle.pw_defs.specs.declared.intent.SupplySet.{SupplySet}
use Rattle.pw_defs.specs.declared.intent.Unit.{Unit as PowerUnit}
use Rattle.pw_defs.specs.declared.conditions.UnitCond.{UnitCond}
use Rattle.pw_defs.specs.declared.strategies.Act.{Act}
use Rattle.pw_defs.specs.declared.strategies.Act.TheVariants.{Iso as Isolate, Shift as ShiftLevel}
use Rattle.pw_defs.specs.declared.strategies.Strategy.{Strategy}
use Rattle.pw_defs.specs.declared.supplies.Said.{Said}
use Rattle.pw_defs.specs.declared.supplies.Supply.{Supply}
use Rattle.list_defs.specs.Members.{IsIn}
use Rattle.supply_defs.specs.Conditions.{speaks_below}
use Rattle.design_defs.specs.Ports.{IsPortBit, body_of, port_at}

-- each number of the list is below n
abbrev pub AreBelow : ℕ → List ℕ → Type 0
AreBelow n numbers = (x : ℕ) → IsIn x numbers → x < n

-- a set has supplies that there are
pub record IsSetBelow (n : ℕ) (set : SupplySet) : Type 0 where
  pub power_in : set.power < n
  pub ground_in : IfSome set.ground (λ supply. supply < n)

-- the set, if there is one, has supplies that there are
abbrev pub IsSetBelowIfAny : ℕ → Option SupplySet → Type 0
IsSetBelowIfAny n set = IfSome set (IsSetBelow n)

-- a name stands for an instance, a port or a port bit of the design
abbrev pub IsNamedIn : Design → Named → Type 0
IsNamedIn design (Instance inst) = inst < length design.insts
IsNamedIn design (Port inst port) = port_at design inst port ≢ None
IsNamedIn design (NamedBit bit) = IsPortBit design bit

-- an instance is of a library cell
abbrev pub IsLeafCell : Design → ℕ → Type 0
IsLeafCell design inst = (c : ℕ) × (body_of design inst ≡ Some (CellBody c))

-- each of the instances is of a library cell
abbrev pub AreLeafCells : Design → List ℕ → Type 0
AreLeafCells design insts = (inst : ℕ) → IsIn inst insts → IsLeafCell design inst

-- each of the names stands for something in the design
abbrev pub AreNamedIn : Design → List Named → Type 0
AreNamedIn design names = (name : Named) → IsIn name names → IsNamedIn design name

-- the numbers of a unit: its instance, its outer unit, its ports and the sets that it shows
pub record IsUnitInRange (design : Design) (intent : Intent) (u : PowerUnit) : Type 0 where
  pub inst_in : u.inst < length design.insts
  pub outer_in : IfSome u.outer (λ outer. outer < length intent.units)
  pub ports_in : AreBelow (length intent.supplies) u.ports
  pub exports_in : (export : Export) → IsIn export u.exports → IsSetBelow (length intent.supplies) export.set

-- the numbers of a supply: its unit, its feeder, the inputs of its switch, and the units whose lines mention a value on it
pub record IsSupplyInRange (intent : Intent) (s : Supply) : Type 0 where
  pub unit_in : s.unit < length intent.units
  pub feeder_in : IfSome s.feeder (λ feeder. feeder < length intent.supplies)
  pub inputs_in : AreBelow (length intent.supplies) s.inputs
  pub said_in : (said : Said) → IsIn said s.said → said.unit < length intent.units

-- the numbers of a list of values: its unit and its root
pub record IsListInRange (intent : Intent) (l : RootList) : Type 0 where
  pub unit_in : l.unit < length intent.units
  pub root_in : l.root < length intent.supplies

-- the numbers of a condition: its unit, and the supplies that it speaks of
pub record IsConditionInRange (intent : Intent) (c : UnitCond) : Type 0 where
  pub unit_in : c.unit < length intent.units
  pub supplies_in : speaks_below (length intent.supplies) c.cond ≡ true

-- the numbers of a domain's unit and of its instances
pub record HasMembersInRange (design : Design) (intent : Intent) (domain : Domain) : Type 0 where
  pub unit_in : domain.unit < length intent.units
  pub elements_in : AreBelow (length design.insts) domain.elements
  pub excluded_in : AreBelow (length design.insts) domain.excluded

-- the numbers of a domain's sets
pub record HasSetsInRange (intent : Intent) (domain : Domain) : Type 0 where
  pub primary_in : IsSetBelow (length intent.supplies) domain.primary
  pub default_in : IsSetBelowIfAny (length intent.supplies) domain.default_iso

-- the numbers of the sets that a strategy puts in
abbrev pub HasActInRange : Intent → Act → Type 0
HasActInRange intent (Isolate mode supply) = IsSetBelowIfAny (length intent.supplies) supply
HasActInRange intent (ShiftLevel mode up down threshold input output) =
    IsSetBelowIfAny (length intent.supplies) input × IsSetBelowIfAny (length intent.supplies) output

-- the numbers of a strategy's domain, of its elements and of the cells that its instances name
pub record HasNamesInRange (design : Design) (intent : Intent) (s : Strategy) : Type 0 where
  pub domain_in : s.domain < length intent.domains
  pub elements_in : IfSome s.elements (AreNamedIn design)
  pub excluded_in : AreNamedIn design s.excluded
  pub cells_in : AreLeafCells design s.cells

-- the numbers of the sets of a strategy
pub record HasSuppliesInRange (intent : Intent) (s : Strategy) : Type 0 where
  pub source_in : IsSetBelowIfAny (length intent.supplies) s.filter.source
  pub sink_in : IsSetBelowIfAny (length intent.supplies) s.filter.sink
  pub act_in : HasActInRange intent s.act

-- numbers of instances, ports, units and domains
pub record HasDesignNumbersInRange (design : Design) (intent : Intent) : Type 0 where
  pub domains_in : (d : Domain) → IsIn d intent.domains → HasMembersInRange design intent d
  pub strategies_in : (s : Strategy) → IsIn s intent.strategies → HasNamesInRange design intent s
  pub cell_sets_in : (line : CellSet) → IsIn line intent.cell_sets → IsLeafCell design line.inst
  pub port_sets_in : (line : PortSet) → IsIn line intent.port_sets → port_at design 0 line.port ≢ None

-- numbers of supplies, and of the units that speak of them
pub record HasSupplyNumbersInRange (design : Design) (intent : Intent) : Type 0 where
  pub units_in : (u : PowerUnit) → IsIn u intent.units → IsUnitInRange design intent u
  pub supplies_in : (s : Supply) → IsIn s intent.supplies → IsSupplyInRange intent s
  pub lists_in : (l : RootList) → IsIn l intent.lists → IsListInRange intent l
  pub domains_in : (d : Domain) → IsIn d intent.domains → HasSetsInRange intent d
  pub strategies_in : (s : Strategy) → IsIn s intent.strategies → HasSuppliesInRange intent s
  pub cell_sets_in : (line : CellSet) → IsIn line intent.cell_sets → IsSetBelow (length intent.supplies) line.set
  pub port_sets_in : (line : PortSet) → IsIn line intent.port_sets → IsSetBelow (length intent.supplies) line.set
  pub conditions_in : (c : UnitCond) → IsIn c intent.conds → IsConditionInRange intent c
