-- Chains: walks from a receiver back to a driver, with the sets of both ends and what they pass.
use Rattle.std.specs.Prelude.{◌≡◌, ◌≢◌, ℕ, true, List, [], Option, Some, option_map, unwrap_or, option_and_then, reverse, slice_get}
use Rattle.pw_defs.specs.declared.chains.Chain.{Chain}
use Rattle.pw_defs.specs.declared.chains.Walk.{Walk}
use Rattle.pw_defs.specs.declared.design.Design.{Design}
use Rattle.pw_defs.specs.declared.design.Feeder.TheVariants.{Driver}
use Rattle.pw_defs.specs.declared.design.PortBit.{PortBit}
use Rattle.pw_defs.specs.declared.intent.Intent.{Intent}
use Rattle.pw_defs.specs.declared.intent.SupplySet.{SupplySet}
use Rattle.pw_defs.specs.declared.intent.Want.{Want}
use Rattle.pw_defs.specs.declared.intent.Want.TheVariants.{Check, Macro}
use Rattle.design_defs.specs.Drivers.{drives}
use Rattle.design_defs.specs.Ports.{receives}
use Rattle.design_defs.specs.Walks.{AreWalks}
use Rattle.domain_defs.specs.Sets.{end_set}
use Rattle.supply_defs.specs.UnitViews.{HasRoots, view_ends}
use Rattle.signoff_defs.specs.Elements.{AreElements}
use Rattle.list_defs.specs.Found.{AreFound}
use Rattle.signoff_defs.specs.UnitsOf.{IsUnitOf}
use Rattle.signoff_defs.specs.WalkParts.{walk_parts}

-- the name of a bit
abbrev pub name_of : Design → Option ℕ → List ℕ
name_of d bit = unwrap_or (option_map (λ b. b.name) (option_and_then (slice_get d.bits) bit)) []

abbrev pub first_bit : List ℕ → Option ℕ
first_bit bits = slice_get bits 0

abbrev pub last_bit : List ℕ → Option ℕ
last_bit bits = slice_get (reverse bits) 0

-- The two ends can be judged: in the model of a macro its own ports have no set.
abbrev pub AreJudged : Want → PortBit → PortBit → Type 0
AreJudged Check receiver driver = Unit {0}
AreJudged Macro receiver driver = (receiver.inst ≢ 0) × (driver.inst ≢ 0)

-- a walk from a receiver to this driver
pub record IsDrivenBy (d : Design) (i : Intent) (w : Walk) (driver : PortBit) : Type 0 where
  pub receives : receives d w.to ≡ true
  pub ends : w.from ≡ Driver driver
  pub drives : drives d driver ≡ true
  pub judged : AreJudged i.want w.to driver

-- the set at an end of a chain, by its roots in a unit
pub record HasEndSet (d : Design) (i : Intent) (unit : ℕ) (end : PortBit) (seen : SupplySet) : Type 0 where
  pub set : SupplySet
  pub is_set : end_set d i end ≡ Some set
  pub roots : HasRoots i.supplies (view_ends i.supplies i.units unit) set seen

-- A walk from a receiver to a driver is a chain. Its unit is the innermost one that holds all its bits, and its sets and
-- elements are as seen inside this unit.
pub record IsChainOf (d : Design) (i : Intent) (w : Walk) (c : Chain) : Type 0 where
  pub driver : PortBit
  pub driven : IsDrivenBy d i w driver
  pub unit : IsUnitOf d i w.bits c.unit
  pub receiver_name : c.receiver ≡ name_of d (first_bit w.bits)
  pub driver_name : c.driver ≡ name_of d (last_bit w.bits)
  pub to_set : HasEndSet d i c.unit w.to c.to
  pub from_set : HasEndSet d i c.unit driver c.from
  pub elements : AreElements d i c.unit (walk_parts d 0 w.bits) c.elements

-- a walk that is no chain
abbrev pub IsNoChain : Design → Intent → Walk → Type 0
IsNoChain d i w = (driver : PortBit) → IsDrivenBy d i w driver → ⊥

-- the chains among walks, in their order
abbrev pub AreChains : Design → Intent → List Walk → List Chain → Type 0
AreChains d i = AreFound (IsChainOf d i) (IsNoChain d i)

-- the chains of a design
pub record AreAllChains (d : Design) (i : Intent) (chains : List Chain) : Type 0 where
  pub walks : List Walk
  pub are_walks : AreWalks d walks
  pub are_chains : AreChains d i walks chains
