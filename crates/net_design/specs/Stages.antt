-- What is known of a design on the way to its rows.
use Rattle.std.specs.Prelude.{ℕ, List}
use Rattle.pw_defs.specs.declared.netlist.Module.{Module}
use Rattle.list_defs.specs.Members.{IsIn}
use Rattle.list_defs.specs.Orders.{AreAllRising}
use Rattle.design_defs.specs.Bits.{IsSpot, Spot, spot_cmp}
use Rattle.design_defs.specs.DesignFaults.{IsFaultless}
use Rattle.design_defs.specs.Hierarchy.{IsOfModule, Sources, Way}
use Rattle.module_rows.specs.declared.plain.Netlist.{Netlist}
use Rattle.net_design.specs.declared.elaborating.Parts.{Parts}
use Rattle.net_feeds.specs.Feeds.{AreFedSo}
use Rattle.net_instances.specs.Instances.{AreInstances}
use Rattle.net_links.specs.Adding.{HasFewBitsAround}
use Rattle.net_places.specs.Plans.{ArePlans}
use Rattle.net_runs.specs.Wired.{IsWired}
use Rattle.net_widths.specs.WiredLines.{HasTargets}

-- the lines of each module that has an instance are wired
abbrev pub AreWired : Sources → Type 0
AreWired s = (way : Way) (number : ℕ) (m : Module) → IsOfModule s way number m → IsWired s m

-- neither such a module nor what its lines make has more bits than can be numbered in 32 bits
abbrev pub HaveFewBits : Sources → Type 0
HaveFewBits s = (way : Way) (number : ℕ) (m : Module) → IsOfModule s way number m → HasFewBitsAround s number m

-- each assignment of each module names something on its left side, as netlists that are read do
abbrev pub HaveTargets : Sources → Type 0
HaveTargets s = (m : Module) → IsIn m s.modules → HasTargets m

-- the parts of a design without faults: where its nets have their bits, all its instances, and what links feed each bit with
pub record AreParts (s : Sources) (n : Netlist) (parts : Parts) : Type 0 where
  pub plans : ArePlans s n.symbols parts.outline.plans
  pub instances : AreInstances s n parts.outline.bits parts.instances
  pub spots : List Spot
  pub all_spots : AreAllRising spot_cmp (IsSpot s) spots
  pub fed : AreFedSo s spots parts.feeds.items
  pub faultless : IsFaultless s
