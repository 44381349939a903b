use Rattle.std.proofs.Common.{List, take}
use Rattle.design_defs.specs.Bits.{IsSpot, Spot, spot_cmp}
use Rattle.design_defs.specs.Hierarchy.{Sources}
use Rattle.list_defs.specs.Orders.{AreAllRising}
use Rattle.net_bits.specs.Placed.{ArePlaced}
use Rattle.net_feeds.specs.LeastNames.{IsLeastOrNone}
use Rattle.net_feeds.proofs.names.least_name.Given as goal

abbrev pub invariant-loop-bit : goal.invariant-loop-bit
invariant-loop-bit l = (s : Sources) → ArePlaced s l.placed → (spots : List Spot) → AreAllRising spot_cmp (IsSpot s) spots → IsLeastOrNone s spots (take l.bit-index l.bits) l.least
