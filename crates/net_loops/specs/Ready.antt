-- What is known of a hierarchy where rings are looked for.
use Rattle.std.specs.Prelude.{List}
use Rattle.list_defs.specs.Orders.{AreAllRising}
use Rattle.design_defs.specs.Bits.{IsSpot, Spot, spot_cmp}
use Rattle.design_defs.specs.DesignFaults.{FaultKind, HasNoneBefore}
use Rattle.design_defs.specs.Hierarchy.{Sources}
use Rattle.design_defs.specs.Inputs.{AreReadSources}
use Rattle.design_rows.specs.declared.tables.Feed.{Feed}
use Rattle.net_bits.specs.Placed.{ArePlaced}
use Rattle.net_bits.specs.declared.placed.Placed.{Placed}
use Rattle.net_feeds.specs.Feeds.{AreFedSo}
use Rattle.net_feeds.specs.LinkNumbers.{AreAllLocal}
use Rattle.net_links.specs.declared.rows.LinkRow.{LinkRow}

-- all instances and bits have their numbers, each bit is fed so by links, and there is no fault of an earlier kind
pub record AreReady (s : Sources) (p : Placed) (links : List (List LinkRow)) (spots : List Spot) (feeds : List Feed) : Type 0 where
  pub read : AreReadSources s
  pub placed : ArePlaced s p
  pub local : AreAllLocal s links
  pub all : AreAllRising spot_cmp (IsSpot s) spots
  pub fed : AreFedSo s spots feeds
  pub early : HasNoneBefore FaultKind.wire_loop s
