use Rattle.std.proofs.Common.{◌<◌, length, map, take}
use Rattle.std.specs.List.{All}
use Rattle.design_defs.specs.Hierarchy.{way_cmp}
use Rattle.list_defs.specs.Orders.{IsRising}
use Rattle.net_instances.specs.Ways.{AreAllNamed, way_in}
use Rattle.net_instances.proofs.order.is_rising.Given as goal

abbrev pub invariant-loop-at : goal.invariant-loop-at
invariant-loop-at l = All (λ n. n < length l.rows) l.order → AreAllNamed l.modules.symbols l.rows
    → IsRising way_cmp (map (way_in l.modules.symbols l.rows) (take l.at l.order))
