use Rattle.std.proofs.Common.{rules}
use Rattle.std.specs.Ordering.{is_lt}
use Rattle.std.proofs.lemmas.Fn.{always_returns_same}
use Rattle.port_order.specs.PortOrders.{port_cmp}
use Rattle.port_order.proofs.orders.are_rising.Goals as goal

pub returns : goal.returns
returns c =
    c.is_sorted_by.ensures.cases (λ one other. is_lt (port_cmp c.args.modules.now c.args.cells.now c.args.models.now one other))
    (always_returns_same _ _ _ (λ a r f k. search rules))
