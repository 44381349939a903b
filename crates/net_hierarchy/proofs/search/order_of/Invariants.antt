use Rattle.net_hierarchy.specs.Search.{IsSearch}
use Rattle.net_hierarchy.proofs.search.order_of.Given as goal

abbrev pub invariant-loop : goal.invariant-loop
invariant-loop l = IsSearch l.types l.top l.search.marks.items l.search.order.items l.search.stack.items
