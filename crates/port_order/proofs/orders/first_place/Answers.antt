use Rattle.std.proofs.Common.{ℕ, List, rules}
use Rattle.std.specs.Ordering.{is_lt}
use Rattle.std.proofs.lemmas.List.Sorted.{IsPartitionPoint-from_clause}
use Rattle.pw_defs.specs.declared.design.Body.{Body}
use Rattle.port_order.specs.PortOrders.{key_cmp, key_of}
use Rattle.port_order.proofs.KeyLemmas.{parted}
use Rattle.port_order.proofs.orders.first_place.Goals as goal

pub returns-clause-point : goal.returns-clause-point
returns-clause-point c =
    let modules = c.args.modules.now in
    let cells = c.args.cells.now in
    let models = c.args.models.now in
    let numbers = c.args.numbers.now in
    let key : Body × List ℕ = (c.args.body, c.args.name.now) in
    IsPartitionPoint-from_clause (λ n. is_lt (key_cmp (key_of modules cells models n) key)) numbers c.partition_point.result c.partition_point.ensures.partitioned
    (parted modules cells models numbers c.requires key) (λ a r q k. search rules)
