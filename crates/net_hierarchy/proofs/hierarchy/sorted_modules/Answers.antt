use Rattle.std.proofs.Common.{subst, sym}
use Rattle.net_hierarchy.specs.Graph.{HasCycle, HasUnknown, IsOrder}
use Rattle.net_hierarchy.proofs.Cycles.{no_recursion, no_unknown, recursion_of_cycle, unknown_of_order}
use Rattle.net_hierarchy.proofs.hierarchy.sorted_modules.Goals as goal

pub returns-then-has_unknown : goal.returns-then-has_unknown
returns-then-has_unknown c s types named apart =
    let order = c.in-Some.order.items in
    let found : IsOrder c.args.types.now c.args.top order = rw c.in-Some.is at c.in_ok-order.ensures in
    let is = subst (λ t. IsOrder t c.args.top order) types found in
    let has = subst (λ xs. HasUnknown c.args.types.now xs) c.as_slice.ensures.value (c.has_unknown.ensures.0 c.if-has_unknown.true) in
    (no_recursion s c.args.top named order is, unknown_of_order s apart c.args.top named order is (subst (λ t. HasUnknown t order) types has), is)

pub returns-else-has_unknown : goal.returns-else-has_unknown
returns-else-has_unknown c s types named apart =
    let order = c.in-Some.order.items in
    let found : IsOrder c.args.types.now c.args.top order = rw c.in-Some.is at c.in_ok-order.ensures in
    let is = subst (λ t. IsOrder t c.args.top order) types found in (
      no_recursion s c.args.top named order is,
      no_unknown s c.args.top named order is (λ has. let here = subst (λ t. HasUnknown t order) (sym types) has in
          let test = c.has_unknown.ensures.1 (subst (λ xs. HasUnknown c.args.types.now xs) (sym c.as_slice.ensures.value) here) in let fails = c.if-has_unknown.false in cc),
      is,
    )

pub returns-in-None : goal.returns-in-None
returns-in-None c s types named apart =
    let found : HasCycle c.args.types.now c.args.top = rw c.in-None.is at c.in_ok-order.ensures in
    recursion_of_cycle s apart c.args.top named (subst (λ t. HasCycle t c.args.top) types found)
