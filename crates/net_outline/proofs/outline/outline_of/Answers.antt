use Rattle.std.proofs.Common.{◌≡◌, ℕ, List, sym, subst}
use Rattle.net_hierarchy.specs.Graph.{IsOrder, types_of}
use Rattle.net_outline.specs.Outline.{own_places}
use Rattle.net_outline.proofs.Counting.{are_counted, own_spots}
use Rattle.net_outline.proofs.Passing.{kinds_of_sources, passed_on}
use Rattle.net_outline.proofs.Premises.{insts_apart, insts_named}
use Rattle.net_outline.proofs.outline.outline_of.Goals as goal

pub returns-in_err-top-clause-cause : goal.returns-in_err-top-clause-cause
returns-in_err-top-clause-cause c =
    passed_on c.from_residual-in_err-top.result c.in_err-top.field-0.0 _ c.from_residual-in_err-top.ensures.1
    (λ s read full of top.
    let kinds = kinds_of_sources c.args.modules.now c.args.cells.now c.args.models.now s of c.in_ok-kinds.kinds c.in_ok-kinds.ensures in
    c.in_err-top.ensures.cause s kinds of.0 of.2 top)

pub returns-in_err-order-clause-cause : goal.returns-in_err-order-clause-cause
returns-in_err-order-clause-cause c =
    passed_on c.from_residual-in_err-order.result c.in_err-order.field-0.0 _ c.from_residual-in_err-order.ensures.1
    (λ s read full of top.
    let kinds = kinds_of_sources c.args.modules.now c.args.cells.now c.args.models.now s of c.in_ok-kinds.kinds c.in_ok-kinds.ensures in
    let begun = c.in_ok-top.ensures.ok s kinds of.0 of.2 top in
    c.in_err-order.ensures.cause s (insts_apart s read) (insts_named s full) of.0 (c.in_ok-types.ensures s kinds of.0) begun.0 begun.1)

pub returns-in_err-size_fault-clause-cause : goal.returns-in_err-size_fault-clause-cause
returns-in_err-size_fault-clause-cause c =
    passed_on c.from_residual-in_err-size_fault.result c.in_err-size_fault.field-0.0 _ c.from_residual-in_err-size_fault.ensures.1
    (λ s read full of top.
    let n = c.args.modules.now in
    let kinds = kinds_of_sources n c.args.cells.now c.args.models.now s of c.in_ok-kinds.kinds c.in_ok-kinds.ensures in
    let begun = c.in_ok-top.ensures.ok s kinds of.0 of.2 top in
    let types = c.in_ok-types.ensures s kinds of.0 in
    let apart = insts_apart s read in
    let order = c.in_ok-order.ensures.order s apart (insts_named s full) of.0 types begun.0 begun.1 in
    let plans = c.in_ok-plans.ensures s of in
    let given : c.as_slice.result.now ≡ c.in_ok-order.order.items = (let value = c.as_slice.ensures.value in cc) in
    let ordered = subst (λ (numbers : List ℕ). IsOrder (types_of s) c.in_ok-top.top numbers) (sym given) order.0 in
    let bits = are_counted n c.args.cells.now c.args.models.now s of n.symbols c.in_ok-plans.plans plans c.in_ok-bits.bits (c.in_ok-bits.ensures s of plans) in
    c.in_err-size_fault.ensures.cause s (own_places s n.symbols c.in_ok-plans.plans) types begun.0 apart ordered (c.in_ok-ones.ensures s of) bits
    (own_spots n c.args.cells.now c.args.models.now s of n.symbols c.in_ok-plans.plans plans) order.1)

pub returns-clause-ok : goal.returns-clause-ok
returns-clause-ok c s read full of top =
    let n = c.args.modules.now in
    let kinds = kinds_of_sources n c.args.cells.now c.args.models.now s of c.in_ok-kinds.kinds c.in_ok-kinds.ensures in
    let begun = c.in_ok-top.ensures.ok s kinds of.0 of.2 top in
    let types = c.in_ok-types.ensures s kinds of.0 in
    let apart = insts_apart s read in
    let order = c.in_ok-order.ensures.order s apart (insts_named s full) of.0 types begun.0 begun.1 in
    let plans = c.in_ok-plans.ensures s of in
    let given : c.as_slice.result.now ≡ c.in_ok-order.order.items = (let value = c.as_slice.ensures.value in cc) in
    let ordered = subst (λ (numbers : List ℕ). IsOrder (types_of s) c.in_ok-top.top numbers) (sym given) order.0 in
    let bits = are_counted n c.args.cells.now c.args.models.now s of n.symbols c.in_ok-plans.plans plans c.in_ok-bits.bits (c.in_ok-bits.ensures s of plans) in
    record {
      top = begun.0;
      types = types;
      order = order.0;
      plans = plans;
      bits = c.in_ok-bits.ensures s of plans;
      none = c.in_ok-size_fault.ensures.none s (own_places s n.symbols c.in_ok-plans.plans) types begun.0 apart ordered (c.in_ok-ones.ensures s of) bits
          (own_spots n c.args.cells.now c.args.models.now s of n.symbols c.in_ok-plans.plans plans) order.1;
    }
