use Rattle.std.proofs.Common.{◌≡◌, List, true, subst}
use Rattle.std.specs.List.{IsAllAdjacentAnswer}
use Rattle.std.specs.Ordering.{is_lt}
use Rattle.std.proofs.lemmas.List.Sorted.{IsPermutation-sym}
use Rattle.port_order.specs.declared.keys.PortNumber.{PortNumber}
use Rattle.port_order.specs.PortOrders.{port_cmp}
use Rattle.port_order.proofs.KeyLemmas.{port_total}
use Rattle.port_order.proofs.Risings.{rising_from_answer, still_in}
use Rattle.port_order.proofs.orders.PortOrder.new.Goals as goal

pub returns : goal.returns
returns c =
    let modules = c.args.modules.now in
    let cells = c.args.cells.now in
    let models = c.args.models.now in
    let listed = c.in_ok-numbers.numbers.items in
    let sorted = c.sort.new.numbers.items in
    let Rises : List PortNumber → Type 0 = λ numbers. IsAllAdjacentAnswer (λ one other rises. rises ≡ is_lt (port_cmp modules cells models one other)) numbers true in
    let rises : Rises sorted = subst Rises c.as_slice.ensures.value c.if-not-are_rising.ensures in
    record {
      rising = rising_from_answer (port_cmp modules cells models) (port_total modules cells models) sorted rises;
      each = λ n there. c.in_ok-numbers.ensures.each n (still_in sorted listed (IsPermutation-sym listed sorted c.sort.ensures) n there);
      all = λ n is. still_in listed sorted c.sort.ensures n (c.in_ok-numbers.ensures.all n is);
    }
