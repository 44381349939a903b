use Rattle.std.proofs.Common.{List, sym, subst, ◌∙◌}
use Rattle.port_order.specs.declared.keys.PortNumber.{PortNumber}
use Rattle.port_order.specs.PortOrders.{IsPortOrder}
use Rattle.port_order.proofs.FindLemmas.{found, missed, past}
use Rattle.port_order.proofs.orders.PortOrder.find.Goals as goal

pub returns-in_err-number : goal.returns-in_err-number
returns-in_err-number c =
    let P : List PortNumber → Type 0 = λ numbers. IsPortOrder c.args.modules.now c.args.cells.now c.args.models.now numbers in
    let order = subst P (sym (c.as_slice-numbers.ensures.value ∙ c.self.view_is)) c.requires in
    c.from_residual.ensures
    ∙ past c.args.modules.now c.args.cells.now c.args.models.now c.as_slice-numbers.result.now order c.args.body c.args.name.now c.first_place-place.result c.first_place-place.ensures.point
    (sym c.in_err-number.ensures)

pub returns-in-Equal : goal.returns-in-Equal
returns-in-Equal c =
    let P : List PortNumber → Type 0 = λ numbers. IsPortOrder c.args.modules.now c.args.cells.now c.args.models.now numbers in
    let order = subst P (sym (c.as_slice-numbers.ensures.value ∙ c.self.view_is)) c.requires in
    found c.args.modules.now c.args.cells.now c.args.models.now c.as_slice-numbers.result.now order c.args.body c.args.name.now c.first_place-place.result c.first_place-place.ensures.point
    c.in_ok-number.number (sym c.in_ok-number.ensures) (sym c.key_order.ensures ∙ c.in-Equal.is)

pub returns-in_default : goal.returns-in_default
returns-in_default c =
    let P : List PortNumber → Type 0 = λ numbers. IsPortOrder c.args.modules.now c.args.cells.now c.args.models.now numbers in
    let order = subst P (sym (c.as_slice-numbers.ensures.value ∙ c.self.view_is)) c.requires in
    missed c.args.modules.now c.args.cells.now c.args.models.now c.as_slice-numbers.result.now order c.args.body c.args.name.now c.first_place-place.result c.first_place-place.ensures.point
    c.in_ok-number.number (sym c.in_ok-number.ensures) (λ same. c.in_default.not-Equal (c.key_order.ensures ∙ same))
