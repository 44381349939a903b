use Rattle.std.proofs.Common.{◌≡◌, ◌++◌, List, sym, subst, ap, ◌∙◌}
use Rattle.list_defs.specs.Members.{IsIn}
use Rattle.port_order.specs.declared.keys.PortNumber.{PortNumber}
use Rattle.port_order.specs.PortOrders.{IsPort}
use Rattle.port_order.proofs.ListingLemmas.{all_listed, each_listed, of_cells, of_models, of_modules}
use Rattle.port_order.proofs.listing.all_ports.Goals as goal

-- the kinds one behind the other
whole : (c : goal.After-shrink_to_fit)
    → c.shrink_to_fit.new.self.items ≡ (of_modules c.args.modules.now c.args.cells.now c.args.models.now ++ of_cells c.args.modules.now c.args.cells.now c.args.models.now)
    ++ of_models c.args.modules.now c.args.cells.now c.args.models.now
whole c =
    let modules = c.args.modules.now in
    let cells = c.args.cells.now in
    let models = c.args.models.now in
    let first = c.in_ok-of_modules.ensures ∙ ap (λ numbers. numbers ++ of_modules modules cells models) c.new-numbers.ensures.items in
    let second = c.in_ok-of_cells.ensures ∙ ap (λ numbers. numbers ++ of_cells modules cells models) first in
    c.shrink_to_fit.ensures.items ∙ c.in_ok-of_models.ensures ∙ ap (λ numbers. numbers ++ of_models modules cells models) second

pub returns-clause-each : goal.returns-clause-each
returns-clause-each c =
    let P : List PortNumber → Type 0 = λ numbers. (n : PortNumber) → IsIn n numbers → IsPort c.args.modules.now c.args.cells.now c.args.models.now n in
    subst P (sym (whole c)) (each_listed c.args.modules.now c.args.cells.now c.args.models.now)

pub returns-clause-all : goal.returns-clause-all
returns-clause-all c =
    let P : List PortNumber → Type 0 = λ numbers. (n : PortNumber) → IsPort c.args.modules.now c.args.cells.now c.args.models.now n → IsIn n numbers in
    subst P (sym (whole c)) (all_listed c.args.modules.now c.args.cells.now c.args.models.now)
