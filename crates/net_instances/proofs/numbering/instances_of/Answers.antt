use Rattle.std.proofs.Common.{◌≡◌, ℕ, List, subst}
use Rattle.net_instances.specs.declared.numbering.Instances.{Instances}
use Rattle.net_instances.specs.Instances.{AreRowsOf}
use Rattle.net_instances.proofs.AllInstances.{are_instances}
use Rattle.net_instances.proofs.RowsInOrder.{list_there}
use Rattle.net_instances.proofs.numbering.instances_of.Goals as goal

pub returns : goal.returns
returns c s modules_same types_same named apart names =
    let n = c.args.modules.now in
    let rows = c.in_ok-tree.tree.rows in
    let firsts = c.in_ok-tree.tree.firsts in
    let bits = c.args.bits.now in
    let order : List ℕ = c.in_ok-numbers.field-0.numbers.items in
    let places : List ℕ = c.in_ok-numbers.field-0.places.items in
    let numbers_is = c.in_ok-numbers.numbers-is in
    let places_is = c.in_ok-numbers.places-is in
    let order_value = c.as_slice.ensures.value in
    let places_value = c.as_slice-2.ensures.value in
    let order_same : c.as_slice.result.now ≡ order = cc in
    let places_same : c.as_slice-2.result.now ≡ places = cc in
    let children_same : c.in_ok-children.children ≡ places = list_there _ c.from_vec.result c.in_ok-children.children places c.in_ok-children.ensures.ok_part c.from_vec.ensures in
    let made : Instances = record { rows = c.in_ok-rows.rows; children = c.in_ok-children.children } in
    let rows_of : AreRowsOf rows firsts order places bits c.in_ok-rows.rows =
    subst (λ (os : List ℕ). AreRowsOf rows firsts os places bits c.in_ok-rows.rows) order_same
    (subst (λ (ps : List ℕ). AreRowsOf rows firsts c.as_slice.result.now ps bits c.in_ok-rows.rows) places_same c.in_ok-rows.ensures) in
    are_instances s n c.args.types.now c.args.top rows firsts modules_same types_same named apart names c.in_ok-tree.ensures.0 c.in_ok-tree.ensures.1 order places
    c.in_ok-numbers.ensures bits made rows_of children_same
