use Rattle.std.proofs.Common.{◌≡◌, ◌+◌, ℕ, List, [], ◌∷◌, ◌++◌, Some, get_or, sym, ap, ◌∙◌, subst, take}
use Rattle.std.specs.List.{sum_by}
use Rattle.std.proofs.lemmas.List.{take_more}
use Rattle.net_instances.specs.declared.numbering.InstanceRow.{InstanceRow}
use Rattle.net_instances.specs.Instances.{AreRowsOf, own_bits, row_in}
use Rattle.net_instances.proofs.RowsInOrder.{one_row_more, row_is, sum_one, sum_there}
use Rattle.net_instances.proofs.numbering.rows_of.Goals as goal

pub loop-n-preserved : goal.loop-n-preserved
loop-n-preserved c =
    let rows = c.args.tree.now.rows in
    let firsts = c.args.tree.now.firsts in
    let places = c.args.places.now in
    let bits = c.args.bits.now in
    let order = c.args.order.now in
    let made : List InstanceRow = c.loop-n.rows in
    let new : List InstanceRow = c.push.new.self in
    let bit : ℕ = c.loop-n.next_bit in
    let at : ℕ = c.loop-n.n-index in
    let n : ℕ = get_or order at 0 in
    let row : InstanceRow = c.in_ok-row.row in
    let found : row_in rows firsts places n bit ≡ Some row = sym c.row_of.ensures ∙ c.in_ok-row.ensures.ok_part in
    let one = row_is rows firsts places n bit row found in
    let pushed : new ≡ made ++ row ∷ [] = c.in_ok-push.ensures.ok in
    let sum : bit ≡ sum_by (own_bits bits) made = c.loop-n.invariant.sum in
    let grown : AreRowsOf rows firsts (take at order ++ n ∷ []) places bits (made ++ row ∷ []) =
    one_row_more rows firsts places bits (take at order) made n row c.loop-n.invariant.rows_of one.0 (one.1 ∙ sum) in
    let next : c.in_ok-next_bit.next_bit ≡ bit + c.bits_of.result = sum_there c.sum_of.result c.in_ok-next_bit.next_bit (bit + c.bits_of.result) c.in_ok-next_bit.ensures.ok_part c.sum_of.ensures in
    record {
      rows_of = subst (λ (xs : List InstanceRow). AreRowsOf rows firsts (take (at + 1) order) places bits xs) (sym pushed)
          (subst (λ (os : List ℕ). AreRowsOf rows firsts os places bits (made ++ row ∷ [])) (sym (take_more order at 0 c.loop-n-test.true)) grown);
      sum = next ∙ ap (λ (k : ℕ). k + c.bits_of.result) sum ∙ ap (λ (k : ℕ). sum_by (own_bits bits) made + k) c.bits_of.ensures
          ∙ sym (sum_one bits made row) ∙ ap (sum_by (own_bits bits)) (sym pushed);
    }
