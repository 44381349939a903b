use Rattle.std.proofs.Common.{◌≡◌, ◌+◌, ◌<◌, ℕ, List, Some, [], ◌∷◌, ◌++◌, get_or, length, map, min, sum, slice_get, slice_index, take, sym, ap, ◌∙◌, subst, arith}
use Rattle.std.proofs.lemmas.List.{length-map, length-set, take_more}
use Rattle.std.proofs.lemmas.Option.{slice_get-get_or, slice_get_within}
use Rattle.list_defs.proofs.Members.{IsIn-slice_get}
use Rattle.pw_defs.specs.declared.netlist.Inst.{Inst}
use Rattle.pw_defs.specs.declared.netlist.Module.{Module}
use Rattle.design_defs.specs.Hierarchy.{type_of}
use Rattle.net_hierarchy.specs.Graph.{types_of}
use Rattle.net_sizes.specs.Sizes.{AreSized, part_in, row_in}
use Rattle.net_sizes.proofs.Sizing.{leads_within, one_more, sized_more}
use Rattle.net_sizes.proofs.sizes.sizes_of.Goals as goal

pub loop-number-preserved : goal.loop-number-preserved
loop-number-preserved c = record {
  count = ap length c.set_number.ensures ∙ length-set c.loop-number.totals.items n c.total_of-total.result ∙ c.loop-number.invariant.count;
  sized = λ s own top types named apart is counted.
      let sized = c.loop-number.invariant.sized s own top types named apart is counted in
      let m = leads_within s top n named (is.reached n (IsIn-slice_get order place n there)) in
      let total : c.total_of-total.result ≡ min c.args.most (slice_index c.args.counts.now.modules.items n + sum (map (part_in c.args.counts.now c.loop-number.totals.items) (row_in (types_of s) n))) =
      c.total_of-total.ensures
      ∙ ap (λ ts. min c.args.most (slice_index c.args.counts.now.modules.items n + sum (map (part_in c.args.counts.now ts) (row_in c.args.types.now n)))) c.as_slice.ensures.value
      ∙ ap (λ t. min c.args.most (slice_index c.args.counts.now.modules.items n + sum (map (part_in c.args.counts.now c.loop-number.totals.items) (row_in t n)))) types in
      let new = one_more s own apart c.args.counts.now c.args.most counted c.loop-number.totals.items (take place order) sized n m.0 m.1 (λ k holds. is.behind place n k there holds) c.total_of-total.result total in
      let in_modules : n < length s.modules = slice_get_within s.modules n m.0 m.1 in
      let rows : length c.args.types.now ≡ length s.modules = ap length types ∙ length-map s.modules (λ (x : Module). map (λ (i : Inst). type_of s i.kind) x.insts) in
      let count : length c.loop-number.totals.items ≡ length c.args.types.now = c.loop-number.invariant.count in
      let more = sized_more s own c.args.most c.loop-number.totals.items (take place order) n c.total_of-total.result sized (omega arith) new in
      subst (AreSized s own c.args.most c.set_number.new.numbers.items) (sym (take_more order place 0 c.loop-number-test.true))
      (subst (λ sizes. AreSized s own c.args.most sizes (take place order ++ n ∷ [])) (sym c.set_number.ensures) more);
}
  where
    order : List ℕ
    order = c.args.order.now

    place : ℕ
    place = c.loop-number.number-index

    n : ℕ
    n = get_or order place 0

    there : slice_get order place ≡ Some n
    there = slice_get-get_or order place 0 c.loop-number-test.true
