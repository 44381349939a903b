use Rattle.std.proofs.Common.{◌≡◌, ◌<◌, ℕ, List, Some, [], ◌∷◌, ◌++◌, get_or, length, map, slice_get, take, sym, ap, ◌∙◌, subst, arith}
use Rattle.std.proofs.lemmas.List.{length-map, length-set, take_more}
use Rattle.std.proofs.lemmas.Option.{slice_get-get_or, slice_get_within}
use Rattle.list_defs.proofs.Members.{IsIn-slice_get}
use Rattle.pw_defs.specs.declared.netlist.Inst.{Inst}
use Rattle.pw_defs.specs.declared.netlist.Module.{Module}
use Rattle.design_defs.specs.Hierarchy.{type_of}
use Rattle.net_sizes.specs.Depths.{AreDeep, IsDeepest, depth_in}
use Rattle.net_sizes.specs.Sizes.{row_in}
use Rattle.net_sizes.proofs.Deep.{deep_more, one_deeper}
use Rattle.net_sizes.proofs.Sizing.{leads_within, row_of_module}
use Rattle.net_sizes.proofs.depths.depths_of.Goals as goal

pub loop-number-preserved : goal.loop-number-preserved
loop-number-preserved c = record {
  count = ap length c.set_number.ensures ∙ length-set c.loop-number.depths.items n c.depth_of-depth.result ∙ c.loop-number.invariant.count;
  deep = λ s top types named apart is.
      let deep = c.loop-number.invariant.deep s top types named apart is in
      let m = leads_within s top n named (is.reached n (IsIn-slice_get order place n there)) in
      let numbers = c.loop-number.depths.items in
      let here : IsDeepest (depth_in numbers c.args.most) (row_in c.args.types.now n) c.depth_of-depth.result =
      subst (λ ds. IsDeepest (depth_in ds c.args.most) (row_in c.args.types.now n) c.depth_of-depth.result) c.as_slice.ensures.value c.depth_of-depth.ensures in
      let row : row_in c.args.types.now n ≡ map (λ (i : Inst). type_of s i.kind) m.0.insts = ap (λ t. row_in t n) types ∙ row_of_module s n m.0 m.1 in
      let deepest = subst (λ r. IsDeepest (depth_in numbers c.args.most) r c.depth_of-depth.result) row here in
      let new = one_deeper s apart c.args.most numbers (take place order) deep n m.0 m.1 (λ k holds. is.behind place n k there holds) c.depth_of-depth.result deepest in
      let in_modules : n < length s.modules = slice_get_within s.modules n m.0 m.1 in
      let rows : length c.args.types.now ≡ length s.modules = ap length types ∙ length-map s.modules (λ (x : Module). map (λ (i : Inst). type_of s i.kind) x.insts) in
      let count : length c.loop-number.depths.items ≡ length c.args.types.now = c.loop-number.invariant.count in
      let more = deep_more s c.args.most numbers (take place order) n c.depth_of-depth.result deep (omega arith) new in
      subst (AreDeep s c.args.most c.set_number.new.numbers.items) (sym (take_more order place 0 c.loop-number-test.true))
      (subst (λ depths. AreDeep s c.args.most depths (take place order ++ n ∷ [])) (sym c.set_number.ensures) more);
}
  where
    order : List ℕ
    order = c.args.order.now

    place : ℕ
    place = c.loop-number.number-index

    n : ℕ
    n = get_or order place 0

    there : slice_get order place ≡ Some n
    there = slice_get-get_or order place 0 c.loop-number-test.true
