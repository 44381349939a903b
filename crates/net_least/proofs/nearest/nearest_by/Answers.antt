use Rattle.std.proofs.Common.{◌≡◌, ◌<◌, ◌++◌, Some, get_or, length, slice_get, take, sym, ap, ◌∙◌, subst, arith}
use Rattle.std.proofs.lemmas.List.{take_all, take_more}
use Rattle.std.proofs.lemmas.Option.{slice_get-get_or}
use Rattle.list_defs.proofs.Members.{IsIn-slice_get}
use Rattle.design_defs.specs.Hierarchy.{module_at as module_of_number}
use Rattle.module_rows.specs.Growth.{no_module}
use Rattle.module_rows.specs.Reads.{module_at, no_inst}
use Rattle.net_least.specs.Nearest.{IsNear, IsNearBelow, IsWayBy}
use Rattle.net_least.proofs.Fronts.{append_same}
use Rattle.net_least.proofs.Nears.{near_below_grows}
use Rattle.net_least.proofs.RowItems.{item_of_row, near_of_inst}
use Rattle.net_least.proofs.nearest.nearest_by.Goals as goal

pub loop-inst-preserved : goal.loop-inst-preserved
loop-inst-preserved c = record {
  grown = (
    c.loop-inst.invariant.grown.0 ++ c.in_ok-best.ensures.grown.0,
    c.in_ok-best.ensures.grown.1 ∙ ap (λ xs. xs ++ c.in_ok-best.ensures.grown.0) c.loop-inst.invariant.grown.1
        ∙ append_same c.args.links.now c.loop-inst.invariant.grown.0 c.in_ok-best.ensures.grown.0,
  );
  near = λ s own names is row held.
      let symbols = c.args.modules.now.symbols in
      let holder = c.args.holder in
      let m = module_at c.args.modules.now holder in
      let n = c.loop-inst.inst in
      let within : n < length m.insts = omega (arith, c.loop-inst-test.true, c.module-inst-end.ensures.insts) in
      let i = get_or m.insts n no_inst in
      let there : slice_get m.insts n ≡ Some i = slice_get-get_or m.insts n no_inst within in
      let one = IsIn-slice_get m.insts n i there in
      let is_module : module_of_number s holder ≡ Some m = ap (λ ms. slice_get ms holder) is ∙ slice_get-get_or c.args.modules.now.modules holder no_module c.requires in
      let at = item_of_row s m.insts c.args.row.now row n i there in
      let known = near_of_inst s own symbols c.args.links.now c.args.nears.now holder m i is_module one held c.args.row.now n at in
      let grown = near_below_grows s own symbols c.args.links.now c.loop-inst.invariant.grown.0 i _ known in
      let below : IsNearBelow s own symbols c.loop-inst.links i c.near_below-below.result =
      subst (λ xs. IsNearBelow s own symbols xs i c.near_below-below.result) (sym c.loop-inst.invariant.grown.1)
      (subst (IsNearBelow s own symbols (c.args.links.now ++ c.loop-inst.invariant.grown.0) i) (sym c.near_below-below.ensures) grown) in
      subst (λ xs. IsNear symbols c.nearer_by.new.links (IsWayBy s own xs) c.in_ok-best.best) (sym (take_more m.insts n no_inst within))
      (c.in_ok-best.ensures.near s own (take n m.insts) i names (names holder m i is_module one) c.inst-name.ensures.name below (c.loop-inst.invariant.near s own names is row held));
}

pub returns-clause-near : goal.returns-clause-near
returns-clause-near c s own names is row held =
    let insts = (module_at c.args.modules.now c.args.holder).insts in
    subst (λ xs. IsNear c.args.modules.now.symbols c.loop-inst.links (IsWayBy s own xs) c.loop-inst.best)
    (take_all c.loop-inst.inst insts (omega (arith, c.loop-inst-test.false, c.module-inst-end.ensures.insts))) (c.loop-inst.invariant.near s own names is row held)
