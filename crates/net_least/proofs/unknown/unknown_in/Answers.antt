use Rattle.std.proofs.Common.{◌≡◌, ◌<◌, ◌+◌, [], ◌∷◌, ◌++◌, length, length-append, map, slice_get, inl, inr, sym, ap, ◌∙◌, subst, arith}
use Rattle.std.proofs.lemmas.Option.{same_Some, slice_get_within}
use Rattle.list_defs.proofs.Longer.{slice_get-append, slice_get_last}
use Rattle.pw_defs.specs.declared.netlist.Inst.{Inst}
use Rattle.pw_defs.specs.declared.netlist.Module.{Module}
use Rattle.design_defs.specs.Hierarchy.{module_at as module_of_number, type_of}
use Rattle.module_rows.specs.Reads.{module_at}
use Rattle.net_hierarchy.proofs.Places.{same_or_not}
use Rattle.net_least.specs.Lines.{IsLeastLine, IsUnknown}
use Rattle.net_least.proofs.RowItems.{module_there, row_there}
use Rattle.net_least.proofs.UnknownTypes.{own_unknown}
use Rattle.net_least.proofs.unknown.unknown_in.Goals as goal

pub loop-holder-preserved : goal.loop-holder-preserved
loop-holder-preserved c = record {
  count = ap length c.in_ok-push-in-Some.ensures.items ∙ length-append c.loop-holder.own.items (c.first_unknown.result ∷ []) ∙ ap (λ n. n + 1) c.loop-holder.invariant.count;
  own = λ s top is types named n m is_module below.
      let modules = c.args.modules.now.modules in
      let symbols = c.args.modules.now.symbols in
      let holder = c.loop-holder.holder in
      let items = c.loop-holder.own.items in
      let new = c.first_unknown.result in
      let within : holder < length modules = omega (arith, c.loop-holder-test.true, c.len-holder-end.ensures) in
      let x = module_at c.args.modules.now holder in
      let row : c.in-Some.row.now ≡ map (λ (i : Inst). type_of s i.kind) x.insts =
      same_Some c.in-Some.row.now (map (λ (i : Inst). type_of s i.kind) x.insts) (c.in-Some.ensures ∙ row_there s c.args.types.now modules holder types is within) in
      let least : IsLeastLine (IsUnknown s) symbols x.insts new = c.first_unknown.ensures s (c.as_slice.ensures.items ∙ row) in
      let all : c.push.new.self.items ≡ items ++ new ∷ [] = c.in_ok-push-in-Some.ensures.items in
      elim (same_or_not n holder) [
        | inl same ↦
            (let module_same : x ≡ m = same_Some x m (sym (module_there s modules holder is within) ∙ ap (module_of_number s) (sym same) ∙ is_module) in
            let here = own_unknown s top named symbols n m is_module new (subst (λ (y : Module). IsLeastLine (IsUnknown s) symbols y.insts new) module_same least) in
            (new, ap (λ xs. slice_get xs n) all ∙ slice_get_last items new n (same ∙ sym c.loop-holder.invariant.count), here))
        | inr other ↦
            (let before : n < holder = omega (arith, below, other) in
            let old = c.loop-holder.invariant.own s top is types named n m is_module before in
            (old.0, ap (λ xs. slice_get xs n) all ∙ slice_get-append items (new ∷ []) n old.0 old.1, old.2))
      ];
}

pub returns : goal.returns
returns c s top is types named n m is_module =
    let within : n < length s.modules = slice_get_within s.modules n m is_module in
    let count : length s.modules ≡ length c.args.modules.now.modules = ap length is in
    c.loop-holder.invariant.own s top is types named n m is_module (omega (arith, within, count, c.len-holder-end.ensures, c.loop-holder-test.false))
