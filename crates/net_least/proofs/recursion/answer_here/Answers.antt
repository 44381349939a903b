use Rattle.std.proofs.Common.{◌≡◌, ◌<◌, length, map, ap, ◌∙◌, subst, arith}
use Rattle.std.proofs.lemmas.Option.{same_Some}
use Rattle.pw_defs.specs.declared.faults.DesignFault.TheVariants.{N9}
use Rattle.pw_defs.specs.declared.netlist.Inst.{Inst}
use Rattle.design_defs.specs.DesignFaults.{FaultKind, at_line}
use Rattle.design_defs.specs.Hierarchy.{type_of}
use Rattle.module_rows.specs.Reads.{module_at}
use Rattle.net_least.specs.Lines.{IsFirstLine, IsLeastLine}
use Rattle.net_least.specs.Recursion.{IsOfMarked}
use Rattle.net_least.proofs.Recursions.{first_recursion}
use Rattle.net_least.proofs.RowItems.{module_there, row_there}
use Rattle.net_least.proofs.recursion.answer_here.Goals as goal

pub returns-in_ok-at-in-Some-first_closing : goal.returns-in_ok-at-in-Some-first_closing
returns-in_ok-at-in-Some-first_closing c s apart names is types none begun =
    let modules = c.args.modules.now.modules in
    let symbols = c.args.modules.now.symbols in
    let marks = c.args.marks.now in
    let n = c.args.holder in
    let m = module_at c.args.modules.now n in
    let own = c.in-Some-first_closing.own in
    let within : n < length modules = omega (arith, c.if-holder-len.false, c.len.ensures) in
    let row : c.in-Some.row.now ≡ map (λ (i : Inst). type_of s i.kind) m.insts =
    same_Some c.in-Some.row.now (map (λ (i : Inst). type_of s i.kind) m.insts) (c.in-Some.ensures ∙ row_there s c.args.types.now modules n types is within) in
    let first : IsFirstLine (IsOfMarked s marks) symbols m.insts own =
    subst (IsLeastLine (IsOfMarked s marks) symbols m.insts) c.in-Some-first_closing.is (c.first_closing.ensures s (c.as_slice.ensures.items ∙ row)) in (
      at_line FaultKind.recursion begun.way n own.line first.i.kind,
      first_recursion s apart names none marks n begun m (module_there s modules n is within) symbols own first,
      ap N9 (c.in_ok-at-in-Some-first_closing.ensures first.i.kind first.name),
    )
