use Rattle.std.proofs.Common.{◌≡◌, ◌<◌, length, map, ◌∙◌, subst, arith}
use Rattle.std.proofs.lemmas.Option.{same_Some}
use Rattle.pw_defs.specs.declared.netlist.Inst.{Inst}
use Rattle.design_defs.specs.Hierarchy.{type_of}
use Rattle.module_rows.specs.Reads.{module_at}
use Rattle.net_least.specs.Recursion.{GoesOn, IsFirstBranch, IsLeastBranch}
use Rattle.net_least.proofs.BranchLemmas.{next_of_branch}
use Rattle.net_least.proofs.RowItems.{row_there}
use Rattle.net_least.proofs.branches.next_module.Goals as goal

pub returns-then-is_apart : goal.returns-then-is_apart
returns-then-is_apart c s types is =
    let modules = c.args.modules.now.modules in
    let free = c.args.free.now in
    let marks = c.args.marks.now in
    let n = c.args.holder in
    let insts = (module_at c.args.modules.now n).insts in
    let within : n < length modules = omega (arith, c.if-holder-len.false, c.len.ensures) in
    let row : c.in-Some.row.now ≡ map (λ (i : Inst). type_of s i.kind) insts =
    same_Some c.in-Some.row.now (map (λ (i : Inst). type_of s i.kind) insts) (c.in-Some.ensures ∙ row_there s c.args.types.now modules n types is within) in
    let b = c.in-Some-2.branch in
    let first : IsFirstBranch s free marks insts b = subst (IsLeastBranch s free marks insts) c.in-Some-2.is (c.in_ok-branch-in-Some.ensures s types (c.as_slice.ensures.items ∙ row)) in (
      within,
      next_of_branch s free marks insts c.as_slice-in-Some-2.result.now (c.as_slice-in-Some-2.ensures.items ∙ row) b first
          (λ q k j there in_row not_free. subst (λ x. (GoesOn x j.name → ⊥) × (GoesOn j.name x → ⊥)) c.as_slice-in-Some-2-2.ensures.value
          (c.is_apart.ensures c.if-is_apart.true q k j there in_row not_free)),
    )
