use Rattle.std.proofs.Common.{◌≡◌, Some, slice_get, sym, ap, ◌∙◌, subst}
use Rattle.std.proofs.lemmas.Bool.{false≢true}
use Rattle.std.proofs.lemmas.Option.{same_Some, slice_get-get_or}
use Rattle.module_rows.specs.Reads.{inst_at, module_at, no_inst}
use Rattle.net_least.specs.Recursion.{Ends, key}
use Rattle.net_least.proofs.BranchLemmas.{branch_here, no_branch}
use Rattle.net_least.proofs.Marking.{ends_of}
use Rattle.net_least.proofs.branches.branch_at.Goals as goal

pub returns-in_ok-branch-in-Some : goal.returns-in_ok-branch-in-Some
returns-in_ok-branch-in-Some c s types row =
    let marks = c.args.marks.now in
    let insts = (module_at c.args.modules.now c.args.holder).insts in
    let n = c.args.inst in
    let i = inst_at c.args.modules.now c.args.holder n in
    let there : slice_get insts n ≡ Some i = slice_get-get_or insts n no_inst c.requires.inst in
    let name : c.spelling-name.result.now ≡ i.name = same_Some c.spelling-name.result.now i.name (sym c.spelling-name.ensures ∙ c.inst.ensures.name) in
    let ends = c.closes.result in
    let k = c.in-Some.number in
    branch_here s c.args.free.now marks insts c.args.row.now row n i there c.in_ok-branch-in-Some.branch k ends c.in_ok-branch-in-Some.ensures.number
    (sym c.module_in.ensures ∙ c.in-Some.is) (λ mark. false≢true (sym c.if-is_marked.false ∙ c.is_marked.ensures.1 mark))
    (subst (λ t. Ends t marks k ends) types (ends_of c.args.types.now marks k ends c.closes.ensures)) (c.in_ok-branch-in-Some.ensures.name ∙ name)
    (c.in_ok-branch-in-Some.ensures.key ∙ ap (λ x. key x ends) name)

pub returns-in-None : goal.returns-in-None
returns-in-None c s types row =
    let insts = (module_at c.args.modules.now c.args.holder).insts in
    let n = c.args.inst in
    no_branch s c.args.free.now c.args.marks.now insts c.args.row.now row n (inst_at c.args.modules.now c.args.holder n) (slice_get-get_or insts n no_inst c.requires.inst)
    (sym c.module_in.ensures ∙ c.in-None.is)
