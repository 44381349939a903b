use Rattle.std.proofs.Common.{◌≡◌, ◌≢◌, inl, inr, sym, ◌∙◌, subst}
use Rattle.std.specs.declared.cmp.Ordering.TheVariants.{Less, Equal, Greater}
use Rattle.list_defs.specs.Orders.{name_cmp}
use Rattle.net_least.specs.Recursion.{IsBranchAt, IsLeastBranch}
use Rattle.net_least.proofs.BranchLemmas.{branch_first, branch_less, branch_skip, branch_still}
use Rattle.net_least.proofs.branches.lesser.Goals as goal

pub returns-in-Less : goal.returns-in-Less
returns-in-Less c s free marks insts i known of =
    let after = c.in-Some.after in
    let before = c.in-Some-best.before in
    let less : name_cmp after.key.items before.key.items ≡ Less =
    (λ q. name_cmp (sym c.as_slice.ensures.value q) (sym c.as_slice-in-Some-best.ensures.value q)) ∙ sym c.cmp.ensures ∙ c.in-Less.is in
    branch_less s free marks insts i after (subst (IsBranchAt s free marks i) c.in-Some.is of) before (subst (IsLeastBranch s free marks insts) c.in-Some-best.is known) less

pub returns-in-Equal : goal.returns-in-Equal
returns-in-Equal c s free marks insts i known of =
    let after = c.in-Some.after in
    let before = c.in-Some-best.before in
    let same : name_cmp after.key.items before.key.items ≡ c.cmp.result =
    (λ q. name_cmp (sym c.as_slice.ensures.value q) (sym c.as_slice-in-Some-best.ensures.value q)) ∙ sym c.cmp.ensures in
    let not_less : name_cmp after.key.items before.key.items ≢ Less = λ less.
    elim c.in-Equal.is [
      | inl equal ↦ (let never : Less ≡ Equal = sym less ∙ same ∙ equal in cc)
      | inr greater ↦ (let never : Less ≡ Greater = sym less ∙ same ∙ greater in cc)
    ] in
    branch_still s free marks insts i after (subst (IsBranchAt s free marks i) c.in-Some.is of) before (subst (IsLeastBranch s free marks insts) c.in-Some-best.is known) not_less

pub returns-in-None-best : goal.returns-in-None-best
returns-in-None-best c s free marks insts i known of =
    branch_first s free marks insts i c.in-Some.after (subst (IsBranchAt s free marks i) c.in-Some.is of) (subst (IsLeastBranch s free marks insts) c.in-None-best.is known)

pub returns-in-None : goal.returns-in-None
returns-in-None c s free marks insts i known of = branch_skip s free marks insts i c.args.best known (subst (IsBranchAt s free marks i) c.in-None.is of)
