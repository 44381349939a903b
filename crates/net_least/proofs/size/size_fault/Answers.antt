use Rattle.std.proofs.Common.{inr, sym, ap, ◌∙◌, codes}
use Rattle.std.proofs.lemmas.Bool.{false≢true}
use Rattle.pw_defs.specs.declared.faults.DesignFault.TheVariants.{X1}
use Rattle.design_defs.specs.DesignFaults.{FaultKind, IsTooLarge, at_no_line}
use Rattle.net_least.proofs.TooLarge.{least_too_large, none_too_large}
use Rattle.net_least.proofs.size.size_fault.Goals as goal

pub returns-then-branch-clause-cause : goal.returns-then-branch-clause-cause
returns-then-branch-clause-cause c s own types named apart is ones bits spots none =
    let large : IsTooLarge s = (c.in_ok-is_too_large.ensures s own types named apart is ones bits spots).0 c.if-branch.true in
    inr (at_no_line FaultKind.size (codes "-"), least_too_large s none large, ap X1 c.in_ok-at.ensures)

pub returns-clause-none : goal.returns-clause-none
returns-clause-none c s own types named apart is ones bits spots none =
    none_too_large s none (λ large. false≢true (sym c.if-branch.false ∙ (c.in_ok-is_too_large.ensures s own types named apart is ones bits spots).1 large))
