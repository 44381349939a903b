use Rattle.std.proofs.Common.{◌≡◌, None, inr, sym, ap, ◌∙◌}
use Rattle.pw_defs.specs.declared.faults.DesignFault.TheVariants.{N5}
use Rattle.design_defs.specs.DesignFaults.{FaultKind, at_no_line}
use Rattle.design_defs.specs.Hierarchy.{module_named}
use Rattle.net_hierarchy.proofs.NoTop.{least_no_top}
use Rattle.net_hierarchy.proofs.tops.top_number.Goals as goal

pub returns-in-Some-clause-named : goal.returns-in-Some-clause-named
returns-in-Some-clause-named c s are top = ap (module_named s) top ∙ sym (c.in-Some.ensures.meaning s are)

pub returns-in_ok-at-in-None-clause-cause : goal.returns-in_ok-at-in-None-clause-cause
returns-in_ok-at-in-None-clause-cause c s are top none =
    let missing : module_named s s.top ≡ None = ap (module_named s) top ∙ sym (c.in-None.ensures.meaning s are) in
    let at = c.in_ok-at-in-None.ensures in
    inr (at_no_line FaultKind.unknown_type s.top, least_no_top s missing none, ap N5 (at ∙ ap (λ name. record { «module» = 0; line = 0; name = name }) (sym top)))
