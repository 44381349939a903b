use Rattle.std.proofs.Common.{Option, inr, refl, subst}
use Rattle.std.specs.Prelude.{MatchOption}
use Rattle.pw_defs.specs.declared.faults.AtModule.{AtModule}
use Rattle.pw_defs.specs.declared.faults.DesignFault.TheVariants.{N12}
use Rattle.design_defs.specs.DesignFaults.{FaultKind, HasFirstFault, HasNoneBefore}
use Rattle.net_design.proofs.FaultKinds.{none_before_next}
use Rattle.net_hierarchy.specs.Ordered.{HasNoneOf}
use Rattle.net_design.proofs.elaborating.check_names.Goals as goal

pub returns-in-Some-clause-cause : goal.returns-in-Some-clause-cause
returns-in-Some-clause-cause c s bits of read named made before =
    inr
    (subst (λ (found : Option AtModule). MatchOption found (HasNoneOf s FaultKind.path_twice) (λ at. HasNoneBefore FaultKind.path_twice s → HasFirstFault s (N12 at))) c.in-Some.is
    (c.in_ok-at.ensures s bits of.0 of.1 of.2 read named made) before)

pub returns-in-None-clause-none : goal.returns-in-None-clause-none
returns-in-None-clause-none c s bits of read named made before =
    none_before_next s FaultKind.path_twice FaultKind.multi_driven refl before
    (subst (λ (found : Option AtModule). MatchOption found (HasNoneOf s FaultKind.path_twice) (λ at. HasNoneBefore FaultKind.path_twice s → HasFirstFault s (N12 at))) c.in-None.is
    (c.in_ok-at.ensures s bits of.0 of.1 of.2 read named made))
