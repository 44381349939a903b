use Rattle.std.proofs.Common.{inr, sym, subst, arith}
use Rattle.design_defs.specs.DesignFaults.{FaultKind}
use Rattle.net_least.specs.OwnFaults.{AreOwn, IsFirstOf, IsOfLines}
use Rattle.net_least.proofs.unknown.unknown_fault.Goals as goal

pub returns-in-Some-clause-cause : goal.returns-in-Some-clause-cause
returns-in-Some-clause-cause c s is types named apart names order none =
    let own = subst (AreOwn s FaultKind.unknown_type c.args.modules.now.symbols) (sym c.as_slice.ensures.value) (c.in_ok-own.ensures s c.args.top is types named) in
    let found = c.in_ok-at.ensures s FaultKind.unknown_type is types named apart names order IsOfLines.unknown_type none own in
    inr (subst (IsFirstOf s FaultKind.unknown_type) c.in-Some.is found)

pub returns-clause-none : goal.returns-clause-none
returns-clause-none c s is types named apart names order none f fault =
    let own = subst (AreOwn s FaultKind.unknown_type c.args.modules.now.symbols) (sym c.as_slice.ensures.value) (c.in_ok-own.ensures s c.args.top is types named) in
    let found = c.in_ok-at.ensures s FaultKind.unknown_type is types named apart names order IsOfLines.unknown_type none own in
    let no_such = subst (IsFirstOf s FaultKind.unknown_type) c.in-None.is found in
    let le = none f fault in
    let other = no_such f fault in
    omega arith
