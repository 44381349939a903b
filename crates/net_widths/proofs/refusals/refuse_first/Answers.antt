use Rattle.std.proofs.Common.{subst}
use Rattle.net_widths.specs.Refusals.{IsFirstName}
use Rattle.net_widths.proofs.Finding.{finds_first, finds_no_name}
use Rattle.net_widths.proofs.refusals.refuse_first.Goals as goal

pub returns-in-Some : goal.returns-in-Some
returns-in-Some c = λ names is.
    finds_first c.args.modules.now.symbols c.args.best c.refuse.result c.args.line c.in-Some.symbol c.refuse.ensures names (subst (IsFirstName c.args.modules.now.symbols names) c.in-Some.is is)

pub returns-in-None : goal.returns-in-None
returns-in-None c = λ names is. finds_no_name c.args.modules.now.symbols c.args.best c.args.line names (subst (IsFirstName c.args.modules.now.symbols names) c.in-None.is is)
