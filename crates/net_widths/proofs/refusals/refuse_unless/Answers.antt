use Rattle.std.proofs.Common.{sym, ap, subst}
use Rattle.net_widths.specs.Refusals.{Finds, at_one_line}
use Rattle.net_widths.specs.Sides.{refused}
use Rattle.net_widths.proofs.Finding.{finds_none}
use Rattle.net_widths.proofs.refusals.refuse_unless.Goals as goal

pub returns-in-Some : goal.returns-in-Some
returns-in-Some c = λ names is. finds_none c.args.modules.now.symbols c.args.best _ (ap (λ w. at_one_line c.args.line (refused w names)) c.in-Some.is)

pub returns-in-None : goal.returns-in-None
returns-in-None c = λ names is.
    subst (λ w. Finds c.args.modules.now.symbols c.args.best c.refuse_first.result (at_one_line c.args.line (refused w names))) (sym c.in-None.is) (c.refuse_first.ensures names is)
