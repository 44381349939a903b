use Rattle.std.proofs.Common.{◌≡◌, sym, ◌∙◌, subst}
use Rattle.net_widths.specs.Refusals.{Finds, at_one_line, first_of, unequal}
use Rattle.net_widths.proofs.FaultLines.{unlike}
use Rattle.net_widths.proofs.refusals.refuse_unequal.Goals as goal

pub returns-else-count-other : goal.returns-else-count-other
returns-else-count-other c = λ names is.
    let differ : unequal c.args.left c.args.right names ≡ first_of names =
    (λ q. unequal (c.in-Some.is q) (c.in-Some-right.is q) names) ∙ unlike c.in-Some.count c.in-Some-right.other names c.if-count-other.false in
    subst (λ refused. Finds c.args.modules.now.symbols c.args.best c.refuse_first.result (at_one_line c.args.line refused)) (sym differ) (c.refuse_first.ensures names is)
