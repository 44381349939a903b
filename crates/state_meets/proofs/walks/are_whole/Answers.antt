use Rattle.std.proofs.Common.{sym, ap, ◌∙◌, nat_eq}
use Rattle.diagram_defs.specs.declared.quantifiers.Quantifier.{Quantifier}
use Rattle.diagram_defs.specs.Quantified.{quantified}
use Rattle.state_meets.proofs.walks.are_whole.Goals as goal

pub returns-in-All : goal.returns-in-All
returns-in-All c = c.all_whole.ensures ∙ ap (λ (q : Quantifier). quantified q (λ n. nat_eq n 1) c.args.numbers.now) (sym c.in-All.is)

pub returns-in-Any : goal.returns-in-Any
returns-in-Any c = c.some_whole.ensures ∙ ap (λ (q : Quantifier). quantified q (λ n. nat_eq n 1) c.args.numbers.now) (sym c.in-Any.is)
