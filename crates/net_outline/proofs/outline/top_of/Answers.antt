use Rattle.net_outline.proofs.Passing.{passed_on}
use Rattle.net_outline.proofs.outline.top_of.Goals as goal

pub returns-in_err-first_by_name-clause-cause : goal.returns-in_err-first_by_name-clause-cause
returns-in_err-first_by_name-clause-cause c =
    passed_on c.from_residual.result c.in_err-first_by_name.field-0.0 _ c.from_residual.ensures.1
    (λ s kinds modules models top. c.in_err-first_by_name.ensures.cause s kinds modules models)

pub returns-in_err-number-clause-cause : goal.returns-in_err-number-clause-cause
returns-in_err-number-clause-cause c =
    passed_on c.from_residual-in_err-number.result c.in_err-number.field-0.0 _ c.from_residual-in_err-number.ensures.1
    (λ s kinds modules models top. c.in_err-number.ensures.cause s kinds top (c.in_ok-first_by_name.ensures.none s kinds modules models))
