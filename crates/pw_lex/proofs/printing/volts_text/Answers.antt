use Rattle.std.proofs.Common.{ap, ◌++◌, ◌∙◌}
use Rattle.pw_lex.proofs.Printed.{printed}
use Rattle.pw_lex.proofs.printing.volts_text.Goals as goal

pub returns-clause-text : goal.returns-clause-text
returns-clause-text c =
    c.in_ok-put.ensures.ok
    ∙ ap (λ text. c.args.out.now ++ text)
    (printed c.args.v c.unneeded.result c.digit.result c.digit-2.result c.digit-3.result c.digit-4.result c.digit-5.result c.digit-6.result c.digit-7.result
    c.digit-8.result c.digit-9.result c.digit-10.result c.unneeded.ensures.few c.unneeded.ensures.needed c.digit.ensures c.digit-2.ensures c.digit-3.ensures
    c.digit-4.ensures c.digit-5.ensures c.digit-6.ensures c.digit-7.ensures c.digit-8.ensures c.digit-9.ensures c.digit-10.ensures)
