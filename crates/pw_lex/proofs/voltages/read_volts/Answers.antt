use Rattle.std.proofs.Common.{rules, ap, min, ◌∙◌}
use Rattle.std.specs.Str.Parse.{digits_value_after}
use Rattle.pw_lex.proofs.VoltAnswers.{whole_digits, decimal_digits, has_form, number_read, too_high, value_read}
use Rattle.pw_lex.proofs.voltages.read_volts.Goals as goal

-- src/voltages.rt:92:9
pub returns-then-not-are_digits-clause-fault : goal.returns-then-not-are_digits-clause-fault
returns-then-not-are_digits-clause-fault c = λ form. let digits = whole_digits c.args.text.now _ c.parts.ensures.whole form in search rules

-- src/voltages.rt:95:9
pub returns-then-not-are_digits-2-clause-fault : goal.returns-then-not-are_digits-2-clause-fault
returns-then-not-are_digits-2-clause-fault c = λ form. let digits = decimal_digits c.args.text.now _ c.parts.ensures.decimals form in search rules

-- src/voltages.rt:100:9
pub returns-then-microvolts-gt-HIGHEST-clause-fault : goal.returns-then-microvolts-gt-HIGHEST-clause-fault
returns-then-microvolts-gt-HIGHEST-clause-fault c =
    let form = has_form c.args.text.now _ _ c.parts.ensures.whole c.parts.ensures.decimals (search rules) (search rules) (search rules) (search rules) in
    let number =
    number_read c.args.text.now c.parts.result.0.now c.parts.result.1.now c.number_from-number.result c.parts.ensures.whole c.parts.ensures.decimals
    (c.number_from-number.ensures ∙ ap (λ n. min (digits_value_after 10 n c.parts.result.1.now) 1000000001) c.number_from.ensures)
    in
    (form, too_high c.args.text.now c.parts.result.1.now c.number_from-number.result c.unit_of.result (number, c.unit_of.ensures, c.parts.ensures.decimals) c.if-microvolts-gt-HIGHEST.true)

-- src/voltages.rt:80:1
pub returns-clause-volts : goal.returns-clause-volts
returns-clause-volts c =
    let form = has_form c.args.text.now _ _ c.parts.ensures.whole c.parts.ensures.decimals (search rules) (search rules) (search rules) (search rules) in
    let number =
    number_read c.args.text.now c.parts.result.0.now c.parts.result.1.now c.number_from-number.result c.parts.ensures.whole c.parts.ensures.decimals
    (c.number_from-number.ensures ∙ ap (λ n. min (digits_value_after 10 n c.parts.result.1.now) 1000000001) c.number_from.ensures)
    in
    let low = c.if-microvolts-gt-HIGHEST.false in
    record {
      digits = form.digits;
      decimals = form.decimals;
      value = value_read c.args.text.now c.parts.result.1.now c.number_from-number.result c.unit_of.result (number, c.unit_of.ensures, c.parts.ensures.decimals) (search rules);
      limit = search rules;
    }
