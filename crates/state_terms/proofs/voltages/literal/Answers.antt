use Rattle.std.proofs.Common.{[], codes, sym, ◌∙◌}
use Rattle.state_terms.specs.Parts.{AreVolts, IsLiteral}
use Rattle.state_terms.proofs.Comparisons.{literal_reads, literal_lacks, no_literal, no_word_literal, other_word_literal, text_is, text_is_not}
use Rattle.state_terms.proofs.Passing.{none_read, passed_option}
use Rattle.state_terms.proofs.voltages.literal.Goals as goal

pub returns-in_err-rest : goal.returns-in_err-rest
returns-in_err-rest c =
    none_read IsLiteral c.args.text.now c.from_residual.result c.from_residual.ensures (no_literal c.args.text.now c.in_err-rest.ensures)

pub returns-in_err-on : goal.returns-in_err-on
returns-in_err-on c =
    none_read IsLiteral c.args.text.now c.from_residual-in_err-on.result c.from_residual-in_err-on.ensures
    (no_word_literal c.args.text.now c.in_ok-rest.rest.now c.in_ok-rest.ensures c.in_err-on.ensures)

pub returns-then-not-is_full_on : goal.returns-then-not-is_full_on
returns-then-not-is_full_on c =
    other_word_literal c.args.text.now c.in_ok-rest.rest.now c.in_ok-on.on.now c.in_ok-on.rest.now c.in_ok-rest.ensures c.in_ok-on.ensures
    (text_is_not c.in_ok-on.on.now (codes "FULL_ON") (sym c.is_full_on.ensures ∙ c.if-not-is_full_on.true))

pub returns : goal.returns
returns c =
    passed_option (AreVolts []) IsLiteral c.in_ok-on.rest.now c.args.text.now c.voltage.result
    (
    literal_lacks c.args.text.now c.in_ok-rest.rest.now c.in_ok-on.on.now c.in_ok-on.rest.now c.in_ok-rest.ensures c.in_ok-on.ensures
    (text_is c.in_ok-on.on.now (codes "FULL_ON") (sym c.is_full_on.ensures ∙ c.if-not-is_full_on.false))
    )
    (
    λ v left h.
    literal_reads c.args.text.now c.in_ok-rest.rest.now c.in_ok-on.on.now c.in_ok-on.rest.now left v c.in_ok-rest.ensures c.in_ok-on.ensures
    (text_is c.in_ok-on.on.now (codes "FULL_ON") (sym c.is_full_on.ensures ∙ c.if-not-is_full_on.false)) h
    )
    c.voltage.ensures
