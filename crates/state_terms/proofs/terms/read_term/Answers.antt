use Rattle.std.proofs.Common.{[]}
use Rattle.power_states.specs.ExpressionWords.{HasTokens}
use Rattle.state_terms.specs.Readings.{IsTermFault}
use Rattle.state_terms.specs.Parts.{language_of}
use Rattle.state_terms.proofs.Expressions.{whole_reads, whole_lacks, more_behind}
use Rattle.state_terms.proofs.Passing.{told_true, told_false, err_told}
use Rattle.state_terms.proofs.terms.read_term.Goals as goal

pub returns-in_err-term-clause-fault : goal.returns-in_err-term-clause-fault
returns-in_err-term-clause-fault c =
    err_told (IsTermFault (language_of c.args.speech) c.args.text.now) c.from_residual.result c.in_err-term.field-0.0 c.from_residual.ensures.1
    (whole_lacks (language_of c.args.speech) c.args.text.now c.in_err-term.field-0.0 c.in_err-term.ensures.lacks)

pub returns-then-not-is_at_end-clause-fault : goal.returns-then-not-is_at_end-clause-fault
returns-then-not-is_at_end-clause-fault c =
    more_behind (language_of c.args.speech) c.args.text.now c.in_ok-term.rest.now c.in_ok-term.term c.in_ok-term.ensures.reads
    (told_false c.is_at_end.result (HasTokens c.in_ok-term.rest.now []) (¬ HasTokens c.in_ok-term.rest.now []) c.is_at_end.ensures c.if-not-is_at_end.true)

pub returns-clause-term : goal.returns-clause-term
returns-clause-term c =
    whole_reads (language_of c.args.speech) c.args.text.now c.in_ok-term.rest.now c.in_ok-term.term c.in_ok-term.ensures.reads
    (told_true c.is_at_end.result (HasTokens c.in_ok-term.rest.now []) (¬ HasTokens c.in_ok-term.rest.now []) c.is_at_end.ensures c.if-not-is_at_end.false)
