use Rattle.std.proofs.Common.{sym, subst}
use Rattle.power_states.specs.Expressions.{IsComparison}
use Rattle.pw_defs.specs.declared.terms.Term.{Term}
use Rattle.state_terms.specs.Readings.{Reads}
use Rattle.state_terms.specs.Parts.{language_of, IsSide}
use Rattle.state_terms.proofs.Comparisons.{compared_reads, compared_lacks, sign_lacks, word_lacks}
use Rattle.state_terms.proofs.Passing.{err_read}
use Rattle.state_terms.proofs.terms.comparison.Goals as goal

pub returns-in_default-clause-lacks : goal.returns-in_default-clause-lacks
returns-in_default-clause-lacks c = word_lacks (language_of c.args.speech) c.args.text.now c.in_default.ensures

pub returns-in_default-sign-clause-lacks : goal.returns-in_default-sign-clause-lacks
returns-in_default-sign-clause-lacks c =
    sign_lacks (language_of c.args.speech) c.in-Some.subject.now c.args.text.now c.in-Some.rest.now c.in-Some.ensures c.in_default-sign.ensures.0 c.in_default-sign.ensures.1

pub returns-in_err-term-clause-lacks : goal.returns-in_err-term-clause-lacks
returns-in_err-term-clause-lacks c =
    err_read (IsSide (language_of c.args.speech) c.in-Some.subject.now) (IsComparison (language_of c.args.speech)) c.in-Some-sign.rest.now c.args.text.now c.from_residual.result
    c.in_err-term.field-0.0
    c.from_residual.ensures.1
    (
    compared_lacks (language_of c.args.speech) c.in-Some.subject.now c.in-Some-sign.same c.args.text.now c.in-Some.rest.now c.in-Some-sign.rest.now c.in-Some.ensures c.in-Some-sign.ensures
    )
    c.in_err-term.ensures.lacks

pub returns-clause-reads : goal.returns-clause-reads
returns-clause-reads c =
    subst (λ (t : Term). Reads (IsComparison (language_of c.args.speech)) c.args.text.now t c.in_ok-term.left.now) (sym c.in_ok-term-2.ensures)
    (
    compared_reads (language_of c.args.speech) c.in-Some.subject.now c.in-Some-sign.same c.args.text.now c.in-Some.rest.now c.in-Some-sign.rest.now c.in_ok-term.left.now c.in_ok-term.term
    c.in-Some.ensures c.in-Some-sign.ensures c.in_ok-term.ensures.reads
    )
