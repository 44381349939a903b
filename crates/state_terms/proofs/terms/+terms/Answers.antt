use Rattle.std.proofs.Common.{◌≡◌, suc, ◌-◌, List, [], ◌∷◌, ◌++◌, sym, ◌∙◌, ap, subst, arith}
use Rattle.power_states.specs.ExpressionWords.{Token, bang, opens}
use Rattle.power_states.specs.Expressions.{IsComparison, IsOne}
use Rattle.pw_defs.specs.declared.terms.Term.{Term}
use Rattle.state_terms.specs.declared.terms.Join.TheVariants.{Either}
use Rattle.state_terms.specs.Readings.{Behind, BeginsNot, Begins}
use Rattle.state_terms.specs.Parts.{language_of, mark_of, IsJoined, IsPart}
use Rattle.state_terms.proofs.Expressions.{all_joined, no_part_joined, no_further_joined, negated_reads, negated_lacks, deep_bang_lacks, grouped_reads, open_lacks, grouped_lacks, deep_opens_lacks, one_reads, one_lacks}
use Rattle.state_terms.proofs.Combining.{behind_reads, behind_lacks}
use Rattle.state_terms.proofs.PartsInOrder.{SoFar, first_part, one_more}
use Rattle.state_terms.proofs.Passing.{err_read, passed_ok, passed_err}
use Rattle.state_terms.proofs.terms.+terms.Goals as goal

pub negated-returns-then-depth-eq0-clause-lacks : goal.negated-returns-then-depth-eq0-clause-lacks
negated-returns-then-depth-eq0-clause-lacks t c = deep_bang_lacks (language_of c.args.speech) c.args.depth c.args.text.now c.if-depth-eq0.true

pub negated-returns-in_err-term-clause-lacks : goal.negated-returns-in_err-term-clause-lacks
negated-returns-in_err-term-clause-lacks t c =
    err_read (IsOne (language_of c.args.speech) (c.args.depth - 1)) (Behind bang (IsOne (language_of c.args.speech) c.args.depth)) c.args.text.now c.args.text.now
    c.from_residual.result c.in_err-term.field-0.0 c.from_residual.ensures.1
    (negated_lacks (language_of c.args.speech) c.args.depth (c.args.depth - 1) c.args.text.now (let deeper : c.args.depth ≡ suc (c.args.depth - 1) = omega arith in deeper))
    c.in_err-term.ensures.lacks

pub negated-returns-clause-reads : goal.negated-returns-clause-reads
negated-returns-clause-reads t c =
    negated_reads (language_of c.args.speech) c.args.depth (c.args.depth - 1) c.args.text.now c.in_ok-term.left.now c.in_ok-term.term c.in_ok-term-2.term (let deeper :
    c.args.depth ≡ suc (c.args.depth - 1) = omega arith in deeper) c.in_ok-term.ensures.reads c.in_ok-term-2.ensures

pub grouped-returns-then-depth-eq0-clause-lacks : goal.grouped-returns-then-depth-eq0-clause-lacks
grouped-returns-then-depth-eq0-clause-lacks t c = deep_opens_lacks (language_of c.args.speech) c.args.depth c.args.text.now c.if-depth-eq0.true

pub grouped-returns-in_err-term-clause-lacks : goal.grouped-returns-in_err-term-clause-lacks
grouped-returns-in_err-term-clause-lacks t c =
    err_read (IsJoined (language_of c.args.speech) Either (c.args.depth - 1)) (Behind opens (IsOne (language_of c.args.speech) c.args.depth)) c.args.text.now c.args.text.now
    c.from_residual.result c.in_err-term.field-0.0
    c.from_residual.ensures.1 (grouped_lacks (language_of c.args.speech) c.args.depth (c.args.depth - 1) c.args.text.now (let deeper : c.args.depth ≡ suc (c.args.depth - 1) =
    omega arith in deeper)) c.in_err-term.ensures.lacks

pub grouped-returns-in_default-clause-lacks : goal.grouped-returns-in_default-clause-lacks
grouped-returns-in_default-clause-lacks t c =
    open_lacks (language_of c.args.speech) c.args.depth (c.args.depth - 1) c.args.text.now c.in_ok-term.rest.now c.in_ok-term.term (let deeper : c.args.depth ≡ suc (c.args.depth -
    1) = omega arith in deeper) c.in_ok-term.ensures.reads c.in_default.ensures

pub grouped-returns-clause-reads : goal.grouped-returns-clause-reads
grouped-returns-clause-reads t c =
    grouped_reads (language_of c.args.speech) c.args.depth (c.args.depth - 1) c.args.text.now c.in_ok-term.rest.now c.in-Some.left.now c.in_ok-term.term (let deeper : c.args.depth
    ≡ suc (c.args.depth - 1) = omega arith in deeper) c.in_ok-term.ensures.reads c.in-Some.ensures

pub one-returns-in-Some-clause-reads : goal.one-returns-in-Some-clause-reads
one-returns-in-Some-clause-reads t c =
    passed_ok (Behind bang (IsOne (language_of c.args.speech) c.args.depth)) (IsOne (language_of c.args.speech) c.args.depth) c.in-Some.rest.now c.args.text.now c.negated.result
    (λ x left r. behind_reads (IsOne (language_of c.args.speech) c.args.depth) bang c.args.text.now c.in-Some.rest.now left x c.in-Some.ensures r) c.negated.ensures.reads

pub one-returns-in-Some-clause-lacks : goal.one-returns-in-Some-clause-lacks
one-returns-in-Some-clause-lacks t c =
    passed_err (Behind bang (IsOne (language_of c.args.speech) c.args.depth)) (IsOne (language_of c.args.speech) c.args.depth) c.in-Some.rest.now c.args.text.now c.negated.result
    (λ l. behind_lacks (IsOne (language_of c.args.speech) c.args.depth) bang c.args.text.now c.in-Some.rest.now c.in-Some.ensures l) c.negated.ensures.lacks

pub one-returns-in-Some-behind-clause-reads : goal.one-returns-in-Some-behind-clause-reads
one-returns-in-Some-behind-clause-reads t c =
    passed_ok (Behind opens (IsOne (language_of c.args.speech) c.args.depth)) (IsOne (language_of c.args.speech) c.args.depth) c.in-Some-behind.rest.now c.args.text.now c.grouped.result
    (λ x left r. behind_reads (IsOne (language_of c.args.speech) c.args.depth) opens c.args.text.now c.in-Some-behind.rest.now left x c.in-Some-behind.ensures r) c.grouped.ensures.reads

pub one-returns-in-Some-behind-clause-lacks : goal.one-returns-in-Some-behind-clause-lacks
one-returns-in-Some-behind-clause-lacks t c =
    passed_err (Behind opens (IsOne (language_of c.args.speech) c.args.depth)) (IsOne (language_of c.args.speech) c.args.depth) c.in-Some-behind.rest.now c.args.text.now c.grouped.result
    (λ l. behind_lacks (IsOne (language_of c.args.speech) c.args.depth) opens c.args.text.now c.in-Some-behind.rest.now c.in-Some-behind.ensures l) c.grouped.ensures.lacks

pub one-returns-clause-reads : goal.one-returns-clause-reads
one-returns-clause-reads t c =
    passed_ok (IsComparison (language_of c.args.speech)) (IsOne (language_of c.args.speech) c.args.depth) c.args.text.now c.args.text.now c.comparison.result
    (λ x left r. one_reads (language_of c.args.speech) c.args.depth c.args.text.now left x c.in_default.ensures c.in_default-behind.ensures r) c.comparison.ensures.reads

pub one-returns-clause-lacks : goal.one-returns-clause-lacks
one-returns-clause-lacks t c =
    passed_err (IsComparison (language_of c.args.speech)) (IsOne (language_of c.args.speech) c.args.depth) c.args.text.now c.args.text.now c.comparison.result
    (λ l. one_lacks (language_of c.args.speech) c.args.depth c.args.text.now c.in_default.ensures c.in_default-behind.ensures l) c.comparison.ensures.lacks

pub parts-returns-in_err-first-clause-lacks : goal.parts-returns-in_err-first-clause-lacks
parts-returns-in_err-first-clause-lacks t c =
    err_read (IsPart (language_of c.args.speech) c.args.join c.args.depth) (IsJoined (language_of c.args.speech) c.args.join c.args.depth) c.args.text.now c.args.text.now
    c.from_residual.result c.in_err-first.field-0.0 c.from_residual.ensures.1
    (no_part_joined (language_of c.args.speech) c.args.join c.args.depth c.args.text.now) c.in_err-first.ensures.lacks

pub parts-loop-further-init : goal.parts-loop-further-init
parts-loop-further-init t c =
    subst (λ (ts : List Term). SoFar (IsPart (language_of c.args.speech) c.args.join c.args.depth) (mark_of c.args.join) c.args.text.now ts c.in_ok-first.left.now)
    (sym (c.in_ok-put.ensures ∙ ap (λ (ts : List Term). ts ++ c.in_ok-first.first ∷ []) c.new-terms.ensures))
    (first_part (IsPart (language_of c.args.speech) c.args.join c.args.depth) (mark_of c.args.join) c.args.text.now c.in_ok-first.left.now c.in_ok-first.first c.in_ok-first.ensures.reads)

pub parts-loop-further-preserved : goal.parts-loop-further-preserved
parts-loop-further-preserved t c =
    subst (λ (ts : List Term). SoFar (IsPart (language_of c.args.speech) c.args.join c.args.depth) (mark_of c.args.join) c.args.text.now ts c.in_ok-term.left.now) (sym c.in_ok-put-2.ensures)
    (
    one_more (IsPart (language_of c.args.speech) c.args.join c.args.depth) (mark_of c.args.join) c.args.text.now c.loop-further.terms c.loop-further.rest.now c.in-Some.further.now
    c.in_ok-term.left.now c.in_ok-term.term c.loop-further.invariant
    (subst (λ (m : Token). Begins c.loop-further.rest.now m c.in-Some.further.now) c.mark.ensures c.in-Some.ensures) c.in_ok-term.ensures.reads
    )

pub parts-returns-in_err-term-clause-lacks : goal.parts-returns-in_err-term-clause-lacks
parts-returns-in_err-term-clause-lacks t c =
    err_read (IsPart (language_of c.args.speech) c.args.join c.args.depth) (IsJoined (language_of c.args.speech) c.args.join c.args.depth) c.in-Some.further.now c.args.text.now
    c.from_residual-in_err-term.result c.in_err-term.field-0.0
    c.from_residual-in_err-term.ensures.1
    (
    no_further_joined (language_of c.args.speech) c.args.join c.args.depth c.args.text.now c.loop-further.terms c.loop-further.rest.now c.in-Some.further.now c.loop-further.invariant
    (subst (λ (m : Token). Begins c.loop-further.rest.now m c.in-Some.further.now) c.mark.ensures c.in-Some.ensures)
    )
    c.in_err-term.ensures.lacks

pub parts-returns-clause-reads : goal.parts-returns-clause-reads
parts-returns-clause-reads t c =
    all_joined (language_of c.args.speech) c.args.join c.args.depth c.args.text.now c.loop-further.terms c.loop-further.rest.now c.term.result c.loop-further.invariant
    (subst (λ (m : Token). BeginsNot c.loop-further.rest.now m) c.mark.ensures c.in_default.ensures) c.term.ensures
