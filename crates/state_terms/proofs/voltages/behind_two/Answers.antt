use Rattle.std.proofs.Common.{[], ◌∷◌}
use Rattle.state_terms.specs.Parts.{AreVolts}
use Rattle.state_terms.proofs.VoltageWords.{closed_reads, closed_lacks, further_reads, further_lacks, no_word_lacks, fourth_lacks, open_here}
use Rattle.state_terms.proofs.Passing.{none_read}
use Rattle.state_terms.proofs.voltages.behind_two.Goals as goal

pub returns-in_err-of_two : goal.returns-in_err-of_two
returns-in_err-of_two c =
    none_read (AreVolts (c.args.first.now ∷ c.args.second.now ∷ [])) c.args.text.now c.from_residual.result c.from_residual.ensures
    (closed_lacks (c.args.first.now ∷ c.args.second.now ∷ []) c.args.text.now c.in-Some.left.now c.in-Some.ensures c.in_err-of_two.ensures)

pub returns-in-Some : goal.returns-in-Some
returns-in-Some c =
    closed_reads (c.args.first.now ∷ c.args.second.now ∷ []) c.args.text.now c.in-Some.left.now c.in_ok-of_two.field-0 c.in-Some.ensures c.in_ok-of_two.ensures

pub returns-in_err-last : goal.returns-in_err-last
returns-in_err-last c =
    none_read (AreVolts (c.args.first.now ∷ c.args.second.now ∷ [])) c.args.text.now c.from_residual-in_err-last.result c.from_residual-in_err-last.ensures
    (no_word_lacks (c.args.first.now ∷ c.args.second.now ∷ []) c.args.text.now (open_here (c.args.first.now ∷ c.args.second.now ∷ []) c.args.text.now c.in_default.ensures)
    c.in_err-last.ensures)

pub returns-in_err-left : goal.returns-in_err-left
returns-in_err-left c =
    none_read (AreVolts (c.args.first.now ∷ c.args.second.now ∷ [])) c.args.text.now c.from_residual-in_err-left.result c.from_residual-in_err-left.ensures
    (
    further_lacks (c.args.first.now ∷ c.args.second.now ∷ []) c.args.text.now (open_here (c.args.first.now ∷ c.args.second.now ∷ []) c.args.text.now c.in_default.ensures)
    c.in_ok-last.last.now c.in_ok-last.rest.now c.in_ok-last.ensures
    (fourth_lacks c.args.first.now c.args.second.now c.in_ok-last.last.now c.in_ok-last.rest.now c.in_err-left.ensures)
    )

pub returns-in_err-of_three : goal.returns-in_err-of_three
returns-in_err-of_three c =
    none_read (AreVolts (c.args.first.now ∷ c.args.second.now ∷ [])) c.args.text.now c.from_residual-in_err-of_three.result c.from_residual-in_err-of_three.ensures
    (
    further_lacks (c.args.first.now ∷ c.args.second.now ∷ []) c.args.text.now (open_here (c.args.first.now ∷ c.args.second.now ∷ []) c.args.text.now c.in_default.ensures)
    c.in_ok-last.last.now c.in_ok-last.rest.now c.in_ok-last.ensures
    (
    closed_lacks (c.args.first.now ∷ c.args.second.now ∷ c.in_ok-last.last.now ∷ []) c.in_ok-last.rest.now c.in_ok-left.left.now c.in_ok-left.ensures
    c.in_err-of_three.ensures
    )
    )

pub returns : goal.returns
returns c =
    further_reads (c.args.first.now ∷ c.args.second.now ∷ []) c.args.text.now (open_here (c.args.first.now ∷ c.args.second.now ∷ []) c.args.text.now c.in_default.ensures)
    c.in_ok-last.last.now c.in_ok-last.rest.now c.in_ok-left.left.now
    c.in_ok-of_three.field-0 c.in_ok-last.ensures
    (
    closed_reads (c.args.first.now ∷ c.args.second.now ∷ c.in_ok-last.last.now ∷ []) c.in_ok-last.rest.now c.in_ok-left.left.now c.in_ok-of_three.field-0
    c.in_ok-left.ensures c.in_ok-of_three.ensures
    )
