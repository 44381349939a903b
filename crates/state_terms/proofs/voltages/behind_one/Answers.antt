use Rattle.std.proofs.Common.{[], ◌∷◌}
use Rattle.state_terms.specs.Parts.{AreVolts}
use Rattle.state_terms.proofs.VoltageWords.{closed_reads, closed_lacks, further_reads, further_lacks, no_word_lacks, open_here}
use Rattle.state_terms.proofs.Passing.{none_read, passed_option}
use Rattle.state_terms.proofs.voltages.behind_one.Goals as goal

pub returns-in_err-of_one : goal.returns-in_err-of_one
returns-in_err-of_one c =
    none_read (AreVolts (c.args.first.now ∷ [])) c.args.text.now c.from_residual.result c.from_residual.ensures
    (closed_lacks (c.args.first.now ∷ []) c.args.text.now c.in-Some.left.now c.in-Some.ensures c.in_err-of_one.ensures)

pub returns-in-Some : goal.returns-in-Some
returns-in-Some c =
    closed_reads (c.args.first.now ∷ []) c.args.text.now c.in-Some.left.now c.in_ok-of_one.field-0 c.in-Some.ensures c.in_ok-of_one.ensures

pub returns-in_err-second : goal.returns-in_err-second
returns-in_err-second c =
    none_read (AreVolts (c.args.first.now ∷ [])) c.args.text.now c.from_residual-in_err-second.result c.from_residual-in_err-second.ensures
    (no_word_lacks (c.args.first.now ∷ []) c.args.text.now (open_here (c.args.first.now ∷ []) c.args.text.now c.in_default.ensures) c.in_err-second.ensures)

pub returns : goal.returns
returns c =
    passed_option (AreVolts (c.args.first.now ∷ c.in_ok-second.second.now ∷ [])) (AreVolts (c.args.first.now ∷ [])) c.in_ok-second.rest.now c.args.text.now c.behind_two.result
    (
    further_lacks (c.args.first.now ∷ []) c.args.text.now (open_here (c.args.first.now ∷ []) c.args.text.now c.in_default.ensures) c.in_ok-second.second.now
    c.in_ok-second.rest.now c.in_ok-second.ensures
    )
    (
    λ v left h.
    further_reads (c.args.first.now ∷ []) c.args.text.now (open_here (c.args.first.now ∷ []) c.args.text.now c.in_default.ensures) c.in_ok-second.second.now
    c.in_ok-second.rest.now left v
    c.in_ok-second.ensures h
    )
    c.behind_two.ensures
