use Rattle.std.proofs.Common.{[], ◌∷◌}
use Rattle.state_terms.specs.Parts.{AreVolts}
use Rattle.state_terms.proofs.VoltageWords.{further_reads, further_lacks, no_word_lacks, open_at_first}
use Rattle.state_terms.proofs.Passing.{none_read, passed_option}
use Rattle.state_terms.proofs.voltages.voltage.Goals as goal

pub returns-in_err-first : goal.returns-in_err-first
returns-in_err-first c =
    none_read (AreVolts []) c.args.text.now c.from_residual.result c.from_residual.ensures
    (no_word_lacks [] c.args.text.now (open_at_first c.args.text.now) c.in_err-first.ensures)

pub returns : goal.returns
returns c =
    passed_option (AreVolts (c.in_ok-first.first.now ∷ [])) (AreVolts []) c.in_ok-first.rest.now c.args.text.now c.behind_one.result
    (further_lacks [] c.args.text.now (open_at_first c.args.text.now) c.in_ok-first.first.now c.in_ok-first.rest.now c.in_ok-first.ensures)
    (
    λ v left h.
    further_reads [] c.args.text.now (open_at_first c.args.text.now) c.in_ok-first.first.now c.in_ok-first.rest.now left v c.in_ok-first.ensures h
    )
    c.behind_one.ensures
