use Rattle.std.proofs.Common.{◌≡◌, drop, map}
use Rattle.upf_reader.proofs.RowLemmas.{named_option}
use Rattle.upf_reader.specs.Rows.{option_view}
use Rattle.upf_reader.proofs.table.option_of.Given as goal

abbrev pub invariant-loop-option : goal.invariant-loop-option
invariant-loop-option l =
    named_option l.word (map option_view (drop l.option-index l.option-items)) ≡ named_option l.word (map option_view l.command.options.now)
