use Rattle.std.proofs.Common.{◌≡◌, ◌&&◌, not, drop, map, filter}
use Rattle.upf_commands.specs.CommandRows.{OptionRow}
use Rattle.upf_commands.specs.Commands.{is_given, missing_options}
use Rattle.upf_reader.specs.Parts.{part_view}
use Rattle.upf_reader.specs.Readings.{first_of}
use Rattle.upf_reader.specs.Rows.{option_view, command_view}
use Rattle.upf_reader.proofs.lacks.first_needed.Given as goal

abbrev pub invariant-loop-option : goal.invariant-loop-option
invariant-loop-option l = first_of (map (λ (o : OptionRow). o.kept) (filter (λ (o : OptionRow). o.needed && not (is_given o.kept (map part_view l.parts))) (map option_view (drop l.option-index l.option-items)))) ≡ first_of (missing_options (command_view l.row) (map part_view l.parts))
