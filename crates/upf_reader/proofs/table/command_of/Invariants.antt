use Rattle.std.proofs.Common.{◌≡◌, drop}
use Rattle.upf_commands.specs.CommandWords.{row_of}
use Rattle.upf_reader.proofs.RowLemmas.{named_row}
use Rattle.upf_reader.specs.Rows.{rows_of}
use Rattle.upf_reader.proofs.table.command_of.Given as goal

abbrev pub invariant-loop-group : goal.invariant-loop-group
invariant-loop-group l = named_row l.name (rows_of (drop l.group-index l.group-items)) ≡ row_of l.name
