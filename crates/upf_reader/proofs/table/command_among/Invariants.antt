use Rattle.std.proofs.Common.{◌≡◌, drop, map}
use Rattle.upf_reader.proofs.RowLemmas.{named_row}
use Rattle.upf_reader.specs.Rows.{command_view}
use Rattle.upf_reader.proofs.table.command_among.Given as goal

abbrev pub invariant-loop-row : goal.invariant-loop-row
invariant-loop-row l = named_row l.name (map command_view (drop l.row-index l.rows)) ≡ named_row l.name (map command_view l.rows)
