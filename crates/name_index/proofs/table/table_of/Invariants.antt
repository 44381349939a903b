use Rattle.name_index.proofs.Found.{HasFirst}
use Rattle.name_index.proofs.table.table_of.Given as goal

abbrev pub invariant-loop-number : goal.invariant-loop-number
invariant-loop-number l = HasFirst l.names l.number l.table
