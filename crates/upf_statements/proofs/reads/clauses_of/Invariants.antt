use Rattle.std.proofs.Common.{take}
use Rattle.std.specs.List.{AllZip}
use Rattle.upf_reader.specs.Rows.{command_view}
use Rattle.upf_statements.specs.Said.{IsClauseIn}
use Rattle.upf_statements.proofs.reads.clauses_of.Given as goal

abbrev pub invariant-loop-option : goal.invariant-loop-option
invariant-loop-option l = AllZip (IsClauseIn (command_view l.row)) (take l.option-index l.given) l.clauses
