use Rattle.std.proofs.Common.{◌≡◌, drop}
use Rattle.script_defs.specs.Statements.{name_of}
use Rattle.upf_statements.proofs.statements.Statement.name_of.Given as goal

abbrev pub invariant-loop-clause : goal.invariant-loop-clause
invariant-loop-clause l = name_of l.option (drop l.clause-index l.clause-items) ≡ name_of l.option l.clause-items
