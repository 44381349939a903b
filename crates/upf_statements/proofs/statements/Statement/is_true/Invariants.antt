use Rattle.std.proofs.Common.{◌≡◌, drop}
use Rattle.script_defs.specs.Statements.{is_true}
use Rattle.upf_statements.proofs.statements.Statement.is_true.Given as goal

abbrev pub invariant-loop-clause : goal.invariant-loop-clause
invariant-loop-clause l = is_true l.option (drop l.clause-index l.clause-items) ≡ is_true l.option l.clause-items
