use Rattle.std.proofs.Common.{◌≡◌, drop}
use Rattle.script_defs.specs.Statements.{is_given}
use Rattle.upf_statements.proofs.statements.Statement.is_given.Given as goal

abbrev pub invariant-loop-clause : goal.invariant-loop-clause
invariant-loop-clause l = is_given l.option (drop l.clause-index l.clause-items) ≡ is_given l.option l.clause-items
