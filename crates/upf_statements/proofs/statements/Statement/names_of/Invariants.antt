use Rattle.std.proofs.Common.{◌≡◌, ◌++◌, drop}
use Rattle.script_defs.specs.Statements.{names_of}
use Rattle.upf_statements.specs.Views.{texts_view}
use Rattle.upf_statements.proofs.statements.Statement.names_of.Given as goal

abbrev pub invariant-loop-clause : goal.invariant-loop-clause
invariant-loop-clause l = texts_view l.names.items ++ names_of l.option (drop l.clause-index l.clause-items) ≡ names_of l.option l.clause-items
