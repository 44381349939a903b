use Rattle.std.proofs.Common.{◌≡◌, ◌++◌, drop}
use Rattle.script_defs.specs.Statements.{pairs_of}
use Rattle.upf_statements.specs.Views.{pairs_view}
use Rattle.upf_statements.proofs.statements.Statement.pairs_of.Given as goal

abbrev pub invariant-loop-clause : goal.invariant-loop-clause
invariant-loop-clause l = pairs_view l.pairs.items ++ pairs_of l.option (drop l.clause-index l.clause-items) ≡ pairs_of l.option l.clause-items
