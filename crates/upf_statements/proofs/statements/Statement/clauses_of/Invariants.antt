use Rattle.std.proofs.Common.{◌≡◌, ◌++◌, Bor, drop, map}
use Rattle.script_defs.specs.Statements.{Clause, clauses_of}
use Rattle.upf_statements.proofs.statements.Statement.clauses_of.Given as goal

abbrev pub invariant-loop-clause : goal.invariant-loop-clause
invariant-loop-clause l =
    map (λ (c : Bor Clause). c.now) l.clauses.items ++ clauses_of l.option (drop l.clause-index l.clause-items) ≡ clauses_of l.option l.clause-items
