use Rattle.std.proofs.Common.{eq-eqb, ◌≤◌, arith}
use Rattle.script_world.proofs.DotLemmas.{last_dot, no_dot}
use Rattle.script_world.proofs.handles.last_dot.Goals as goal

pub returns-then-name-end-eq46-clause-some : goal.returns-then-name-end-eq46-clause-some
returns-then-name-end-eq46-clause-some c =
    last_dot c.args.name.now c.loop-end.end c.loop-end-test.true c.loop-end.invariant.0 (eq-eqb _ _ c.if-name-end-eq46.true) c.loop-end.invariant.1

pub returns-clause-none : goal.returns-clause-none
returns-clause-none c =
    let end : c.loop-end.end ≤ 0 = c.loop-end-test.false in
    no_dot c.args.name.now (λ k from to. c.loop-end.invariant.1 k (omega arith) to)
