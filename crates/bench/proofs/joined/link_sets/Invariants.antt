use Rattle.std.proofs.Common.{◌≡◌}
use Rattle.diagram_defs.specs.Locals.{AreLocals}
use Rattle.bench.proofs.joined.link_sets.Given as goal

abbrev pub invariant-loop-cond : goal.invariant-loop-cond
invariant-loop-cond l = record {
  arities : l.pool.arities ≡ l.fn.pool.arities;
  sets : AreLocals l.pool l.sets.items;
}
