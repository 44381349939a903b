use Rattle.std.proofs.Common.{arith}
use Rattle.diagram_defs.proofs.Meaning.{some_kid}
use Rattle.lift_project.proofs.least.least_value.Goals as goal

pub unreachable-requires : goal.unreachable-requires
unreachable-requires c =
    some_kid c.args.pool.now c.nodes-count.ensures.pool c.args.level c.args.n c.requires.level_in c.requires.number c.requires.some (λ v low. c.loop-value.invariant v (let e = c.arity-arity.ensures in omega arith))
