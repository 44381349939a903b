use Rattle.std.proofs.Common.{◌≡◌, drop}
use Rattle.diagram_defs.specs.Diagrams.{member}
use Rattle.state_diagrams.proofs.pool.Pool.holds.Given as goal

abbrev pub invariant-loop-v : goal.invariant-loop-v
invariant-loop-v l = member l.self.nodes l.n (drop l.v-index l.rest) ≡ member l.self.nodes l.fn.n l.rest
