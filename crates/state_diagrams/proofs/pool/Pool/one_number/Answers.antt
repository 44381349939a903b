use Rattle.state_diagrams.proofs.OneNumber.{one_number_each}
use Rattle.state_diagrams.proofs.pool.Pool.one_number.Goals as goal

pub returns : goal.returns
returns c = one_number_each c.args.self.now c.nodes-count.ensures.pool
