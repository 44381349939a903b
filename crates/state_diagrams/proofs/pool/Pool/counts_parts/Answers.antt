use Rattle.state_diagrams.proofs.PartCounts.{more_parts}
use Rattle.state_diagrams.proofs.pool.Pool.counts_parts.Goals as goal

pub returns : goal.returns
returns c sets nodes parts full = more_parts c.args.self.now c.nodes-count.ensures.pool sets nodes parts full
