use Rattle.diagram_defs.proofs.Growth.{IsNumberFor_same}
use Rattle.state_diagrams.proofs.JoinLemmas.{joined_full}
use Rattle.state_diagrams.proofs.pool.Pool.full_there.Goals as goal

pub returns-in-Some : goal.returns-in-Some
returns-in-Some c = IsNumberFor_same c.args.self.now c.args.level _ _ c.in-Some.n (joined_full c.args.self.now c.args.level) c.in-Some.ensures.joined
