use Rattle.state_diagrams.proofs.JoinLemmas.{joined_full}
use Rattle.diagram_defs.proofs.Yielding.{Makes_same}
use Rattle.state_diagrams.proofs.pool.Pool.full.Goals as goal

pub returns : goal.returns
returns c =
    Makes_same c.args.self.now c.joined.new.self c.args.level _ _ c.joined.result (joined_full c.args.self.now c.args.level) c.joined.ensures
