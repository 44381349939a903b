use Rattle.state_diagrams.proofs.JoinLemmas.{joined_complement}
use Rattle.diagram_defs.proofs.Yielding.{Makes_same}
use Rattle.state_diagrams.proofs.pool.Pool.complement.Goals as goal

pub returns : goal.returns
returns c =
    Makes_same c.args.self.now c.joined.new.self c.args.level _ _ c.joined.result (joined_complement c.args.self.now c.args.level c.args.a) c.joined.ensures
