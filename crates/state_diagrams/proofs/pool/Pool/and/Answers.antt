use Rattle.diagram_defs.proofs.Yielding.{Makes_same}
use Rattle.state_diagrams.proofs.JoinLemmas.{joined_and, and_nothing, any_level}
use Rattle.state_diagrams.proofs.pool.Pool.and.Goals as goal

pub returns : goal.returns
returns c level first second =
    let found = c.common_level-level in
    any_level c.args.self.now c.joined.new.self c.args.a c.args.b level found.result _ (found.ensures.one level first second) (and_nothing c.args.self.now c.args.a c.args.b) c.joined.result
    (Makes_same c.args.self.now c.joined.new.self found.result _ _ c.joined.result (joined_and c.args.self.now found.ensures.pool found.result c.args.a c.args.b found.ensures.first found.ensures.second) c.joined.ensures)
