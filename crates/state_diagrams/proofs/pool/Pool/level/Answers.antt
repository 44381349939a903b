use Rattle.std.proofs.Common.{◌≤◌, sym, ap, arith}
use Rattle.diagram_defs.specs.Diagrams.{Diagram}
use Rattle.state_diagrams.proofs.Fields.{level_there}
use Rattle.state_diagrams.proofs.pool.Pool.level.Goals as goal

pub returns : goal.returns
returns c =
    let low : 2 ≤ c.args.n = omega arith in
    let nodes = ap (λ (d : Diagram). d.nodes) (sym c.self.view_is) in
    rw c.as_slice.ensures.keys (level_there c.args.self.now c.self.inside.nodes.keys c.args.n c.index-as_slice-n.result nodes low c.requires.high)
