use Rattle.state_diagrams.proofs.Shapes.{put_node}
use Rattle.state_diagrams.proofs.nodes.put.Goals as goal

pub returns-clause-ok : goal.returns-clause-ok
returns-clause-ok c =
    let h = c.in_ok-at.ensures in
    put_node c.args.nodes.now.keys c.insert_full.new.self.keys c.args.node h.stored.0 c.in_ok-at.at h.keys h.stored.1 h.stored.2
