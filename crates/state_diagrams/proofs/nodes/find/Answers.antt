use Rattle.std.proofs.Common.{sym}
use Rattle.state_diagrams.proofs.Shapes.{placed, absent}
use Rattle.state_diagrams.proofs.nodes.find.Goals as goal

pub returns-in-Some : goal.returns-in-Some
returns-in-Some c =
    placed c.args.nodes.now.keys c.args.node.now c.in-Some.field-0-1.now c.in-Some.at c.in-Some.ensures.index c.in-Some.ensures.stored

pub returns-in-None : goal.returns-in-None
returns-in-None c = absent c.args.nodes.now.keys c.args.node.now (sym c.in-None.ensures.found)
