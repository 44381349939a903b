use Rattle.std.proofs.Common.{◌≤◌, ℕ, List, get_or, sym, ap, ◌∙◌, arith}
use Rattle.diagram_defs.specs.Diagrams.{kid, Diagram}
use Rattle.state_diagrams.proofs.Fields.{kid_there, kid_past}
use Rattle.state_diagrams.proofs.pool.Pool.child.Goals as goal

pub returns-in-Some : goal.returns-in-Some
returns-in-Some c =
    let node = c.in-Some.node.now in
    let low : 2 ≤ c.args.n = omega arith in
    let there = kid_there c.self.inside.nodes.keys c.args.n c.args.v node low (sym c.in-Some.ensures.key) in
    c.kid_at.ensures ∙ ap (λ (ks : List ℕ). get_or ks c.args.v 0) c.as_slice.ensures ∙ sym there ∙ ap (λ (d : Diagram). kid d.nodes c.args.n c.args.v) c.self.view_is

pub returns-in-None : goal.returns-in-None
returns-in-None c =
    let low : 2 ≤ c.args.n = omega arith in
    sym (kid_past c.self.inside.nodes.keys c.args.n c.args.v low (sym c.in-None.ensures.key)) ∙ ap (λ (d : Diagram). kid d.nodes c.args.n c.args.v) c.self.view_is
