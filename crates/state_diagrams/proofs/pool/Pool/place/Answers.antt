use Rattle.std.proofs.Common.{◌<◌, length, subst, sym, arith}
use Rattle.std.proofs.lemmas.List.{length-map}
use Rattle.diagram_defs.specs.Diagrams.{Diagram, Grows, IsNode}
use Rattle.state_diagrams.specs.Nodes.{shape, shapes}
use Rattle.state_diagrams.specs.Pools.{diagram_of}
use Rattle.state_diagrams.proofs.Additions.{Grows_put}
use Rattle.state_diagrams.proofs.Memo.{IsMemo_grows}
use Rattle.state_diagrams.proofs.pool.Pool.place.Goals as goal
use Rattle.state_diagrams.proofs.pool.Pool.place.Goals.{In_ok-n}

grown : (c : In_ok-n) → Grows (diagram_of c.self.inside) (record { arities = c.self.inside.arities.items; bound = c.self.inside.bound; nodes = shapes c.put.new.nodes })
grown c =
    let d = diagram_of c.self.inside in
    let is = subst (λ (e : Diagram). IsNode e.arities e.nodes (length e.nodes) (shape c.args.node)) (sym c.self.view_is) c.requires.node in
    let room : length d.nodes < d.bound = omega (arith, length-map c.self.inside.nodes.keys shape) in
    Grows_put d (shapes c.put.new.nodes) (shape c.args.node) c.in_ok-n.n c.self.invariant.table is c.requires.nonempty room c.in_ok-n.ensures.ok

pub invariant_of-self-2 : goal.invariant_of-self-2
invariant_of-self-2 c = record {
  table = (grown c).is;
  memo = IsMemo_grows _ _ c.self.inside.memo (grown c) c.self.invariant.memo;
}

pub returns-clause-grows : goal.returns-clause-grows
returns-clause-grows c = rw (← c.self.view_is) (grown c)
