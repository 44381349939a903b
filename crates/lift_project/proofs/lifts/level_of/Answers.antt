use Rattle.std.proofs.Common.{◌≤◌, ◌<◌, ◌-◌, List, length, get_or, sym, ap, arith}
use Rattle.plain_lists.specs.declared.kept.KeptNode.{KeptNode}
use Rattle.diagram_defs.specs.Diagrams.IsKid.{node}
use Rattle.lift_project.specs.Lifts.{shape_of}
use Rattle.lift_project.proofs.MarkLemmas.{kept_shape}
use Rattle.lift_project.proofs.lifts.level_of.Goals as goal

pub returns : goal.returns
returns c =
    let nodes = c.args.kept.now.nodes in
    let at = c.args.n - 2 in
    let low : 2 ≤ c.args.n = let one = c.requires.low in let other = c.if-n-eq1.false in omega arith in
    let inside : at < length nodes = let high = c.requires.high in omega arith in
    node at (shape_of (get_or nodes at c.index-as_slice-n.result)) (omega arith) inside (kept_shape nodes at c.index-as_slice-n.result inside) (sym (ap (λ (ns : List KeptNode). (get_or ns at c.index-as_slice-n.result).level) c.as_slice.ensures.items))
