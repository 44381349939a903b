use Rattle.std.proofs.Common.{Bool, not, ap, ◌∙◌, subst}
use Rattle.std.proofs.Math.Bool.{not-not}
use Rattle.diagram_defs.specs.Diagrams.{IsNumberFor}
use Rattle.diagram_defs.specs.Quantified.{quantified_none}
use Rattle.state_meets.specs.Walks.{constant_set}
use Rattle.state_meets.specs.Gathered.{begun_of}
use Rattle.state_meets.proofs.Endings.{walk_none}
use Rattle.state_meets.proofs.walks.number_of_none.Goals as goal

pub returns-then-is_over : goal.returns-then-is_over
returns-then-is_over c =
    let d = c.args.pool.now in
    let which = c.args.plan.now.which in
    let says = ap not c.decides.ensures ∙ not-not (quantified_none which) in
    let number = subst (λ (b : Bool). IsNumberFor d c.args.level (constant_set d c.args.level b) c.in_ok-n.n) says c.in_ok-n.ensures in
    walk_none d which (begun_of c.args.plan.now) c.args.level (c.is_over.ensures c.if-is_over.true) c.in_ok-n.n number
