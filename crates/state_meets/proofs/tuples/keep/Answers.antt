use Rattle.std.proofs.Common.{Bool, not, [], ◌∷◌, ◌++◌, sym, ap, ◌∙◌, subst}
use Rattle.std.proofs.Math.Bool.{not-not}
use Rattle.diagram_defs.specs.Diagrams.{IsNumberFor}
use Rattle.diagram_defs.specs.Quantified.{quantified_none}
use Rattle.state_meets.specs.Walks.{Stands, constant_set}
use Rattle.state_meets.proofs.Standing.{Stands_more, Stands_left_out}
use Rattle.state_meets.proofs.tuples.keep.Goals as goal

pub returns-then-is_constant : goal.returns-then-is_constant
returns-then-is_constant c numbers before =
    let d = c.args.pool.now in
    let which = c.args.plan.now.which in
    let says = ap not c.decides.ensures ∙ not-not (quantified_none which) in
    Stands_left_out d which c.args.stage.level numbers c.args.kept.now.items c.args.n (subst (λ (b : Bool). IsNumberFor d c.args.stage.level (constant_set d c.args.stage.level b) c.args.n) says (c.is_constant.ensures c.if-is_constant.true)) before

pub returns : goal.returns
returns c numbers before =
    let d = c.args.pool.now in
    let which = c.args.plan.now.which in
    subst (Stands d which c.args.stage.level (numbers ++ c.args.n ∷ [])) (sym c.in_ok-push.ensures.ok) (Stands_more d which c.args.stage.level numbers c.args.kept.now.items c.args.n c.requires.number before)
