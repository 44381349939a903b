use Rattle.std.proofs.Common.{Bool, subst}
use Rattle.diagram_defs.specs.Diagrams.{IsNumberFor}
use Rattle.state_meets.specs.Walks.{constant_set}
use Rattle.state_meets.specs.Gathered.{begun_of}
use Rattle.state_meets.proofs.Endings.{walk_one}
use Rattle.state_meets.proofs.Meets.{walk_decided}
use Rattle.state_meets.proofs.walks.number_of_one.Goals as goal

pub returns-then-is_over : goal.returns-then-is_over
returns-then-is_over c =
    walk_one c.args.pool.now c.args.plan.now.which (begun_of c.args.plan.now) c.args.level (c.is_over.ensures c.if-is_over.true) c.allocator-alloc.ensures c.args.n c.requires.number

pub returns-then-is_constant : goal.returns-then-is_constant
returns-then-is_constant c =
    let d = c.args.pool.now in
    let level = c.args.level in
    let is = subst (λ (b : Bool). IsNumberFor d level (constant_set d level b) c.args.n) c.decides.ensures (c.is_constant.ensures c.if-is_constant.true) in
    walk_decided d c.args.plan.now.which (begun_of c.args.plan.now) level c.args.n is
