use Rattle.std.proofs.Common.{ℕ, Bool, List, if◌then◌else◌, nat_eq, ◌∙◌, sym, ap}
use Rattle.diagram_defs.specs.Quantified.{quantified}
use Rattle.diagram_defs.proofs.Meaning.{level_of_one}
use Rattle.state_meets.specs.Gathered.{begun_of}
use Rattle.state_meets.proofs.Meets.{walk_end}
use Rattle.state_meets.proofs.walks.known.Goals as goal

pub returns-then-are_whole-clause-number : goal.returns-then-are_whole-clause-number
returns-then-are_whole-clause-number c =
    let d = c.args.pool.now in
    let plan = c.args.plan.now in
    let at = c.if-tuple-level.true ∙ level_of_one d c.level.result c.level.ensures in
    let count = c.requires.plan.count in
    let whole = ap (λ (xs : List ℕ). quantified plan.which (λ n. nat_eq n 1) xs) (sym c.as_slice.ensures) ∙ sym c.are_whole.ensures ∙ c.if-are_whole.true in
    walk_end d c.allocator-alloc.ensures plan.which (begun_of plan) c.args.tuple.now.level c.args.tuple.now.numbers.items at count 1 (ap (λ (b : Bool). if b then 1 else 0) (sym whole))

pub returns-then-tuple-level-clause-number : goal.returns-then-tuple-level-clause-number
returns-then-tuple-level-clause-number c =
    let d = c.args.pool.now in
    let plan = c.args.plan.now in
    let at = c.if-tuple-level.true ∙ level_of_one d c.level.result c.level.ensures in
    let count = c.requires.plan.count in
    let whole = ap (λ (xs : List ℕ). quantified plan.which (λ n. nat_eq n 1) xs) (sym c.as_slice.ensures) ∙ sym c.are_whole.ensures ∙ c.if-are_whole.false in
    walk_end d c.allocator-alloc.ensures plan.which (begun_of plan) c.args.tuple.now.level c.args.tuple.now.numbers.items at count 0 (ap (λ (b : Bool). if b then 1 else 0) (sym whole))
