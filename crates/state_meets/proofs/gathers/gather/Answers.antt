use Rattle.std.proofs.Common.{◌≡◌, ◌+◌, ℕ, Bool, List, [], get_or, length, sym, ap, ◌∙◌, subst, arith}
use Rattle.diagram_defs.specs.declared.quantifiers.Quantifier.{Quantifier}
use Rattle.diagram_defs.specs.Parts.{IsPartOf}
use Rattle.diagram_defs.specs.Sets.{widened_set}
use Rattle.diagram_defs.proofs.LocalSets.{whole_parts, local_made}
use Rattle.diagram_defs.proofs.PartLemmas.{GrowsBy_none, GrowsBy_step}
use Rattle.state_meets.specs.Walks.{AreSets, walk_set}
use Rattle.state_meets.specs.Gathered.{begun_of, gathered_set}
use Rattle.state_meets.proofs.Meets.{AreRests_walk}
use Rattle.state_meets.proofs.Reasons.{walk_passed, walk_memory}
use Rattle.state_meets.proofs.Spreading.{walk_whole}
use Rattle.state_meets.proofs.gathers.gather.Goals as goal
use Rattle.state_meets.proofs.gathers.gather.Goals.{In_ok-numbers, After-walk}

-- the numbers that begin at the first level
read : (c : In_ok-numbers) → c.in_ok-numbers.numbers.items ≡ get_or (begun_of c.in_ok-plan.plan) c.in_ok-plan.plan.before []
read c = c.in_ok-numbers.ensures.ok ∙ c.begun_at.ensures

pub walk-requires-clause-sets : goal.walk-requires-clause-sets
walk-requires-clause-sets c =
    let d = c.args.pool.now in
    let level = c.in_ok-plan.plan.before in
    let same : 0 + level ≡ level = omega arith in
    subst (AreSets d level) (sym (read (goal.at.walk-requires-clause-sets c).In_ok-numbers)) (subst (λ (l : ℕ). AreSets d l (get_or (begun_of c.in_ok-plan.plan) level [])) same (c.in_ok-plan.ensures.right.begun level))

pub returns-in_err-plan : goal.returns-in_err-plan
returns-in_err-plan c = walk_memory _ c.from_residual.result c.from_residual.ensures.1 (GrowsBy_none _ c.args.pool.now c.allocator-alloc.ensures)

pub returns-in_err-numbers : goal.returns-in_err-numbers
returns-in_err-numbers c =
    walk_memory _ c.from_residual-in_err-numbers.result c.from_residual-in_err-numbers.ensures.1 (GrowsBy_none _ c.args.pool.now c.allocator-alloc.ensures)

-- the walk's set, with any values of the levels before
whole : (c : After-walk) (state : List ℕ) → widened_set c.args.pool.now 0 c.in_ok-plan.plan.before (walk_set c.args.pool.now c.in_ok-plan.plan.which (begun_of c.in_ok-plan.plan) c.in_ok-plan.plan.before c.in_ok-numbers.numbers.items) state ≡ gathered_set c.args.pool.now c.args.which c.args.sets.now state
whole c state =
    let d = c.args.pool.now in
    let plan = c.in_ok-plan.plan in
    let all = walk_whole d plan.which c.args.sets.now (begun_of plan) c.in_ok-plan.plan.before c.in_ok-numbers.numbers.items state c.in_ok-plan.ensures.low c.in_ok-plan.ensures.spread c.in_ok-plan.ensures.begins (read (goal.at-After-walk c).In_ok-numbers) in
    all ∙ ap (λ (q : Quantifier). gathered_set d q c.args.sets.now state) c.in_ok-plan.ensures.which_is

parts : (c : After-walk) (l : ℕ) (part : List ℕ → Bool) → IsPartOf (length c.args.pool.now.arities) c.in_ok-plan.plan.before (walk_set c.args.pool.now c.in_ok-plan.plan.which (begun_of c.in_ok-plan.plan) c.in_ok-plan.plan.before c.in_ok-numbers.numbers.items) l part
    → IsPartOf (length c.args.pool.now.arities) 0 (gathered_set c.args.pool.now c.args.which c.args.sets.now) l part
parts c =
    whole_parts c.args.pool.now c.in_ok-plan.plan.before c.in_ok-plan.ensures.low _ _ (whole c) c.allocator-alloc.ensures (AreRests_walk c.args.pool.now c.in_ok-plan.plan.which (begun_of c.in_ok-plan.plan) c.in_ok-plan.plan.before c.in_ok-numbers.numbers.items)

pub returns-in_err-number : goal.returns-in_err-number
returns-in_err-number c =
    walk_passed _ c.from_residual-in_err-number.result c.in_err-number.field-0.0 c.from_residual-in_err-number.ensures.1 (GrowsBy_none _ c.args.pool.now c.allocator-alloc.ensures) (parts (goal.at.returns-in_err-number c).After-walk) c.in_err-number.ensures.makes

pub returns : goal.returns
returns c =
    let at = (goal.at.returns c).After-walk in
    let old = c.args.pool.now in
    let grown = GrowsBy_step _ _ old old c.walk.new.pool (GrowsBy_none _ old c.allocator-alloc.ensures) (parts at) c.walk.ensures.makes.0 in
    (grown, local_made old c.in_ok-plan.plan.before c.in_ok-plan.ensures.low _ _ (whole at) c.walk.new.pool c.in_ok-number.number c.walk.ensures.makes.0.grows c.in_ok-number.ensures.makes.1)
