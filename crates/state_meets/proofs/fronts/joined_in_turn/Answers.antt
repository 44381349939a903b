use Rattle.std.proofs.Common.{◌≡◌, ◌≤◌, ◌<◌, ◌+◌, ℕ, List, [], ◌∷◌, take, length, get_or, subst, arith}
use Rattle.std.proofs.lemmas.List.{take_all, get_or_default}
use Rattle.diagram_defs.specs.declared.locals.Local.{Local}
use Rattle.diagram_defs.specs.Locals.{IsLocalFor}
use Rattle.diagram_defs.proofs.LocalSets.{local_same}
use Rattle.diagram_defs.proofs.PartLemmas.{GrowsBy_none, GrowsBy_wider, GrowsBy_step}
use Rattle.diagram_defs.proofs.Yielding.{Yields_passed}
use Rattle.state_meets.specs.Gathered.{gathered_set}
use Rattle.state_meets.proofs.FrontLemmas.{front_parts, two_locals, one_more, more_parts}
use Rattle.state_meets.proofs.fronts.joined_in_turn.Goals as goal

-- the set that the loop comes to
abbrev none : Local
none = record { level = 0; number = 0 }

set_is : (sets : List Local) (k : ℕ) → k < length sets → get_or sets k none ≡ get_or sets k (get_or sets k none)
set_is sets k inside = get_or_default sets k none (get_or sets k none) inside

-- no sets at all
pub returns-in_err-none : goal.returns-in_err-none
returns-in_err-none c =
    let old = c.args.pool.now in
    Yields_passed _ c.from_residual.result c.in_err-none.field-0.0 c.from_residual.ensures.1 (GrowsBy_none _ old c.gathered.ensures.0.grows.was) (front_parts old c.args.which c.args.sets.now 0) c.in_err-none.ensures

pub loop-set-init : goal.loop-set-init
loop-set-init c = record {
  grows = GrowsBy_wider _ _ c.args.pool.now c.gathered.new.pool (front_parts c.args.pool.now c.args.which c.args.sets.now 0) c.in_ok-none.ensures.0;
  front = c.in_ok-none.ensures.1;
}

-- one set more
pub gathered-requires-in-loop-set : goal.gathered-requires-in-loop-set
gathered-requires-in-loop-set c =
    two_locals c.args.pool.now c.loop-set.pool c.args.which c.args.sets.now c.loop-set.set-index (get_or c.args.sets.now c.loop-set.set-index none) c.loop-set.front c.loop-set.invariant.grows.grows c.requires c.loop-set-test.true (set_is c.args.sets.now c.loop-set.set-index c.loop-set-test.true) c.loop-set.invariant.front

pub returns-in_err-front : goal.returns-in_err-front
returns-in_err-front c =
    let parts = more_parts c.args.pool.now c.loop-set.pool c.args.which c.args.sets.now c.loop-set.set-index (get_or c.args.sets.now c.loop-set.set-index none) c.loop-set.front c.loop-set.invariant.grows.grows c.requires c.loop-set-test.true (set_is c.args.sets.now c.loop-set.set-index c.loop-set-test.true) c.loop-set.invariant.front in
    Yields_passed _ c.from_residual-in_err-front.result c.in_err-front.field-0.0 c.from_residual-in_err-front.ensures.1 c.loop-set.invariant.grows parts c.in_err-front.ensures

pub loop-set-preserved : goal.loop-set-preserved
loop-set-preserved c =
    let old = c.args.pool.now in
    let mid = c.loop-set.pool in
    let new = c.gathered-in-loop-set.new.pool in
    let which = c.args.which in
    let sets = c.args.sets.now in
    let k = c.loop-set.set-index in
    let parts = more_parts old mid which sets k (get_or c.args.sets.now c.loop-set.set-index none) c.loop-set.front c.loop-set.invariant.grows.grows c.requires c.loop-set-test.true (set_is c.args.sets.now c.loop-set.set-index c.loop-set-test.true) c.loop-set.invariant.front in
    let agree = one_more old mid which sets k (get_or c.args.sets.now c.loop-set.set-index none) c.loop-set.front c.loop-set.invariant.grows.grows c.requires c.loop-set-test.true (set_is c.args.sets.now c.loop-set.set-index c.loop-set-test.true) c.loop-set.invariant.front in
    record {
      grows = GrowsBy_step _ _ old mid new c.loop-set.invariant.grows parts c.in_ok-front.ensures.0;
      front = local_same new (gathered_set mid which (c.loop-set.front ∷ (get_or c.args.sets.now c.loop-set.set-index none) ∷ [])) (gathered_set old which (take (k + 1) sets)) c.in_ok-front.front agree c.in_ok-front.ensures.1;
    }

pub returns : goal.returns
returns c =
    let sets = c.args.sets.now in
    let past : length sets ≤ c.loop-set.set-index = let e = c.loop-set-test.false in omega arith in
    (c.loop-set.invariant.grows, subst (λ (ss : List Local). IsLocalFor c.loop-set.pool (gathered_set c.args.pool.now c.args.which ss) c.loop-set.front) (take_all c.loop-set.set-index sets past) c.loop-set.invariant.front)
