use Rattle.std.proofs.Common.{◌≡◌, List, Some, slice_get, ap, ◌∙◌, arith}
use Rattle.pw_defs.specs.declared.intent.Unit.{Unit as PowerUnit}
use Rattle.unit_lists.specs.Plans.{IsUnitPlanned}
use Rattle.unit_lists.proofs.GatherLemmas.{all_gathered, one_more_at, unit_at, unit_stays}
use Rattle.unit_lists.proofs.SetLemmas.{item_is}
use Rattle.unit_lists.proofs.plans.plan_units.Goals as goal

pub plan_unit-requires-clause-there : goal.plan_unit-requires-clause-there
plan_unit-requires-clause-there c =
    let end = c.len-inner-end.ensures in
    let below = c.loop-inner-test.true in
    c.requires.ports c.loop-inner.inner c.index-items-inner.result
    (item_is c.args.units.now c.as_slice-items.result.now c.loop-inner.inner c.index-items-inner.result c.as_slice-items.ensures.items c.index-items-inner.is (omega arith))

pub loop-inner-preserved : goal.loop-inner-preserved
loop-inner-preserved c =
    let s = c.args.supplies.now in
    let units = c.args.units.now in
    let inner = c.loop-inner.inner in
    let unit = c.index-items-inner.result in
    let end = c.len-inner-end.ensures in
    let below = c.loop-inner-test.true in
    let is : slice_get c.args.units.now c.loop-inner.inner ≡ Some c.index-items-inner.result =
    item_is units c.as_slice-items.result.now inner unit c.as_slice-items.ensures.items c.index-items-inner.is (omega arith) in
    one_more_at s c.args.plan.now c.loop-inner.plan c.plan_unit.new.plan units inner (λ all. all ≡ units) (λ all. slice_get all inner ≡ Some unit)
    (λ all p n x. IsUnitPlanned s all p n x) (λ all n x grows h. unit_stays s all c.loop-inner.plan c.plan_unit.new.plan n x grows h)
    (λ all same. ap (λ (xs : List PowerUnit). slice_get xs inner) same ∙ is) c.loop-inner.invariant
    (unit_at s c.loop-inner.plan c.plan_unit.new.plan units inner unit is c.in_ok-plan_unit.ensures)

pub returns : goal.returns
returns c =
    let end = c.len-inner-end.ensures in
    let past = c.loop-inner-test.false in
    all_gathered c.args.supplies.now c.args.plan.now c.loop-inner.plan c.args.units.now c.loop-inner.inner (λ all. all ≡ c.args.units.now)
    (λ all n x. IsUnitPlanned c.args.supplies.now all c.loop-inner.plan n x) (omega arith) c.loop-inner.invariant
