use Rattle.std.proofs.Common.{◌≡◌, List, Option, inr, refl, sym, ◌∙◌, subst, arith}
use Rattle.std.specs.Prelude.{MatchOption}
use Rattle.pw_defs.specs.declared.faults.AtModule.{AtModule}
use Rattle.pw_defs.specs.declared.faults.DesignFault.TheVariants.{N10}
use Rattle.design_defs.specs.DesignFaults.{FaultKind, HasFirstFault}
use Rattle.design_rows.specs.declared.tables.Feed.{Feed}
use Rattle.net_design.proofs.BitCounts.{few_around, spots_count}
use Rattle.net_design.proofs.FaultKinds.{no_fault, none_before_next}
use Rattle.net_feeds.specs.Feeds.{AreFedSo}
use Rattle.net_hierarchy.specs.Ordered.{HasNoneOf}
use Rattle.net_outline.proofs.Passing.{passed_on}
use Rattle.net_outline.proofs.Premises.{insts_apart}
use Rattle.net_design.proofs.wiring.wire.Goals as goal

pub returns-in_err-feeds-clause-cause : goal.returns-in_err-feeds-clause-cause
returns-in_err-feeds-clause-cause c =
    passed_on c.from_residual-in_err-feeds.result c.in_err-feeds.field-0.0 _ c.from_residual-in_err-feeds.ensures.1
    (λ s there read types wired before spots all.
    let p = c.args.placed.now in
    let total = c.in_ok-bits.ensures.count s there in
    let few = few_around s p there read (omega (arith, total, c.in_ok-bits.ensures.fits)) in
    let local = c.in_ok-links.ensures s there read types wired few in
    c.in_err-feeds.ensures.cause s there read (insts_apart s read) local spots all (spots_count s p there spots all ∙ total) before)

pub returns-in-Some-clause-cause : goal.returns-in-Some-clause-cause
returns-in-Some-clause-cause c s there read types wired before spots all =
    let p = c.args.placed.now in
    let total = c.in_ok-bits.ensures.count s there in
    let few = few_around s p there read (omega (arith, total, c.in_ok-bits.ensures.fits)) in
    let local = c.in_ok-links.ensures s there read types wired few in
    let count = spots_count s p there spots all ∙ total in
    let given : c.as_slice.result.now ≡ c.in_ok-feeds.feeds.items = (let value = c.as_slice.ensures.value in cc) in
    let fed = subst (λ (feeds : List Feed). AreFedSo s spots feeds) (sym given) (c.in_ok-feeds.ensures.feeds s there read (insts_apart s read) local spots all count) in
    let next = none_before_next s FaultKind.multi_driven FaultKind.wire_loop refl before (c.in_ok-feeds.ensures.none s there read (insts_apart s read) local spots all count) in
    inr
    (subst (λ (found : Option AtModule). MatchOption found (HasNoneOf s FaultKind.wire_loop) (λ at. HasFirstFault s (N10 at))) c.in-Some.is
    (c.in_ok-at.ensures s there read local spots all fed next))

pub returns-clause-feeds : goal.returns-clause-feeds
returns-clause-feeds c s there read types wired before spots all =
    let p = c.args.placed.now in
    let total = c.in_ok-bits.ensures.count s there in
    let few = few_around s p there read (omega (arith, total, c.in_ok-bits.ensures.fits)) in
    let local = c.in_ok-links.ensures s there read types wired few in
    let count = spots_count s p there spots all ∙ total in
    let given : c.as_slice.result.now ≡ c.in_ok-feeds.feeds.items = (let value = c.as_slice.ensures.value in cc) in
    let is_fed = c.in_ok-feeds.ensures.feeds s there read (insts_apart s read) local spots all count in
    let fed = subst (λ (feeds : List Feed). AreFedSo s spots feeds) (sym given) is_fed in
    let next = none_before_next s FaultKind.multi_driven FaultKind.wire_loop refl before (c.in_ok-feeds.ensures.none s there read (insts_apart s read) local spots all count) in
    let none =
    subst (λ (found : Option AtModule). MatchOption found (HasNoneOf s FaultKind.wire_loop) (λ at. HasFirstFault s (N10 at))) c.in-None.is
    (c.in_ok-at.ensures s there read local spots all fed next) in
    (is_fed, no_fault s next none)
