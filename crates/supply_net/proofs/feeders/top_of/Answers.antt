use Rattle.std.proofs.Common.{◌≡◌, ℕ, List, length, slice_index, inr, sym, ap, ◌∙◌, subst, arith}
use Rattle.supply_defs.specs.Network.{FeedersLead}
use Rattle.supply_net.proofs.FeederLemmas.{above_there, top_here, two_up, kept_above, led_there, leads_on}
use Rattle.supply_net.proofs.feeders.top_of.Goals as goal

pub returns-then-next-at-clause-top : goal.returns-then-next-at-clause-top
returns-then-next-at-clause-top c =
    let h = c.loop-step.invariant in
    top_here c.args.supplies.now c.loop-step.above.items c.requires.feeders h.above c.args.supply c.loop-step.at h.there
    (sym (ap (λ (xs : List ℕ). slice_index xs c.loop-step.at) c.as_slice.ensures.value) ∙ c.if-next-at.true) h.way

pub bounds-as_slice-next : goal.bounds-as_slice-next
bounds-as_slice-next c =
    let h = c.loop-step.invariant in
    let within = above_there c.args.supplies.now c.loop-step.above.items c.requires.feeders h.above c.loop-step.at h.there in
    let count = h.above.count in
    let next = ap (λ (xs : List ℕ). slice_index xs c.loop-step.at) c.as_slice.ensures.value in
    let all = ap (λ (xs : List ℕ). length xs) c.as_slice-in-loop-step.ensures.value in
    omega arith

pub loop-step-preserved : goal.loop-step-preserved
loop-step-preserved c =
    let h = c.loop-step.invariant in
    let s = c.args.supplies.now in
    let above = c.loop-step.above.items in
    let at = c.loop-step.at in
    let next : ℕ = slice_index c.as_slice.result.now at in
    let is : next ≡ slice_index above at = ap (λ (xs : List ℕ). slice_index xs at) c.as_slice.ensures.value in
    let same : slice_index c.as_slice-in-loop-step.result.now next ≡ slice_index above next =
    ap (λ (xs : List ℕ). slice_index xs next) c.as_slice-in-loop-step.ensures.value in
    let L : ℕ → Type 0 = λ n. FeedersLead s at n in
    let lead : FeedersLead s at (slice_index c.as_slice-in-loop-step.result.now next) =
    subst L (sym same) (two_up s above c.requires.feeders h.above at next h.there is c.if-next-at.false) in
    record {
      above = kept_above s above h.above at (slice_index c.as_slice-in-loop-step.result.now next) lead;
      there = led_there s c.requires.feeders.in_range at (slice_index c.as_slice-in-loop-step.result.now next) lead;
      way = inr (leads_on s c.args.supply at (slice_index c.as_slice-in-loop-step.result.now next) h.way lead);
    }
