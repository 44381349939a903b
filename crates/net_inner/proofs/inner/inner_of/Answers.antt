use Rattle.std.proofs.Common.{◌∙◌, ap, slice_get}
use Rattle.net_inner.specs.Inside.{HasPlans}
use Rattle.net_inner.proofs.InnerLemmas.{inner_sources}
use Rattle.net_inner.proofs.inner.inner_of.Goals as goal

pub returns : goal.returns
returns c s there =
    let plans : HasPlans s c.args.placed.now = record { of_sources = there.of_sources; plans = there.plans } in
    inner_sources s c.args.placed.now there c.in_ok-cells.cells c.in_ok-models.models c.in_ok-used.used.items
    (λ k cell at. c.in_ok-cells.ensures s plans k cell at)
    (λ m model at mark. c.in_ok-models.ensures s plans m model at (ap (λ us. slice_get us m) c.as_slice.ensures.value ∙ mark)) c.in_ok-used.ensures
