use Rattle.std.proofs.Common.{◌≡◌, ◌<◌, ℕ, true, Some, length, slice_get}
use Rattle.pw_defs.specs.declared.design.Body.TheVariants.{Model as ModelBody}
use Rattle.pw_defs.specs.declared.model.Model.{Model}
use Rattle.design_defs.specs.Hierarchy.{Sources}
use Rattle.net_inner.specs.Inside.{HasPlans, HasSources}
use Rattle.net_inner.proofs.inner.all_models.Given as goal

abbrev pub invariant-loop-number : goal.invariant-loop-number
invariant-loop-number l = record {
  count : length l.rows ≡ l.number;
  each : (s : Sources) → HasPlans s l.placed → (m : ℕ) → (model : Model) → m < l.number → slice_get l.placed.models.now m ≡ Some model → slice_get l.used m ≡ Some true
      → HasSources s l.placed (ModelBody m) (slice_get l.rows m);
}
