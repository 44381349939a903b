use Rattle.std.proofs.Common.{◌≡◌, ◌<◌, ℕ, Some, length, slice_get}
use Rattle.pw_defs.specs.declared.cells.Cell.{Cell}
use Rattle.pw_defs.specs.declared.design.Body.TheVariants.{Cell as CellBody}
use Rattle.design_defs.specs.Hierarchy.{Sources}
use Rattle.net_inner.specs.Inside.{HasPlans, HasSources}
use Rattle.net_inner.proofs.inner.all_cells.Given as goal

abbrev pub invariant-loop-number : goal.invariant-loop-number
invariant-loop-number l = record {
  count : length l.rows ≡ l.number;
  each : (s : Sources) → HasPlans s l.placed → (c : ℕ) → (cell : Cell) → c < l.number → slice_get l.placed.cells.now.cells c ≡ Some cell → HasSources s l.placed (CellBody c) (slice_get l.rows c);
}
