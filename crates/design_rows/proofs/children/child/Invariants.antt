use Rattle.std.proofs.Common.{◌≡◌, ◌-◌, ◌<◌, ◌≤◌, ℕ, Some, length, slice_get}
use Rattle.design_rows.specs.Children.{IsChild}
use Rattle.design_rows.proofs.children.child.Given as goal

-- the instance of the name stands between the two places, if there is one
abbrev pub invariant-loop-low : goal.invariant-loop-low
invariant-loop-low l = record {
  ordered : l.low ≤ l.high;
  within : l.high ≤ length l.children;
  between : (k n : ℕ) → slice_get l.children k ≡ Some n → IsChild l.rows l.outer l.name n → (l.low ≤ k) × (k < l.high);
}

abbrev pub decreases-loop-low : goal.decreases-loop-low
decreases-loop-low l = l.high - l.low
