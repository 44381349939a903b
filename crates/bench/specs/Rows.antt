-- Numbers that are picked from others.
use Rattle.std.specs.Prelude.{◌≡◌, ℕ, ◌<◌, List, length, slice_index}

-- each number stands at some place of the list, past whose end there is 0
pub record ArePicked (given kids : List ℕ) : Type 0 where
  pub each : (v : ℕ) → v < length kids → (at : ℕ) × (slice_index kids v ≡ slice_index given at)
