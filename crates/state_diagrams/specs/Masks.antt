-- Masks of the values of a level, bit by bit.
use Rattle.std.specs.Prelude.{◌≡◌, ℕ, ◌<◌, ◌==◌, ◌&&◌, Bool, true, false, if◌then◌else◌, List, length, slice_index}
use Rattle.std.specs.Int.{bit_at}
use Rattle.diagram_defs.specs.Diagrams.{Diagram}
use Rattle.diagram_defs.specs.Sets.{full_set}

-- some value below the arity has its bit
abbrev pub PicksSome : ℕ → ℕ → Type 0
PicksSome mask arity = (v : ℕ) × (v < arity) × ((bit_at mask v == 1) ≡ true)

-- no value below the arity has its bit
abbrev pub PicksNone : ℕ → ℕ → Type 0
PicksNone mask arity = (v : ℕ) → v < arity → (bit_at mask v == 1) ≡ false

-- n for each value that has its bit, and 0 for the others
pub record IsPicked (mask n count : ℕ) (kids : List ℕ) : Type 0 where
  pub count_is : length kids ≡ count
  pub each : (v : ℕ) → v < length kids → slice_index kids v ≡ (if bit_at mask v == 1 then n else 0)

-- the rests of a level whose first value has its bit
abbrev pub choice_set : Diagram → ℕ → ℕ → List ℕ → Bool
choice_set d level mask rest = full_set d level rest && (bit_at mask (slice_index rest 0) == 1)
