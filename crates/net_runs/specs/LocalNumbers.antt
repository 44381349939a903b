-- The bits of a body by their numbers, and the runs of them that expressions name.
use Rattle.std.specs.Prelude.{◌≡◌, ℕ, ◌+◌, ◌≤◌, ⊤, List, Option, Some, None, length, map, slice_get}
use Rattle.std.specs.List.{range_with_len}
use Rattle.pw_defs.specs.declared.design.Body.{Body}
use Rattle.design_defs.specs.Hierarchy.{Sources}
use Rattle.design_defs.specs.Places.{Signal}
use Rattle.net_places.specs.Nets.{AreLocalBits, LocalBit}
use Rattle.net_runs.specs.declared.runs.Run.{Run}
use Rattle.net_runs.specs.declared.runs.Run.TheVariants.{Bits, Constants}

-- among all bits of a body in order, this one has the number
pub record IsBitNumber (s : Sources) (body : Body) (x : LocalBit) (bit : ℕ) : Type 0 where
  pub bits : List LocalBit
  pub all : AreLocalBits s body bits
  pub there : slice_get bits bit ≡ Some x

-- the number of a bit that an expression of a module names; a constant has none
abbrev pub IsSignalBit : Sources → Body → Signal → Option ℕ → Type 0
IsSignalBit s body (Signal.net_bit net place) (Some bit) = IsBitNumber s body (net, place) bit
IsSignalBit s body (Signal.net_bit net place) None = ⊥
IsSignalBit s body Signal.constant (Some bit) = ⊥
IsSignalBit s body Signal.constant None = ⊤

-- the numbers of the bits of a run
abbrev pub run_bits : Run → List (Option ℕ)
run_bits (Bits first count) = map (λ k. Some (first + k)) (range_with_len 0 count)
run_bits (Constants count) = map (λ k. None) (range_with_len 0 count)

-- how many bits a run has
abbrev pub count_of : Run → ℕ
count_of (Bits first count) = count
count_of (Constants count) = count

-- a body has no more bits than can be numbered in 32 bits
abbrev pub HasFewBits : Sources → Body → Type 0
HasFewBits s body = (bits : List LocalBit) → AreLocalBits s body bits → length bits ≤ 4294967295
