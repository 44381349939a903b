-- Walks from a receiver back along the feeders, and chains: the walks from a receiver that end at a driver.
use Rattle.std.specs.Prelude.{◌≡◌, ℕ, ◌<◌, Bool, true, false, List, [], ◌∷◌, Option, Some, None, option_map, length, slice_get}
use Rattle.std.specs.List.{AllZip, filter_map, enumerate_from}
use Rattle.pw_defs.specs.declared.chains.Walk.{Walk}
use Rattle.pw_defs.specs.declared.design.Bit.{Bit}
use Rattle.pw_defs.specs.declared.design.Design.{Design}
use Rattle.pw_defs.specs.declared.design.Feeder.{Feeder}
use Rattle.pw_defs.specs.declared.design.Feeder.TheVariants.{Bit as BitFeeder, Through, Driver, Constant, Nothing}
use Rattle.pw_defs.specs.declared.design.PortBit.{PortBit}
use Rattle.design_defs.specs.Ports.{begins}

-- what feeds a bit
abbrev pub feeder_at : List Bit → ℕ → Option Feeder
feeder_at bits n = option_map (λ b. b.feeder) (slice_get bits n)

-- The bit that a walk goes on at: the feeding bit, and behind an isolation cell or level shifter the bit of its
-- through pin. At a driver, a constant or nothing the walk ends.
abbrev pub next_of : Feeder → Option ℕ
next_of (BitFeeder n) = Some n
next_of (Through inst bit) = Some bit
next_of (Driver p) = None
next_of Constant = None
next_of Nothing = None

-- The walk from a bit passes these bits and ends so.
pub data IsWalk (bits : List Bit) : ℕ → List ℕ → Feeder → Type 0 where
  ends : (n : ℕ) (end : Feeder) → feeder_at bits n ≡ Some end → next_of end ≡ None → IsWalk bits n (n ∷ []) end
  goes : (n next : ℕ) (feeder end : Feeder) (passed : List ℕ) → feeder_at bits n ≡ Some feeder → next_of feeder ≡ Some next → IsWalk bits next passed end → IsWalk bits n (n ∷ passed) end

-- each bit has a walk: the feeders lead to bits that there are, and none comes back to its bit
abbrev pub WalksEnd : List Bit → Type 0
WalksEnd bits = (n : ℕ) → n < length bits → (passed : List ℕ) × (end : Feeder) × IsWalk bits n passed end

-- a port bit at which a walk begins, with the number of its bit
abbrev pub start_if : Design → ℕ → PortBit → Bool → Option (ℕ × PortBit)
start_if d n p true = Some (n, p)
start_if d n p false = None

abbrev pub start_at : Design → ℕ → Option PortBit → Option (ℕ × PortBit)
start_at d n None = None
start_at d n (Some p) = start_if d n p (begins d p)

-- where walks begin, in order of the bits
abbrev pub starts : Design → List (ℕ × PortBit)
starts d = filter_map (λ (e : ℕ × Bit). start_at d e.0 e.1.port) (enumerate_from 0 d.bits)

-- The walks of a design: one from each place where a walk begins, in order of the bits.
abbrev pub AreWalks : Design → List Walk → Type 0
AreWalks d ws = AllZip (λ (s : ℕ × PortBit) (w : Walk). (w.to ≡ s.1) × IsWalk d.bits s.0 w.bits w.from) (starts d) ws
