-- Walks that are cut at given bits, as at the ports of soft macros, and the steps that they take.
use Rattle.std.specs.Prelude.{◌≡◌, ℕ, ◌==◌, Bool, true, false, ◌&&◌, ◌||◌, List, [], ◌∷◌, Option, Some, None, option_map, option_and_then, slice_get}
use Rattle.std.specs.List.{list_any}
use Rattle.pw_defs.specs.declared.cells.Dir.{Dir}
use Rattle.pw_defs.specs.declared.design.Bit.{Bit}
use Rattle.pw_defs.specs.declared.design.Design.{Design}
use Rattle.pw_defs.specs.declared.design.Feeder.{Feeder}
use Rattle.pw_defs.specs.declared.design.Feeder.TheVariants.{Bit as BitFeeder, Through, Driver, Constant, Nothing}
use Rattle.pw_defs.specs.declared.design.PortBit.{PortBit}
use Rattle.design_defs.specs.Ports.{is_input, is_output, port_at}
use Rattle.design_defs.specs.Walks.{feeder_at, next_of}

-- how a walk ends: at a bit at which it is cut, or by what feeds its last bit, a driver, a constant or nothing
pub data WalkEnd : Type 0 where
  at_cut : WalkEnd
  by_feeder : Feeder → WalkEnd

-- The walk from a bit passes these bits and ends so. It goes back along the feeders, as long as it isn't cut.
pub data IsCutWalk (bits : List Bit) (cut : ℕ → Bool) : ℕ → List ℕ → WalkEnd → Type 0 where
  stops : (n : ℕ) → cut n ≡ true → IsCutWalk bits cut n (n ∷ []) WalkEnd.at_cut
  ends : (n : ℕ) (end : Feeder) → cut n ≡ false → feeder_at bits n ≡ Some end → next_of end ≡ None → IsCutWalk bits cut n (n ∷ []) (WalkEnd.by_feeder end)
  goes : (n next : ℕ) (feeder : Feeder) (end : WalkEnd) (passed : List ℕ) → cut n ≡ false → feeder_at bits n ≡ Some feeder → next_of feeder ≡ Some next
      → IsCutWalk bits cut next passed end → IsCutWalk bits cut n (n ∷ passed) end

-- no bit is cut
abbrev pub nowhere : ℕ → Bool
nowhere n = false

-- the port bit that a bit is
abbrev pub port_bit_at : Design → ℕ → Option PortBit
port_bit_at d n = option_and_then (λ b. b.port) (slice_get d.bits n)

-- whether a port bit is of one of these instances, and its direction passes the test
abbrev pub is_port_bit_of : (Option Dir → Bool) → Design → List ℕ → Option PortBit → Bool
is_port_bit_of test d insts None = false
is_port_bit_of test d insts (Some p) = list_any (λ inst. p.inst == inst) insts && test (option_map (λ port. port.dir) (port_at d p.inst p.port))

-- a cut at the input bits of these instances: walks inside them end there
abbrev pub at_inputs : Design → List ℕ → ℕ → Bool
at_inputs d insts n = is_port_bit_of is_input d insts (port_bit_at d n)

-- a cut at the output bits of these instances: walks outside them end there
abbrev pub at_outputs : Design → List ℕ → ℕ → Bool
at_outputs d insts n = is_port_bit_of is_output d insts (port_bit_at d n)

-- a cut at all port bits of these instances
abbrev pub at_ports : Design → List ℕ → ℕ → Bool
at_ports d insts n = at_inputs d insts n || at_outputs d insts n

-- A walk inside an instance, from a bit in it or from an output bit of it: it stops at an input bit of the instance.
abbrev pub IsWalkInside : Design → ℕ → ℕ → List ℕ → WalkEnd → Type 0
IsWalkInside d inst = IsCutWalk d.bits (at_inputs d (inst ∷ []))

-- a step of a walk: from the bit that is fed to the bit that feeds it, and the isolation cell or level shifter that it
-- goes through, where it doesn't take a link
pub record Step : Type 0 where
  pub fed : ℕ
  pub source : ℕ
  pub through : Option ℕ

-- the instance that a signal goes through on its way from the feeder
abbrev pub through_of : Option Feeder → Option ℕ
through_of None = None
through_of (Some (BitFeeder n)) = None
through_of (Some (Through inst bit)) = Some inst
through_of (Some (Driver p)) = None
through_of (Some Constant) = None
through_of (Some Nothing) = None

-- the steps of a walk that passes these bits, from where it begins on
abbrev pub steps : List Bit → List ℕ → List Step
steps bits [] = []
steps bits (n ∷ []) = []
steps bits (n ∷ m ∷ ns) = record { fed = n; source = m; through = through_of (feeder_at bits n) } ∷ steps bits (m ∷ ns)
