-- The chains that the check of plain cells judges: the walks from a receiver that end at a driver.
use Rattle.std.specs.Prelude.{ℕ, Bool, true, false, List, [], ◌∷◌, Option, Some, None}
use Rattle.std.specs.List.{filter_map}
use Rattle.pw_defs.specs.declared.chains.Walk.{Walk}
use Rattle.pw_defs.specs.declared.design.Design.{Design}
use Rattle.pw_defs.specs.declared.design.Feeder.{Feeder}
use Rattle.pw_defs.specs.declared.design.Feeder.TheVariants.{Bit, Through, Driver, Constant, Nothing}
use Rattle.pw_defs.specs.declared.design.PortBit.{PortBit}
use Rattle.design_defs.specs.Ports.{receives}

-- the two ends of a chain, each as a port bit and as the number of its bit
pub record Ends : Type 0 where
  pub receiver : PortBit
  pub receiver_bit : ℕ
  pub driver : PortBit
  pub driver_bit : ℕ

abbrev pub first_bit : List ℕ → ℕ
first_bit [] = 0
first_bit (n ∷ ns) = n

abbrev pub last_bit : List ℕ → ℕ
last_bit [] = 0
last_bit (n ∷ []) = n
last_bit (n ∷ m ∷ ns) = last_bit (m ∷ ns)

-- the ends of a walk from a receiver, where it ends at a driver
abbrev pub driven : Walk → Feeder → Option Ends
driven w (Driver p) = Some (record { receiver = w.to; receiver_bit = first_bit w.bits; driver = p; driver_bit = last_bit w.bits })
driven w (Bit n) = None
driven w (Through inst bit) = None
driven w Constant = None
driven w Nothing = None

abbrev pub received : Walk → Bool → Option Ends
received w true = driven w w.from
received w false = None

abbrev pub chain_of : Design → Walk → Option Ends
chain_of d w = received w (receives d w.to)

-- the chains among the walks of a design, in their order
abbrev pub chains : Design → List Walk → List Ends
chains d ws = filter_map (chain_of d) ws
