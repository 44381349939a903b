-- What is judged of a chain: the sets of its ends, the strategies in effect on it, and the cells that it goes through.
use Rattle.std.specs.Prelude.{Bool, true, false, not, ◌&&◌, List, Option}
use Rattle.pw_defs.specs.declared.intent.SupplySet.{SupplySet}
use Rattle.pw_defs.specs.declared.strategies.Act.{Act}
use Rattle.pw_defs.specs.declared.strategies.Act.TheVariants.{Iso, Shift}
use Rattle.pw_defs.specs.declared.strategies.Mode.{Mode}
use Rattle.pw_defs.specs.declared.strategies.Mode.TheVariants.{Plain, Force, No}

-- an isolation cell or level shifter, or both in one, with the sets of its two sides
pub record PassedCell : Type 0 where
  pub iso : Bool
  pub shift : Bool
  pub input : Option SupplySet
  pub output : SupplySet

-- The crossing from a driver's set to a receiver's: what the strategies in effect at its faces ask, whether another one
-- ties with one of them, and the cells on the way from the driver on. Sets are told apart by their numbers.
pub record Crossing : Type 0 where
  pub driver : SupplySet
  pub receiver : SupplySet
  pub strategies : List Act
  pub tied : Bool
  pub cells : List PassedCell

-- whether a strategy asks for its tool
abbrev pub asks : Mode → Bool
asks Plain = true
asks Force = true
asks No = false

-- whether it asks for its tool whatever the states are
abbrev pub forces : Mode → Bool
forces Plain = false
forces Force = true
forces No = false

abbrev pub forces_isolation : Act → Bool
forces_isolation (Iso mode supply) = forces mode
forces_isolation (Shift mode up down threshold input output) = false

abbrev pub forces_shifting : Act → Bool
forces_shifting (Iso mode supply) = false
forces_shifting (Shift mode up down threshold input output) = forces mode

-- a strategy with -no_shift
abbrev pub forbids_shifting : Act → Bool
forbids_shifting (Iso mode supply) = false
forbids_shifting (Shift mode up down threshold input output) = not (asks mode)

-- a shifting strategy for signals that go to the higher side
abbrev pub shifts_up : Act → Bool
shifts_up (Iso mode supply) = false
shifts_up (Shift mode up down threshold input output) = asks mode && up

-- a shifting strategy for signals that go to the lower side
abbrev pub shifts_down : Act → Bool
shifts_down (Iso mode supply) = false
shifts_down (Shift mode up down threshold input output) = asks mode && down
