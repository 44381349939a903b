-- What is remembered of the sets of drivers and receivers.
use Rattle.std.specs.Prelude.{◌≡◌, ℕ, List, Option, Some, option_map, option_and_then, slice_get}
use Rattle.std.specs.List.{find}
use Rattle.std.specs.declared.hash.FoldHasher.{FoldHasher}
use Rattle.std.specs.declared.hash.BuildHasherDefault.{BuildHasherDefault}
use Rattle.std.specs.HashMap.{HashMap, get}
use Rattle.pw_defs.specs.declared.intent.Intent.{Intent}
use Rattle.pw_defs.specs.declared.values.State.{State}
use Rattle.checks.specs.LineChains.{Ends}
use Rattle.supply_defs.specs.Conditions.{holds}
use Rattle.supply_defs.specs.States.{value_in}
use Rattle.checks.specs.LineWatches.{set_of, isolation_missing}
use Rattle.checks.specs.declared.judge.Sides.{Sides}
use Rattle.checks.specs.contracts.judge.SidesPartialEq.TheImpl.{eq-value}

-- the sets of a chain's ends
abbrev pub sides_of : Intent → Ends → Option Sides
sides_of i c =
    option_and_then (λ driver. option_map (λ receiver. record { driver = driver; receiver = receiver }) (set_of i c.receiver.inst)) (set_of i c.driver.inst)

-- it is the place of the first state in which isolation is missing between two sets, or none where there is no such state
abbrev pub IsFirstShown : List State → Sides → Option ℕ → Type 0
IsFirstShown states sides place =
    option_and_then (slice_get states) place ≡ find (λ s. holds (value_in s.values) (isolation_missing sides.driver sides.receiver)) states

-- each remembered place is right
pub record AreFirstShown (states : List State) (seen : HashMap Sides (Option ℕ) (BuildHasherDefault FoldHasher)) : Type 0 where
  pub each : (sides : Sides) (place : Option ℕ) → get eq-value.it seen sides ≡ Some place → IsFirstShown states sides place
