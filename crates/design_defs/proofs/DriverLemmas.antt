-- Drivers begin signals; the outputs of modelled instances are none; and in a sound design a walk that ends at a port bit
-- ends where a signal begins.
use Rattle.std.proofs.Common.{◌≡◌, ℕ, true, false, List, Option, Some, None, ap, ◌∙◌}
use Rattle.pw_defs.specs.declared.design.Body.{Body}
use Rattle.pw_defs.specs.declared.design.Body.TheVariants.{Module, Cell, Model}
use Rattle.pw_defs.specs.declared.design.Design.{Design}
use Rattle.pw_defs.specs.declared.design.Feeder.{Feeder}
use Rattle.pw_defs.specs.declared.design.Feeder.TheVariants.{Driver}
use Rattle.pw_defs.specs.declared.design.PortBit.{PortBit}
use Rattle.design_defs.specs.Drivers.{asked_at, begins_signal, begins_signal_in, drives, drives_in}
use Rattle.design_defs.specs.Ports.{body_of}
use Rattle.design_defs.specs.Sound.{IsSoundDesign}
use Rattle.design_defs.specs.Walks.{IsWalk}
use Rattle.design_defs.proofs.WalkEnds.{feeder_of_bit}

-- where a driver is, a signal begins
pub driver_begins_signal : (d : Design) (p : PortBit) → drives d p ≡ true → begins_signal d p ≡ true
driver_begins_signal d p e = by (body_of d p.inst) e
  where
    by : (o : Option Body) → asked_at drives_in d p o ≡ true → asked_at begins_signal_in d p o ≡ true
    by None h = cc
    by (Some (Module m)) h = h
    by (Some (Cell c)) h = h
    by (Some (Model m)) h = cc

-- no port bit of a modelled instance is a driver
pub model_drives_not : (d : Design) (p : PortBit) (m : ℕ) → body_of d p.inst ≡ Some (Model m) → drives d p ≡ false
model_drives_not d p m e = ap (asked_at drives_in d p) e

-- in a sound design a walk that ends at a port bit ends where a signal begins
pub walk_ends_at_signal : (d : Design) → IsSoundDesign d → (n : ℕ) (passed : List ℕ) (end : Feeder) (p : PortBit) → end ≡ Driver p
    → IsWalk d.bits n passed end → begins_signal d p ≡ true
walk_ends_at_signal d sound _ _ _ p same (IsWalk.ends n end e none) =
    let bit = feeder_of_bit d.bits n end e in
    ((sound.drivers_there n bit.0 p bit.1).0 (bit.2 ∙ same)).1
walk_ends_at_signal d sound _ _ _ p same (IsWalk.goes n next f end passed e more walk) = walk_ends_at_signal d sound next passed end p same walk
