-- Worked examples of walks, of cuts, of steps, and of where signals begin.
use Rattle.std.proofs.Common.{◌≡◌, ℕ, true, false, [], ◌∷◌, Some, None, refl}
use Rattle.pw_defs.specs.declared.design.Feeder.TheVariants.{Bit as BitFeeder, Driver, Constant}
use Rattle.pw_defs.specs.declared.design.PortBit.{PortBit}
use Rattle.worked_jobs.specs.Designs.{isolated, pair, vector}
use Rattle.design_defs.specs.CutWalks.{IsCutWalk, IsWalkInside, WalkEnd, at_inputs, steps}
use Rattle.design_defs.specs.Drivers.{begins_signal, drives, passes_on}
use Rattle.design_defs.specs.Walks.{IsWalk}

abbrev port_bit : ℕ → ℕ → PortBit
port_bit inst port = record { inst = inst; port = port; place = 0 }

-- from the receiving buffer back to the driving buffer
pub walk_of_pair : IsWalk pair.bits 8 (8 ∷ 6 ∷ 0 ∷ 3 ∷ 5 ∷ []) (Driver (port_bit 2 1))
walk_of_pair =
    IsWalk.goes 8 6 (BitFeeder 6) _ _ refl refl
    (IsWalk.goes 6 0 (BitFeeder 0) _ _ refl refl
    (IsWalk.goes 0 3 (BitFeeder 3) _ _ refl refl (IsWalk.goes 3 5 (BitFeeder 5) _ _ refl refl (IsWalk.ends 5 (Driver (port_bit 2 1)) refl refl))))

-- inside the receiving block the same walk stops at the block's input
pub walk_stops_at_input : IsWalkInside pair 3 8 (8 ∷ 6 ∷ []) WalkEnd.at_cut
walk_stops_at_input = IsCutWalk.goes 8 6 (BitFeeder 6) _ _ refl refl refl (IsCutWalk.stops 6 refl)

-- inside the driving block the walk from its output ends at the driver
pub walk_from_output : IsWalkInside pair 1 3 (3 ∷ 5 ∷ []) (WalkEnd.by_feeder (Driver (port_bit 2 1)))
walk_from_output = IsCutWalk.goes 3 5 (BitFeeder 5) _ _ refl refl refl (IsCutWalk.ends 5 (Driver (port_bit 2 1)) refl refl refl)

-- an output isn't where a walk inside is cut
pub output_is_no_cut : at_inputs pair (1 ∷ []) 3 ≡ false
output_is_no_cut = refl

-- a walk that ends at a constant
pub walk_to_constant : IsWalk vector.bits 5 (5 ∷ []) Constant
walk_to_constant = IsWalk.ends 5 Constant refl refl

-- the steps of the walk through the isolation cell
pub steps_through_cell : steps isolated.bits (9 ∷ 7 ∷ 13 ∷ 11 ∷ 6 ∷ [])
    ≡ record { fed = 9; source = 7; through = None } ∷ record { fed = 7; source = 13; through = None } ∷ record { fed = 13; source = 11; through = Some 5 }
    ∷ record { fed = 11; source = 6; through = None } ∷ []
steps_through_cell = refl

-- the output pin of a buffer and the input of the top are drivers; the output of a block, and that of an isolation cell, are none
pub buffer_drives : drives pair (port_bit 2 1) ≡ true
buffer_drives = refl

pub top_input_drives : drives pair (port_bit 0 0) ≡ true
top_input_drives = refl

pub block_output_drives_not : drives pair (port_bit 1 1) ≡ false
block_output_drives_not = refl

pub isolation_drives_not : drives isolated (port_bit 5 2) ≡ false
isolation_drives_not = refl

pub isolation_passes_on : passes_on isolated (port_bit 5 2) ≡ true
isolation_passes_on = refl

pub no_signal_begins_at_isolation : begins_signal isolated (port_bit 5 2) ≡ false
no_signal_begins_at_isolation = refl
