-- Where walks end.
use Rattle.std.specs.Prelude.{◌≡◌, ℕ, List, Option, Some, length, slice_get}
use Rattle.pw_defs.specs.declared.design.Bit.{Bit}
use Rattle.pw_defs.specs.declared.design.Feeder.{Feeder}
use Rattle.pw_defs.specs.declared.design.PortBit.{PortBit}
use Rattle.design_defs.specs.Walks.{IsWalk, feeder_at}
use Rattle.design_walks.specs.declared.rows.StartRow.{StartRow}
use Rattle.design_walks.specs.Trails.{next_bits, walk_of}

-- the walk from a bit ends by what feeds this bit
abbrev pub EndsAt : List Bit → ℕ → ℕ → Type 0
EndsAt bits n last = (passed : List ℕ) (end : Feeder) → IsWalk bits n passed end → feeder_at bits last ≡ Some end

-- for each bit the last bit of its walk, where it is known
pub record AreEnds (bits : List Bit) (ends : List (Option ℕ)) : Type 0 where
  pub all : length ends ≡ length bits
  pub each : (n last : ℕ) → slice_get ends n ≡ Some (Some last) → EndsAt bits n last

-- the walk from a bit, which is that of the port bit, begins and ends so
pub record IsStartOf (bits : List Bit) (n : ℕ) (to : PortBit) (row : StartRow) : Type 0 where
  pub to_port : row.to ≡ to
  pub walk : IsWalk bits n (walk_of (next_bits bits) row).bits row.from
