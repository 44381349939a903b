use Rattle.std.proofs.Common.{◌≡◌, length}
use Rattle.lib_cells.specs.Groups.{from_ink}
use Rattle.lib_cells.proofs.names.from_ink.Given as goal

abbrev pub invariant-loop-byte : goal.invariant-loop-byte
invariant-loop-byte l = from_ink l.rest ≡ from_ink l.text

abbrev pub decreases-loop-byte : goal.decreases-loop-byte
decreases-loop-byte l = length l.rest
