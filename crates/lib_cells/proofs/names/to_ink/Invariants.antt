use Rattle.std.proofs.Common.{◌≡◌, length, reverse}
use Rattle.lib_cells.specs.Groups.{from_ink}
use Rattle.lib_cells.proofs.names.to_ink.Given as goal

abbrev pub invariant-loop-byte : goal.invariant-loop-byte
invariant-loop-byte l = from_ink (reverse l.rest) ≡ from_ink (reverse l.text)

abbrev pub decreases-loop-byte : goal.decreases-loop-byte
decreases-loop-byte l = length l.rest
