use Rattle.std.proofs.Common.{◌≡◌, true, ◌++◌, map, length}
use Rattle.std.specs.List.{list_all}
use Rattle.tcl_words.specs.Pieces.{byte}
use Rattle.tcl_words.specs.Words.{is_name_byte}
use Rattle.tcl_words.proofs.variables.name_front.Given as goal

abbrev pub invariant-loop-byte : goal.invariant-loop-byte
invariant-loop-byte l =
    (l.reader.whole ≡ l.fn.reader.whole) × (l.fn.reader.left ≡ map byte l.name.items ++ l.reader.left) × (list_all is_name_byte l.name.items ≡ true)

abbrev pub decreases-loop-byte : goal.decreases-loop-byte
decreases-loop-byte l = length l.reader.left
