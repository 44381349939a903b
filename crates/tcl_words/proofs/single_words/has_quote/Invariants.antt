use Rattle.std.proofs.Common.{◌≡◌, length}
use Rattle.std.specs.List.{list_any}
use Rattle.tcl_words.specs.Pieces.{is_byte}
use Rattle.tcl_words.proofs.single_words.has_quote.Given as goal

abbrev pub invariant-loop-piece : goal.invariant-loop-piece
invariant-loop-piece l = list_any (is_byte 34) l.ahead.left ≡ list_any (is_byte 34) l.reader.left

abbrev pub decreases-loop-piece : goal.decreases-loop-piece
decreases-loop-piece l = length l.ahead.left
