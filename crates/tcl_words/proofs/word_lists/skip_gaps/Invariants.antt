use Rattle.std.proofs.Common.{◌≡◌, ◌≤◌, List, ℕ, length}
use Rattle.tcl_words.specs.Readings.{manner_of}
use Rattle.tcl_words.specs.Words.{AreWords, Read, Variables}
use Rattle.tcl_words.proofs.word_lists.skip_gaps.Given as goal

abbrev pub invariant-loop-kind : goal.invariant-loop-kind
invariant-loop-kind l =
    (l.reader.whole ≡ l.fn.reader.whole) × (length l.reader.left ≤ length l.fn.reader.left)
    × ((vars : Variables) (read : Read (List (List ℕ))) → AreWords l.fn.reader.whole (manner_of l.kind) vars l.reader.left read
    → AreWords l.fn.reader.whole (manner_of l.kind) vars l.fn.reader.left read)

abbrev pub decreases-loop-kind : goal.decreases-loop-kind
decreases-loop-kind l = length l.reader.left
