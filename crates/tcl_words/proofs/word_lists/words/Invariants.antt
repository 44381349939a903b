use Rattle.std.proofs.Common.{◌≡◌, List, ℕ, length}
use Rattle.tcl_words.specs.Readings.{manner_of, with_words}
use Rattle.tcl_words.specs.Settings.{Holds}
use Rattle.tcl_words.specs.Words.{AreWords, Read, Variables}
use Rattle.tcl_words.proofs.word_lists.words.Given as goal

abbrev pub invariant-loop-alloc : goal.invariant-loop-alloc
invariant-loop-alloc l =
    (l.reader.whole ≡ l.fn.reader.whole)
    × ((vars : Variables) → Holds l.settings vars → (read : Read (List (List ℕ))) → AreWords l.fn.reader.whole (manner_of l.kind) vars l.reader.left read
    → AreWords l.fn.reader.whole (manner_of l.kind) vars l.fn.reader.left (with_words l.words read))

abbrev pub decreases-loop-alloc : goal.decreases-loop-alloc
decreases-loop-alloc l = length l.reader.left
