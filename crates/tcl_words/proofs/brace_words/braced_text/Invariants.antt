use Rattle.std.proofs.Common.{◌≡◌, ◌≤◌, length}
use Rattle.tcl_words.proofs.Braces.{after, braced_text}
use Rattle.tcl_words.proofs.brace_words.braced_text.Given as goal

abbrev pub invariant-loop-piece : goal.invariant-loop-piece
invariant-loop-piece l =
    (l.reader.whole ≡ l.fn.reader.whole) × (l.depth ≤ length l.word.items) × (after l.word.items (braced_text l.depth l.reader.left) ≡ braced_text 0 l.fn.reader.left)

abbrev pub decreases-loop-piece : goal.decreases-loop-piece
decreases-loop-piece l = length l.reader.left
