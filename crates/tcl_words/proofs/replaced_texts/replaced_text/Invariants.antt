use Rattle.std.proofs.Common.{◌≡◌, List, ℕ, length}
use Rattle.tcl_words.specs.Readings.{manner_of, stop_of}
use Rattle.tcl_words.specs.Settings.{Holds}
use Rattle.tcl_words.specs.Words.{IsReplaced, Read, Variables, with_text}
use Rattle.tcl_words.proofs.replaced_texts.replaced_text.Given as goal

abbrev pub invariant-loop-text : goal.invariant-loop-text
invariant-loop-text l =
    (l.reader.whole ≡ l.fn.reader.whole)
    × ((vars : Variables) → Holds l.settings vars → (read : Read (List ℕ))
    → IsReplaced l.fn.reader.whole (manner_of l.kind) vars (stop_of l.kind l.quoted) l.reader.left read
    → IsReplaced l.fn.reader.whole (manner_of l.kind) vars (stop_of l.kind l.quoted) l.fn.reader.left (with_text l.text.items read))

abbrev pub decreases-loop-text : goal.decreases-loop-text
decreases-loop-text l = length l.reader.left
