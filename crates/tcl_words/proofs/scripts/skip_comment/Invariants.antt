use Rattle.std.proofs.Common.{◌≡◌, false, length}
use Rattle.tcl_words.proofs.ScriptLaws.{behind_comment}
use Rattle.tcl_words.proofs.scripts.skip_comment.Given as goal

abbrev pub invariant-loop-piece : goal.invariant-loop-piece
invariant-loop-piece l =
    (l.reader.whole ≡ l.fn.reader.whole) × (behind_comment l.behind_backslash l.reader.left ≡ behind_comment false l.fn.reader.left)

abbrev pub decreases-loop-piece : goal.decreases-loop-piece
decreases-loop-piece l = length l.reader.left
