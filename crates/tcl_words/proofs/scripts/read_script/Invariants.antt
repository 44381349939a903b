use Rattle.std.proofs.Common.{◌≡◌, length}
use Rattle.tcl_words.specs.Cuts.{pieces_of}
use Rattle.tcl_words.specs.LineReadings.{AreLinesSoFar}
use Rattle.tcl_words.proofs.scripts.read_script.Given as goal

abbrev pub invariant-loop-lines : goal.invariant-loop-lines
invariant-loop-lines l =
    (AreLinesSoFar (pieces_of l.fn.text) (pieces_of l.fn.text) l.settings l.lines l.reader.left) × (l.reader.whole ≡ pieces_of l.fn.text)

abbrev pub decreases-loop-lines : goal.decreases-loop-lines
decreases-loop-lines l = length l.reader.left
