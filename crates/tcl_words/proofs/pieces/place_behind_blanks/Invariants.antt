use Rattle.std.proofs.Common.{length, ◌-◌, ◌≡◌, ◌≤◌, drop}
use Rattle.tcl_words.specs.Pieces.{behind_blanks}
use Rattle.tcl_words.proofs.pieces.place_behind_blanks.Given as goal

abbrev pub invariant-loop-place : goal.invariant-loop-place
invariant-loop-place l = (l.place ≤ length l.text) × (behind_blanks (drop l.place l.text) ≡ behind_blanks (drop l.from l.text))

abbrev pub decreases-loop-place : goal.decreases-loop-place
decreases-loop-place l = length l.text - l.place
