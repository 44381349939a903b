use Rattle.std.proofs.Common.{length, ◌-◌, ◌≡◌}
use Rattle.text_streams.specs.Places.{IsAt}
use Rattle.lib_cells.specs.Streams.{inked}
use Rattle.lib_cells.proofs.lexer.next_piece.Given as goal

abbrev pub invariant-loop-place : goal.invariant-loop-place
invariant-loop-place l = record { at : IsAt l.place; text : l.place.text.now ≡ l.fn.place.text.now; left : inked l.place ≡ inked l.fn.place }

abbrev pub decreases-loop-place : goal.decreases-loop-place
decreases-loop-place l = length l.place.text.now - l.place.at
