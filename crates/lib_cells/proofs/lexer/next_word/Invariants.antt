use Rattle.std.proofs.Common.{length, ◌≡◌}
use Rattle.lib_cells.specs.Streams.{IsFront, pieces_left, tokens_left}
use Rattle.lib_cells.proofs.lexer.next_word.Given as goal

abbrev pub invariant-loop-front : goal.invariant-loop-front
invariant-loop-front l = record {
  front : IsFront l.front;
  text : l.front.place.text.now ≡ l.fn.front.place.text.now;
  left : tokens_left l.front ≡ tokens_left l.fn.front;
}

abbrev pub decreases-loop-front : goal.decreases-loop-front
decreases-loop-front l = length (pieces_left l.front)
