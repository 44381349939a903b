use Rattle.std.proofs.Common.{◌≡◌, ◌≤◌, ◌-◌, length}
use Rattle.text_streams.specs.Places.{IsAt}
use Rattle.net_text.specs.Streams.{tokens_behind}
use Rattle.net_text.proofs.steps.behind_white.Given as goal

abbrev pub invariant-loop-place : goal.invariant-loop-place
invariant-loop-place l = record {
  at : IsAt l.place;
  text : l.place.text.now ≡ l.fn.place.text.now;
  on : l.fn.place.at ≤ l.place.at;
  left : tokens_behind l.place ≡ tokens_behind l.fn.place;
}

abbrev pub decreases-loop-place : goal.decreases-loop-place
decreases-loop-place l = length l.place.text.now - l.place.at
