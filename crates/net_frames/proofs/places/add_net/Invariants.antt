use Rattle.std.proofs.Common.{map}
use Rattle.std.specs.List.{range_with_len}
use Rattle.design_rows.specs.Sound.{AreRows}
use Rattle.net_places.specs.Gathered.{net_by}
use Rattle.net_frames.specs.Places.{HasPlaces, spellings}
use Rattle.net_frames.proofs.places.add_net.Given as goal

abbrev pub invariant-loop-place : goal.invariant-loop-place
invariant-loop-place l = record {
  rows : AreRows l.rows;
  added : HasPlaces l.modules l.initial.rows l.rows (map (λ place. (net_by (spellings l.modules l.initial.rows l.body) l.row, place)) (range_with_len 0 l.place));
}
