use Rattle.std.proofs.Common.{map, take}
use Rattle.design_rows.specs.Sound.{AreRows}
use Rattle.net_places.specs.Gathered.{net_by}
use Rattle.net_places.specs.Plans.{rows_at}
use Rattle.net_frames.specs.Places.{HasPlaces, bits_of_nets, spellings}
use Rattle.net_frames.proofs.places.add_nets.Given as goal

abbrev pub invariant-loop-net : goal.invariant-loop-net
invariant-loop-net l = record {
  rows : AreRows l.rows;
  added : HasPlaces l.modules l.initial.rows l.rows (bits_of_nets (map (net_by (spellings l.modules l.initial.rows l.body)) (take l.net (rows_at l.plans l.body))));
}
