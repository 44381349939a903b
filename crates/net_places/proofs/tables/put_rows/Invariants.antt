use Rattle.std.proofs.Common.{◌≡◌, ◌++◌, take}
use Rattle.net_places.specs.Tables.{placed_from}
use Rattle.net_places.proofs.Placing.{bits_of}
use Rattle.net_places.proofs.tables.put_rows.Given as goal

abbrev pub invariant-loop-named : goal.invariant-loop-named
invariant-loop-named l = record {
  rows : l.nets ≡ l.initial.nets ++ placed_from 0 (take l.named-index l.rows);
  bits : l.bits ≡ bits_of (take l.named-index l.rows);
}
