use Rattle.std.proofs.Common.{◌≡◌, take}
use Rattle.std.specs.List.{sum_by}
use Rattle.net_instances.specs.Instances.{AreRowsOf, own_bits}
use Rattle.net_instances.proofs.numbering.rows_of.Given as goal

abbrev pub invariant-loop-n : goal.invariant-loop-n
invariant-loop-n l = record {
  rows_of : AreRowsOf l.tree.rows l.tree.firsts (take l.n-index l.order) l.places l.bits l.rows;
  sum : l.next_bit ≡ sum_by (own_bits l.bits) l.rows;
}
