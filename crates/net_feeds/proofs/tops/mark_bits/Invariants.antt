use Rattle.std.proofs.Common.{◌-◌, ◌≤◌}
use Rattle.net_feeds.specs.TopInputs.{AreMarkedAlso, IsWithin}
use Rattle.net_feeds.proofs.tops.mark_bits.Given as goal

abbrev pub invariant-loop-bit : goal.invariant-loop-bit
invariant-loop-bit l = record {
  marks : AreMarkedAlso (IsWithin l.first (l.bit - l.first)) l.initial.marks.items l.marks.items;
  short : l.bit - l.first ≤ l.count;
}
