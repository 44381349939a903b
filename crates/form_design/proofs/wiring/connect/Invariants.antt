use Rattle.std.proofs.Common.{◌≡◌, true, drop}
use Rattle.form_design.specs.Hierarchy.{linked_bits}
use Rattle.form_design.specs.Fits.{feeds_once}
use Rattle.form_design.proofs.wiring.connect.Given as goal

-- the links that are left do to the bits as they are now what all links do to those at first
abbrev pub invariant-loop-link : goal.invariant-loop-link
invariant-loop-link l = record {
  once : feeds_once (drop l.link-index l.links) l.bits.items ≡ feeds_once l.links l.fn.bits.items;
  fed : feeds_once l.links l.fn.bits.items ≡ true → linked_bits (drop l.link-index l.links) l.bits.items ≡ linked_bits l.links l.fn.bits.items;
}
