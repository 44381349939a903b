use Rattle.std.proofs.Common.{◌≡◌, ◌+◌, ◌≤◌, ◌++◌, length}
use Rattle.net_links.specs.LocalLinks.{locals}
use Rattle.net_links.specs.RunLinks.{AreFew, AreFewOwn, bits_back, locals_of_sides}
use Rattle.net_links.proofs.pieces.put_sides.Given as goal

abbrev pub invariant-loop : goal.invariant-loop
invariant-loop l = record {
  fewer : length l.left.items + length l.right.items + l.counter ≤ length l.initial.left.items + length l.initial.right.items;
  links : AreFewOwn (bits_back l.initial.left.items) → AreFew (bits_back l.initial.right.items)
      → AreFewOwn (bits_back l.left.items) × AreFew (bits_back l.right.items)
      × (locals l.rows ++ locals_of_sides l.line (bits_back l.left.items) (bits_back l.right.items)
      ≡ locals l.initial.rows ++ locals_of_sides l.line (bits_back l.initial.left.items) (bits_back l.initial.right.items));
}
