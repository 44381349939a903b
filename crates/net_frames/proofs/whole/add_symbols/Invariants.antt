use Rattle.std.proofs.Common.{◌≡◌, [], take}
use Rattle.design_rows.specs.Sound.{AreRows}
use Rattle.net_frames.specs.Places.{with_parts}
use Rattle.net_frames.proofs.whole.add_symbols.Given as goal

abbrev pub invariant-loop-symbol : goal.invariant-loop-symbol
invariant-loop-symbol l = record {
  rows : AreRows l.rows;
  added : l.rows ≡ with_parts l.initial.rows (take l.symbol l.modules.symbols) [] [];
}
