use Rattle.std.proofs.Common.{◌≡◌, take}
use Rattle.std.specs.List.{flat_map}
use Rattle.net_inner.specs.Pairs.{pairs_of_pin, with_pairs}
use Rattle.net_inner.proofs.pairs.put_pins.Given as goal

abbrev pub invariant-loop-pin : goal.invariant-loop-pin
invariant-loop-pin l = l.sources.items ≡ with_pairs l.index (flat_map (pairs_of_pin l.through) (take l.pin-index l.pins)) l.initial.sources.items
