use Rattle.std.proofs.Common.{◌≡◌, ◌++◌, map}
use Rattle.std.specs.List.{range_with_len}
use Rattle.design_defs.specs.Ranges.{bit_name}
use Rattle.probe.proofs.model_bits.add_bits.Given as goal

abbrev pub invariant-loop-place : goal.invariant-loop-place
invariant-loop-place l = l.names ≡ l.initial.names ++ map (bit_name l.port.name l.port.range) (range_with_len 0 l.place)
