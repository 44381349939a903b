use Rattle.std.proofs.Common.{◌≡◌, ◌++◌, drop}
use Rattle.std.specs.List.{flat_map, enumerate_from}
use Rattle.form_design.specs.Hierarchy.{bits_at, own_bits}
use Rattle.form_design.proofs.wiring.own_bits.Given as goal

-- the bits so far and those of the instances that are left are all
abbrev pub invariant-loop-inst : goal.invariant-loop-inst
invariant-loop-inst l = l.bits.items ++ flat_map (bits_at l.names) (enumerate_from l.inst (drop l.inst l.helds)) ≡ own_bits l.names l.helds
