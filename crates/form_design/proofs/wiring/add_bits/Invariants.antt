use Rattle.std.proofs.Common.{◌≡◌, ◌++◌, drop, map}
use Rattle.std.specs.List.{enumerate_from}
use Rattle.form_design.specs.Names.{bits_of}
use Rattle.form_design.specs.Hierarchy.{bit_at, bits_at}
use Rattle.form_design.proofs.wiring.add_bits.Given as goal

-- what was added and the bits that are left are all
abbrev pub invariant-loop-place : goal.invariant-loop-place
invariant-loop-place l =
    l.out.items ++ map (bit_at l.names (l.inst, l.held)) (enumerate_from l.place (drop l.place (bits_of l.names l.held.body)))
    ≡ l.fn.out.items ++ bits_at l.names (l.inst, l.held)
