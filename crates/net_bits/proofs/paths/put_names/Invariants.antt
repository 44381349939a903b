use Rattle.std.proofs.Common.{◌≡◌, ◌-◌, ◌++◌, length, drop, map}
use Rattle.design_defs.specs.Hierarchy.{path}
use Rattle.module_rows.specs.View.{name_at}
use Rattle.net_bits.proofs.paths.put_names.Given as goal

abbrev pub invariant-loop-done : goal.invariant-loop-done
invariant-loop-done l =
    l.out ≡ l.initial.out ++ path (map (name_at l.modules.symbols) (drop (length l.names - l.done) l.names))
