use Rattle.std.proofs.Common.{◌≡◌, ◌++◌, map, drop}
use Rattle.form_design.specs.Names.{port_dirs}
use Rattle.form_design.proofs.words.port_dirs.Given as goal

-- the directions so far and those that are left are all
abbrev pub invariant-loop-port : goal.invariant-loop-port
invariant-loop-port l = l.dirs ++ map (λ p. p.dir) (drop l.port-index l.lines.ports) ≡ port_dirs l.lines
