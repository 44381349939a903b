use Rattle.std.proofs.Common.{◌≡◌, ◌++◌, map, drop}
use Rattle.form_design.specs.Names.{port_dirs}
use Rattle.form_design.proofs.indices.all_port_dirs.Given as goal

-- those so far and those that are left are all
abbrev pub invariant-loop-lines : goal.invariant-loop-lines
invariant-loop-lines l = l.dirs.items ++ map port_dirs (drop l.lines-index l.modules) ≡ map port_dirs l.modules
