use Rattle.std.proofs.Common.{◌≡◌, ◌++◌, map, drop}
use Rattle.form_design.specs.Names.{pin_dirs}
use Rattle.form_design.proofs.words.pin_dirs.Given as goal

-- the directions so far and those that are left are all
abbrev pub invariant-loop-pin : goal.invariant-loop-pin
invariant-loop-pin l = l.dirs ++ map (λ p. p.dir) (drop l.pin-index l.cell.pins) ≡ pin_dirs l.cell
