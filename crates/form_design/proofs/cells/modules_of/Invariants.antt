use Rattle.std.proofs.Common.{◌≡◌, ◌++◌, map, drop}
use Rattle.form_design.specs.Designs.{module_of}
use Rattle.form_design.proofs.cells.modules_of.Given as goal

-- those so far and those that are left are all
abbrev pub invariant-loop-part : goal.invariant-loop-part
invariant-loop-part l = l.modules ++ map module_of (drop l.part-index l.lines) ≡ map module_of l.lines
