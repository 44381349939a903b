use Rattle.std.proofs.Common.{◌≡◌, take}
use Rattle.form_design.specs.Depth.{plain_holders}
use Rattle.form_design.proofs.checks.plain_holders.Given as goal

-- the modules so far have their answers
abbrev pub invariant-loop-lines : goal.invariant-loop-lines
invariant-loop-lines l = l.plain.items ≡ plain_holders l.names l.cells (take l.lines-index l.modules)
