use Rattle.net_loops.specs.Lines.{HasNoneAt}
use Rattle.net_loops.proofs.lines.first_line.Given as goal

abbrev pub invariant-loop-inst : goal.invariant-loop-inst
invariant-loop-inst l = HasNoneAt l.placed l.links l.inner l.marks l.inst
