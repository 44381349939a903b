use Rattle.std.proofs.Common.{take}
use Rattle.module_rows.specs.Growth.{HasExprs}
use Rattle.module_rows.proofs.terms.+put_expr.Given as goal

abbrev pub invariant-put_parts-loop-part : goal.invariant-put_parts-loop-part
invariant-put_parts-loop-part l = HasExprs l.initial.terms l.terms (take l.part-index l.parts)
