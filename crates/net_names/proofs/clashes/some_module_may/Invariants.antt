use Rattle.std.proofs.Common.{◌<◌, ℕ}
use Rattle.design_defs.specs.Inputs.{IsReadModule}
use Rattle.module_rows.specs.Reads.{module_at}
use Rattle.net_names.specs.Apart.{AreApart, inst_names}
use Rattle.net_names.specs.Bodies.{HasMarks}
use Rattle.net_names.proofs.clashes.some_module_may.Given as goal

abbrev pub invariant-loop-holder : goal.invariant-loop-holder
invariant-loop-holder l = HasMarks l.modules.symbols l.marks
    × ((n : ℕ) → n < l.holder → IsReadModule (module_at l.modules n) → AreApart (inst_names (module_at l.modules n)) (module_at l.modules n).ports)
