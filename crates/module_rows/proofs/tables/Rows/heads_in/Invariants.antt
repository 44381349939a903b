use Rattle.std.proofs.Common.{◌≡◌, map, take}
use Rattle.design_defs.specs.Designs.{head_of}
use Rattle.module_rows.specs.View.{module_of}
use Rattle.module_rows.proofs.tables.Rows.heads_in.Given as goal

abbrev pub invariant-loop-row : goal.invariant-loop-row
invariant-loop-row l = l.heads ≡ map (λ row. head_of (module_of l.self row)) (take l.row-index l.rows)
