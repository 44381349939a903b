use Rattle.std.proofs.Common.{◌≡◌, ◌++◌, List, take}
use Rattle.pw_defs.specs.declared.cells.Cell.{Cell}
use Rattle.cell_joins.specs.Unions.{IsUnionOf, names_of}
use Rattle.cell_joins.proofs.unions.Union.take_all.Given as goal

abbrev pub invariant-loop-cell : goal.invariant-loop-cell
invariant-loop-cell l = record {
  names : l.self.names ≡ names_of l.self.cells;
  joined : (before : List Cell) → IsUnionOf before l.initial.self → IsUnionOf (before ++ take l.cell-index l.cells) l.self;
}
