use Rattle.std.proofs.Common.{◌≡◌, take}
use Rattle.read_laws.specs.Laws.{AreJoinedCells}
use Rattle.text_designs.specs.Texts.{no_cells}
use Rattle.text_designs.proofs.libraries.cells_of_texts.Given as goal

abbrev pub invariant-loop-text : goal.invariant-loop-text
invariant-loop-text l = record {
  counted : l.number ≡ l.text-index;
  joined : AreJoinedCells no_cells (take l.text-index l.libraries) l.all;
}
