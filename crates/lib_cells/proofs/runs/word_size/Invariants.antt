use Rattle.std.proofs.Common.{◌≡◌, ◌+◌, drop}
use Rattle.lib_cells.specs.LibraryWords.{word_size}
use Rattle.lib_cells.proofs.runs.word_size.Given as goal

abbrev pub invariant-loop-at : goal.invariant-loop-at
invariant-loop-at l = l.at + word_size (drop l.at l.text) ≡ word_size l.text
