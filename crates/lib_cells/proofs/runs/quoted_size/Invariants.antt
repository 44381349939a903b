use Rattle.std.proofs.Common.{◌≡◌, drop, false}
use Rattle.text_streams.proofs.CloseLaws.{counted_on}
use Rattle.lib_cells.specs.LibraryWords.{quoted_size}
use Rattle.lib_cells.proofs.runs.quoted_size.Given as goal

abbrev pub invariant-loop-at : goal.invariant-loop-at
invariant-loop-at l = counted_on l.at (quoted_size l.taken (drop l.at l.text)) ≡ quoted_size false l.text
