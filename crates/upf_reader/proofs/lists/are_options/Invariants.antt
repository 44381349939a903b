use Rattle.std.proofs.Common.{◌≡◌, [], length}
use Rattle.upf_reader.specs.Rows.{texts_view}
use Rattle.upf_reader.specs.Tests.{are_options}
use Rattle.upf_reader.proofs.lists.are_options.Given as goal

abbrev pub invariant-loop-left : goal.invariant-loop-left
invariant-loop-left l = are_options (texts_view l.seen.items) l.left ≡ are_options [] l.words

abbrev pub decreases-loop-left : goal.decreases-loop-left
decreases-loop-left l = length l.left
