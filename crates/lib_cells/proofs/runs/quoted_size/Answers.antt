use Rattle.std.proofs.Common.{refl, sym, ap, ◌∙◌, ◌+◌, drop}
use Rattle.text_streams.proofs.CloseLaws.{counted_on}
use Rattle.lib_cells.specs.LibraryWords.{quoted_size}
use Rattle.lib_cells.proofs.RunLaws.{closed_here, closed_on, never_closed, from_start}
use Rattle.lib_cells.proofs.runs.quoted_size.Goals as goal

pub loop-at-init : goal.loop-at-init
loop-at-init c = from_start c.args.text.now

pub returns-then-closes-clause-size : goal.returns-then-closes-clause-size
returns-then-closes-clause-size c =
    closed_here c.args.text.now c.loop-at.at _ c.loop-at.taken c.loop-at-test.true refl (sym c.closes.ensures ∙ c.if-closes.true) c.loop-at.invariant

pub loop-at-preserved : goal.loop-at-preserved
loop-at-preserved c =
    ap (λ t. counted_on (c.loop-at.at + 1) (quoted_size t (drop (c.loop-at.at + 1) c.args.text.now))) c.takes-taken.ensures
    ∙ closed_on c.args.text.now c.loop-at.at _ c.loop-at.taken c.loop-at-test.true refl (sym c.closes.ensures ∙ c.if-closes.false) c.loop-at.invariant

pub returns-clause-size : goal.returns-clause-size
returns-clause-size c = never_closed c.args.text.now c.loop-at.at c.loop-at.taken c.loop-at-test.false c.loop-at.invariant
