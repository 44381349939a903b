use Rattle.std.proofs.Common.{refl, arith, get_or}
use Rattle.lib_cells.proofs.RunLaws.{looked_there, word_here, word_on, word_ends}
use Rattle.lib_cells.proofs.runs.word_size.Goals as goal

pub returns-then-not-goes_on-clause-size : goal.returns-then-not-goes_on-clause-size
returns-then-not-goes_on-clause-size c =
    word_here c.args.text.now c.loop-at.at _ c.loop-at-test.true refl (looked_there (get_or c.args.text.now c.loop-at.at 0) _ _ _ _ c.behind.ensures c.goes_on.ensures c.if-not-goes_on.true) c.loop-at.invariant

pub loop-at-preserved : goal.loop-at-preserved
loop-at-preserved c =
    word_on c.args.text.now c.loop-at.at _ c.loop-at-test.true refl (looked_there (get_or c.args.text.now c.loop-at.at 0) _ _ _ _ c.behind.ensures c.goes_on.ensures c.if-not-goes_on.false) c.loop-at.invariant

pub returns-clause-size : goal.returns-clause-size
returns-clause-size c = word_ends c.args.text.now c.loop-at.at c.loop-at-test.false (omega (arith, c.loop-at.auto.at-end)) c.loop-at.invariant
