use Rattle.std.proofs.Common.{sym, ◌∙◌, arith}
use Rattle.tcl_words.proofs.PlaceLemmas.{blank_skipped, ink_stays}
use Rattle.tcl_words.proofs.pieces.place_behind_blanks.Goals as goal

pub loop-place-preserved : goal.loop-place-preserved
loop-place-preserved c =
    (omega arith, blank_skipped c.args.text.now c.loop-place.place c.loop-place-test.true (sym c.is_blank.ensures ∙ c.if-is_blank.true) ∙ c.loop-place.invariant.1)

pub returns-else-is_blank-clause-behind : goal.returns-else-is_blank-clause-behind
returns-else-is_blank-clause-behind c =
    sym (ink_stays c.args.text.now c.loop-place.place c.loop-place-test.true (sym c.is_blank.ensures ∙ c.if-is_blank.false)) ∙ c.loop-place.invariant.1
