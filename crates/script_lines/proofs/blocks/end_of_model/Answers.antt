-- A line that doesn't end the model is one more of its body.
use Rattle.std.proofs.Common.{sym, ◌∙◌}
use Rattle.script_lines.proofs.BlockLemmas.{body_more}
use Rattle.script_lines.proofs.blocks.end_of_model.Goals as goal

pub loop-to-preserved : goal.loop-to-preserved
loop-to-preserved c =
    body_more _ _ _ c.index-lines-to.result c.loop-to-test.true (sym c.index-lines-to.is) (sym c.ends_model.ensures ∙ c.if-not-ends_model.true) c.loop-to.invariant
