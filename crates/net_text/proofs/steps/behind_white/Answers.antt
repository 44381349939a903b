use Rattle.std.proofs.Common.{refl, sym, ◌∙◌, arith}
use Rattle.net_text.proofs.StepLaws.{white_step}
use Rattle.net_text.proofs.steps.behind_white.Goals as goal

pub loop-place-preserved : goal.loop-place-preserved
loop-place-preserved c = record {
  at = c.behind_byte-place.ensures.at;
  text = c.behind_byte-place.ensures.text ∙ c.loop-place.invariant.text;
  on = omega (arith, c.loop-place.invariant.on, c.behind_byte-place.ensures.place);
  left =
      white_step c.loop-place.place.text.now _ c.loop-place.place.at _ _ c.loop-place.place.fresh _ c.loop-place-test.true refl
      (sym c.is_white.ensures ∙ c.if-not-is_white.false) c.behind_byte-place.ensures.text c.behind_byte-place.ensures.place c.behind_byte-place.ensures.fresh
      ∙ c.loop-place.invariant.left;
}
