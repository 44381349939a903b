use Rattle.std.proofs.Common.{refl, ap, ◌+◌, ◌*◌, min, drop, arith, ℕ, ◌∙◌}
use Rattle.std.specs.Str.Parse.{digits_value_after}
use Rattle.net_text.proofs.RunLaws.{cut_step}
use Rattle.net_text.proofs.runs.number_of.Goals as goal

pub loop-digit-preserved : goal.loop-digit-preserved
loop-digit-preserved c = record {
  limit = omega (arith, c.min-number.ensures);
  value =
      ap (λ (n : ℕ). min (digits_value_after 10 n (drop (c.loop-digit.digit-index + 1) c.args.digits.now)) 100000)
      (c.min-number.ensures ∙ ap (λ (d : ℕ). min (c.loop-digit.number * 10 + d) 100000) c.digit_value.ensures.value)
      ∙ cut_step c.loop-digit.number _ c.args.digits.now c.loop-digit.digit-index _ c.loop-digit-test.true refl c.loop-digit.invariant.value;
}
