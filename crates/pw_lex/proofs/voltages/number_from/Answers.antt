use Rattle.std.proofs.Common.{rules, ap, ◌∙◌, drop, min, ◌+◌, ◌*◌}
use Rattle.std.specs.Str.Parse.{digits_value_after}
use Rattle.pw_lex.proofs.DigitLemmas.{goes_on, digits_from}
use Rattle.pw_lex.proofs.voltages.number_from.Goals as goal

-- src/voltages.rt:55:5
pub loop-byte-preserved : goal.loop-byte-preserved
loop-byte-preserved c = (
  search rules,
  (digits_from c.args.digits.now c.loop-byte.byte-index c.loop-byte-test.true c.loop-byte.invariant.1).1,
  ap (λ k. min (digits_value_after 10 k (drop (c.loop-byte.byte-index + 1) c.args.digits.now)) 1000000001)
      (c.min-number.ensures ∙ ap (λ d. min (c.loop-byte.number * 10 + d) 1000000001) (c.from.ensures ∙ c.saturating_sub.ensures))
      ∙ goes_on c.loop-byte.number 1000000001 c.args.digits.now c.loop-byte.byte-index c.loop-byte-test.true c.loop-byte.invariant.1
      ∙ c.loop-byte.invariant.2,
)
