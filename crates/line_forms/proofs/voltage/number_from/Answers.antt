use Rattle.std.proofs.Common.{sym, ◌∙◌, arith}
use Rattle.line_forms.proofs.VoltLaws.{number_not_digit, number_too_high, number_goes_on, number_ends}
use Rattle.line_forms.proofs.voltage.number_from.Goals as goal

pub returns-then-not-is_ascii_digit-clause-value : goal.returns-then-not-is_ascii_digit-clause-value
returns-then-not-is_ascii_digit-clause-value c =
    sym (number_not_digit c.loop-byte.number c.args.digits.now c.loop-byte.byte-index c.loop-byte-test.true (sym c.if-not-is_ascii_digit.ensures.value)) ∙ c.loop-byte.invariant.1

pub returns-then-next-gt-HIGHEST-clause-value : goal.returns-then-next-gt-HIGHEST-clause-value
returns-then-next-gt-HIGHEST-clause-value c =
    sym (number_too_high c.loop-byte.number c.args.digits.now c.loop-byte.byte-index c.loop-byte-test.true (omega (arith, c.from.ensures, c.if-next-gt-HIGHEST.true))) ∙ c.loop-byte.invariant.1

pub loop-byte-preserved : goal.loop-byte-preserved
loop-byte-preserved c =
    rw c.from.ensures (
      omega (arith, c.from.ensures, c.if-next-gt-HIGHEST.false),
      sym (number_goes_on c.loop-byte.number c.args.digits.now c.loop-byte.byte-index c.loop-byte-test.true (sym c.if-not-is_ascii_digit.ensures.value) (omega (arith, c.from.ensures, c.if-next-gt-HIGHEST.false)))
          ∙ c.loop-byte.invariant.1,
    )

pub returns-clause-value : goal.returns-clause-value
returns-clause-value c = sym (number_ends c.loop-byte.number c.args.digits.now c.loop-byte.byte-index (omega (arith, c.loop-byte-test.false))) ∙ c.loop-byte.invariant.1
