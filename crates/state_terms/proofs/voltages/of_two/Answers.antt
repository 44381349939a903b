use Rattle.std.proofs.Common.{[], ◌∷◌}
use Rattle.upf_commands.specs.Voltages.{IsVoltage, two}
use Rattle.state_terms.proofs.VoltageWords.{two_of, two_fall, none_of}
use Rattle.state_terms.proofs.voltages.of_two.Goals as goal

pub returns-in_err-low : goal.returns-in_err-low
returns-in_err-low c =
    none_of (IsVoltage (c.args.first.now ∷ c.args.last.now ∷ [])) c.from_residual.result c.from_residual.ensures
    (λ v k. let p = two_of c.args.first.now c.args.last.now v k in c.in_err-low.ensures p.low p.of_first)

pub returns-in_err-high : goal.returns-in_err-high
returns-in_err-high c =
    none_of (IsVoltage (c.args.first.now ∷ c.args.last.now ∷ [])) c.from_residual-in_err-high.result c.from_residual-in_err-high.ensures
    (λ v k. let p = two_of c.args.first.now c.args.last.now v k in c.in_err-high.ensures p.high p.of_last)

pub returns-then-low-high : goal.returns-then-low-high
returns-then-low-high c =
    two_fall c.args.first.now c.args.last.now c.in_ok-low.low c.in_ok-high.high c.in_ok-low.ensures c.in_ok-high.ensures c.if-low-high.true

pub returns : goal.returns
returns c =
    two c.args.first.now c.args.last.now c.in_ok-low.low c.in_ok-high.high c.in_ok-low.ensures c.in_ok-high.ensures c.if-low-high.false
