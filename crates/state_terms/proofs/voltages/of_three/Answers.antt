use Rattle.std.proofs.Common.{[], ◌∷◌}
use Rattle.upf_commands.specs.Voltages.{IsVoltage, three}
use Rattle.state_terms.proofs.VoltageWords.{three_of, three_fall, none_of}
use Rattle.state_terms.proofs.voltages.of_three.Goals as goal

pub returns-in_err-low : goal.returns-in_err-low
returns-in_err-low c =
    none_of (IsVoltage (c.args.first.now ∷ c.args.second.now ∷ c.args.last.now ∷ [])) c.from_residual.result c.from_residual.ensures
    (λ v k. let p = three_of c.args.first.now c.args.second.now c.args.last.now v k in c.in_err-low.ensures p.low p.of_first)

pub returns-in_err-middle : goal.returns-in_err-middle
returns-in_err-middle c =
    none_of (IsVoltage (c.args.first.now ∷ c.args.second.now ∷ c.args.last.now ∷ [])) c.from_residual-in_err-middle.result c.from_residual-in_err-middle.ensures
    (λ v k. let p = three_of c.args.first.now c.args.second.now c.args.last.now v k in c.in_err-middle.ensures v p.of_second)

pub returns-in_err-high : goal.returns-in_err-high
returns-in_err-high c =
    none_of (IsVoltage (c.args.first.now ∷ c.args.second.now ∷ c.args.last.now ∷ [])) c.from_residual-in_err-high.result c.from_residual-in_err-high.ensures
    (λ v k. let p = three_of c.args.first.now c.args.second.now c.args.last.now v k in c.in_err-high.ensures p.high p.of_last)

pub returns-then-low-high : goal.returns-then-low-high
returns-then-low-high c =
    three_fall c.args.first.now c.args.second.now c.args.last.now c.in_ok-low.low c.in_ok-high.high c.in_ok-low.ensures c.in_ok-high.ensures
    c.if-low-high.true

pub returns : goal.returns
returns c =
    three c.args.first.now c.args.second.now c.args.last.now c.in_ok-low.low c.in_ok-middle.middle c.in_ok-high.high c.in_ok-low.ensures c.in_ok-middle.ensures
    c.in_ok-high.ensures c.if-low-high.false
