use Rattle.std.proofs.Common.{◌-◌, map, length, arith}
use Rattle.std.proofs.lemmas.List.{length-map}
use Rattle.state_meets.proofs.Padding.{behind_padded}
use Rattle.state_meets.proofs.plans.is_over.Goals as goal

pub returns : goal.returns
returns c _ k low =
    let plan = c.args.plan.now in
    let wide = length-map plan.begun.items (λ numbers. numbers.items) in
    behind_padded plan.before (map (λ numbers. numbers.items) plan.begun.items) plan.behind k (omega arith) (omega arith)
