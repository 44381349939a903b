use Rattle.std.proofs.Common.{◌-◌, ◌<◌, [], map, length, sym, ap, ◌∙◌, arith}
use Rattle.std.proofs.lemmas.List.{get_or-map, length-map}
use Rattle.state_meets.proofs.Padding.{before_padded, in_padded, behind_padded}
use Rattle.state_meets.proofs.plans.begun_at.Goals as goal

pub returns-then-level-plan : goal.returns-then-level-plan
returns-then-level-plan c =
    let plan = c.args.plan.now in
    sym (before_padded plan.before (map (λ numbers. numbers.items) plan.begun.items) plan.behind c.args.level c.if-level-plan.true)

pub returns-then-at-len : goal.returns-then-at-len
returns-then-at-len c =
    let plan = c.args.plan.now in
    let wide = length-map plan.begun.items (λ numbers. numbers.items) in
    let past = c.if-at-len.true in
    sym (behind_padded plan.before (map (λ numbers. numbers.items) plan.begun.items) plan.behind c.args.level (omega arith) (omega arith))

pub returns : goal.returns
returns c =
    let plan = c.args.plan.now in
    let wide = length-map plan.begun.items (λ numbers. numbers.items) in
    let inside : c.args.level - plan.before < length plan.begun.items = omega arith in
    c.as_slice.ensures.value ∙ ap (λ v. v.items) c.index.ensures ∙ sym (get_or-map (λ numbers. numbers.items) plan.begun.items (c.args.level - plan.before) c.index.result.now [] inside)
    ∙ sym (in_padded plan.before (map (λ numbers. numbers.items) plan.begun.items) plan.behind c.args.level (omega arith) (omega arith))
