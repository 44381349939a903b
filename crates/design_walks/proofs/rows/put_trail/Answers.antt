use Rattle.std.proofs.Common.{◌∙◌, ◌++◌, ◌∷◌, [], ◌+◌, ◌-◌, arith, length, ap, sym}
use Rattle.std.proofs.lemmas.List.{append-nil, append_assoc}
use Rattle.design_walks.specs.Trails.{trail}
use Rattle.design_walks.proofs.TrailLemmas.{trail_last, trail_none, trail_on}
use Rattle.design_walks.proofs.rows.put_trail.Goals as goal

pub returns-in-None : goal.returns-in-None
returns-in-None c =
    let next = c.args.next.now in
    let left = length next - c.loop.counter in
    let last = trail_last next left c.loop.at (omega (arith, c.loop-test.true)) (sym c.in-None.ensures) in
    c.in_ok-push.ensures.ok ∙ ap (λ xs. c.loop.out ++ xs) (sym last) ∙ c.loop.invariant

pub loop-preserved : goal.loop-preserved
loop-preserved c =
    let next = c.args.next.now in
    let left = length next - c.loop.counter in
    let less = length next - (c.loop.counter + 1) in
    let on = trail_on next left less c.loop.at c.in-Some.next (omega (arith, c.loop-test.true)) (sym c.in-Some.ensures) in
    ap (λ xs. xs ++ trail next less c.in-Some.next) c.in_ok-push.ensures.ok
    ∙ append_assoc c.loop.out (c.loop.at ∷ []) (trail next less c.in-Some.next)
    ∙ ap (λ xs. c.loop.out ++ xs) (sym on) ∙ c.loop.invariant

pub returns : goal.returns
returns c =
    let next = c.args.next.now in
    let left = length next - c.loop.counter in
    let none = trail_none next left c.loop.at (omega (arith, c.loop-test.false)) in
    sym (append-nil c.loop.out) ∙ ap (λ xs. c.loop.out ++ xs) (sym none) ∙ c.loop.invariant
