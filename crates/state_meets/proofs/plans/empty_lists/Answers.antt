use Rattle.std.proofs.Common.{◌≡◌, ℕ, [], ◌∷◌, ◌++◌, List, map, replicate, ap, ◌∙◌, arith}
use Rattle.std.proofs.lemmas.List.{map_push, replicate_more}
use Rattle.state_meets.proofs.plans.empty_lists.Goals as goal

pub loop-init : goal.loop-init
loop-init c = ap (map (λ numbers. numbers.items)) c.new-lists.ensures.items

pub loop-preserved : goal.loop-preserved
loop-preserved c =
    let one : List (List ℕ) → List (List ℕ) = λ lists. lists ++ [] ∷ [] in
    ap (map (λ numbers. numbers.items)) c.in_ok-push.ensures.items ∙ map_push (λ numbers. numbers.items) c.loop.lists.items c.new.result
    ∙ ap (λ (ns : List ℕ). map (λ numbers. numbers.items) c.loop.lists.items ++ ns ∷ []) c.new.ensures.items
    ∙ ap one c.loop.invariant ∙ replicate_more c.loop.counter []

pub returns : goal.returns
returns c =
    let last : c.loop.counter ≡ c.args.count = let e = c.loop.auto.counter-end in omega arith in
    c.loop.invariant ∙ ap (λ (n : ℕ). replicate n []) last
