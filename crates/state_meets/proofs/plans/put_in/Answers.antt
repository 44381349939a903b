use Rattle.std.proofs.Common.{ℕ, [], ◌∷◌, ◌++◌, List, map, set, sym, ap, ◌∙◌}
use Rattle.std.proofs.lemmas.List.{map-set, get_or-map}
use Rattle.state_meets.proofs.plans.put_in.Goals as goal

pub returns-clause-put : goal.returns-clause-put
returns-clause-put c =
    let begun = c.args.begun.now in
    let lists = map (λ numbers. numbers.items) begun in
    let here = sym (get_or-map (λ numbers. numbers.items) begun c.args.level c.index-begun-level.result [] c.requires) in
    map-set (λ numbers. numbers.items) begun c.args.level c.push.new.self
    ∙ ap (λ (ns : List ℕ). set lists c.args.level ns) (c.in_ok-push.ensures.items ∙ ap (λ (ns : List ℕ). ns ++ c.args.n ∷ []) here)
