use Rattle.std.proofs.Common.{ℕ, length, sym, ap, ◌∙◌}
use Rattle.std.proofs.lemmas.List.{length-map, length-replicate}
use Rattle.pw_defs.specs.declared.conditions.Cond.TheVariants.{All}
use Rattle.supply_defs.specs.Conditions.{speaks_below}
use Rattle.supply_defs.proofs.Meaning.{speaks_all}
use Rattle.bench.specs.Links.{levels_of}
use Rattle.bench.proofs.joined.joined_nodes.Goals as goal

pub build-requires-clause-levels : goal.build-requires-clause-levels
build-requires-clause-levels c =
    let lists = c.in_ok-lists.lists.items in
    let conds = c.in_ok-conditions.field-0 in
    let count = sym (length-map lists length) ∙ ap length c.in_ok-lists.ensures ∙ length-replicate c.level_count-levels.result 2 ∙ c.level_count-levels.ensures in
    ap (λ ls. speaks_below (length ls) (All conds)) c.as_slice-2.ensures.value
    ∙ ap (λ (n : ℕ). speaks_below n (All conds)) count
    ∙ speaks_all (levels_of c.args.link c.args.count) conds
    ∙ c.in_ok-conditions.ensures
