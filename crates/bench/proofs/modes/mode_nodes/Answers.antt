use Rattle.std.proofs.Common.{ℕ, length, sym, ap, ◌∙◌}
use Rattle.std.proofs.lemmas.List.{length-map, length-replicate}
use Rattle.supply_defs.specs.Conditions.{speaks_below}
use Rattle.bench.proofs.modes.mode_nodes.Goals as goal

pub build-requires-clause-levels : goal.build-requires-clause-levels
build-requires-clause-levels c =
    let lists = c.in_ok-lists.lists.items in
    let cond = c.in_ok-cond.cond in
    let count = sym (length-map lists length) ∙ ap length c.in_ok-lists.ensures ∙ length-replicate c.args.roots 2 in
    ap (λ ls. speaks_below (length ls) cond) c.as_slice-2.ensures.value ∙ ap (λ (n : ℕ). speaks_below n cond) count ∙ c.in_ok-cond.ensures
