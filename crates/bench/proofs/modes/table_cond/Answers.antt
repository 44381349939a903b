use Rattle.std.proofs.Common.{◌≡◌, ◌&&◌, [], ◌∷◌, true, ap, ◌∙◌}
use Rattle.std.specs.List.{list_all}
use Rattle.std.proofs.lemmas.List.Folds.{list_all-append}
use Rattle.pw_defs.specs.declared.conditions.Cond.TheVariants.{Any}
use Rattle.supply_defs.specs.Conditions.{speaks_below}
use Rattle.supply_defs.proofs.Meaning.{speaks_all, speaks_any}
use Rattle.bench.proofs.modes.table_cond.Goals as goal

pub returns : goal.returns
returns c =
    let roots = c.args.roots in
    let rows = c.in_ok-mode_conds.field-0 in
    let some : speaks_below roots (Any rows) ≡ true = speaks_any roots rows ∙ c.in_ok-mode_conds.ensures in
    speaks_all roots c.push.new.self
    ∙ ap (list_all (speaks_below roots)) c.in_ok-push.ensures.ok
    ∙ list_all-append (speaks_below roots) c.in_ok-conds.conds (Any rows ∷ [])
    ∙ (λ i. c.in_ok-conds.ensures i && (some i && true))
