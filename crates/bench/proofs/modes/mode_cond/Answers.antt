use Rattle.std.proofs.Common.{◌≡◌, ◌&&◌, [], ◌∷◌, true, ap, ◌∙◌}
use Rattle.std.specs.List.{list_all}
use Rattle.std.proofs.lemmas.Bool.{lt-ltb}
use Rattle.std.proofs.lemmas.List.Folds.{list_all-append}
use Rattle.pw_defs.specs.declared.conditions.Cond.TheVariants.{Is}
use Rattle.supply_defs.specs.Conditions.{speaks_below}
use Rattle.supply_defs.proofs.Meaning.{speaks_is}
use Rattle.bench.proofs.modes.mode_cond.Goals as goal

pub loop-supply-preserved : goal.loop-supply-preserved
loop-supply-preserved c =
    let roots = c.args.roots in
    let supply = c.loop-supply.supply in
    let value = c.value_in-value.result in
    let one : speaks_below roots (Is supply value) ≡ true = speaks_is roots supply value ∙ lt-ltb supply roots c.loop-supply-test.true in
    ap (list_all (speaks_below roots)) c.in_ok-push.ensures.ok ∙ list_all-append (speaks_below roots) c.loop-supply.conds (Is supply value ∷ []) ∙ (λ i. c.loop-supply.invariant i && (one i && true))
