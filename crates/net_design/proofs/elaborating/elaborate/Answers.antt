use Rattle.std.proofs.Common.{refl, sym, subst}
use Rattle.design_defs.specs.DesignFaults.{sources}
use Rattle.design_defs.specs.Designs.{IsMadeFrom}
use Rattle.design_defs.specs.Hierarchy.{Sources}
use Rattle.net_design.specs.Stages.{HaveTargets}
use Rattle.net_outline.proofs.Passing.{passed_on}
use Rattle.net_design.proofs.elaborating.elaborate.Goals as goal

pub returns-in_err-parts-clause-cause : goal.returns-in_err-parts-clause-cause
returns-in_err-parts-clause-cause c =
    let s : Sources = sources c.args.modules.now.modules c.args.cells c.args.models c.args.top.now in
    let targets : HaveTargets s = c.have_targets.ensures.0 c.if-not-have_targets.false in
    passed_on c.from_residual.result c.in_err-parts.field-0.0 _ c.from_residual.ensures.1
    (c.in_err-parts.ensures.cause s c.requires.read c.requires.names targets (refl, refl, refl) refl)

pub ordered_design-requires-clause-names : goal.ordered_design-requires-clause-names
ordered_design-requires-clause-names c =
    let s : Sources = sources c.args.modules.now.modules c.args.cells c.args.models c.args.top.now in
    let targets : HaveTargets s = c.have_targets.ensures.0 c.if-not-have_targets.false in
    let parts = c.in_ok-parts.ensures.ok s c.requires.read c.requires.names targets (refl, refl, refl) refl in
    (c.in_ok-rows.ensures.made s c.requires.read c.requires.names (refl, refl, refl) parts).1

pub ordered_design-requires-clause-sound : goal.ordered_design-requires-clause-sound
ordered_design-requires-clause-sound c =
    let s : Sources = sources c.args.modules.now.modules c.args.cells c.args.models c.args.top.now in
    let targets : HaveTargets s = c.have_targets.ensures.0 c.if-not-have_targets.false in
    let parts = c.in_ok-parts.ensures.ok s c.requires.read c.requires.names targets (refl, refl, refl) refl in
    (c.in_ok-rows.ensures.made s c.requires.read c.requires.names (refl, refl, refl) parts).2

pub returns-clause-ok : goal.returns-clause-ok
returns-clause-ok c =
    let s : Sources = sources c.args.modules.now.modules c.args.cells c.args.models c.args.top.now in
    let targets : HaveTargets s = c.have_targets.ensures.0 c.if-not-have_targets.false in
    let parts = c.in_ok-parts.ensures.ok s c.requires.read c.requires.names targets (refl, refl, refl) refl in
    let made = (c.in_ok-rows.ensures.made s c.requires.read c.requires.names (refl, refl, refl) parts).0 in
    record { faultless = parts.faultless; made = subst (IsMadeFrom s) (sym c.in_ok-design.ensures) made }
