use Rattle.std.proofs.Common.{◌∙◌, sym, ap, arith}
use Rattle.script_defs.specs.Closing.{has_some}
use Rattle.script_scopes.proofs.UnitLemmas.{far_from, far_none, from_top, from_unit}
use Rattle.script_scopes.proofs.units.is_far_inside.Goals as goal

pub returns-then-inst-eq0 : goal.returns-then-inst-eq0
returns-then-inst-eq0 c =
    let d = c.args.hierarchy.now in
    let h = c.sound.ensures in
    far_none d h c.args.marks.now c.args.unit c.requires.unit c.args.inst c.requires.within
    (from_top d h c.args.marks.now c.args.unit c.requires.unit c.args.inst (omega (arith, c.if-inst-eq0.true)) c.requires.within)

pub returns-then-inst-unit : goal.returns-then-inst-unit
returns-then-inst-unit c =
    let d = c.args.hierarchy.now in
    let h = c.sound.ensures in
    far_none d h c.args.marks.now c.args.unit c.requires.unit c.args.inst c.requires.within
    (from_unit d h c.args.marks.now c.args.unit c.requires.unit c.args.inst (omega (arith, c.if-inst-unit.true)))

pub returns : goal.returns
returns c =
    let d = c.args.hierarchy.now in
    let h = c.sound.ensures in
    c.is_inside.ensures
    ∙ sym
    (ap has_some
    (far_from d h c.args.marks.now c.args.unit c.requires.unit c.args.inst c.requires.within c.outer.result (λ same. absurd (omega (arith, c.if-inst-unit.false))) c.outer.ensures.outer))
