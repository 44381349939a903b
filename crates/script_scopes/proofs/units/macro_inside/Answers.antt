use Rattle.std.proofs.Common.{◌∷◌, cond, sym, ap, ◌∙◌, arith}
use Rattle.script_scopes.specs.Marked.{marked}
use Rattle.script_scopes.specs.Standing.{own_path}
use Rattle.script_scopes.specs.Units.{macros_from}
use Rattle.script_scopes.proofs.UnitLemmas.{from_other, from_top, from_unit}
use Rattle.script_scopes.proofs.units.macro_inside.Goals as goal

pub returns-then-at-unit : goal.returns-then-at-unit
returns-then-at-unit c =
    sym c.loop-at.invariant.same
    ∙ from_unit c.args.hierarchy.now c.sound.ensures c.args.marks.now c.args.unit c.requires.unit c.loop-at.at (omega (arith, c.if-at-unit.true))

pub returns-then-is_soft_macro : goal.returns-then-is_soft_macro
returns-then-is_soft_macro c =
    let d = c.args.hierarchy.now in
    let at = c.loop-at.at in
    let marks = marked d c.args.marks.now in
    record {
      later = omega (arith, c.loop-at-test.true);
      up = c.loop-at.invariant.up;
      others =
          λ p parent.
          sym c.loop-at.invariant.same
          ∙ from_other d c.sound.ensures c.args.marks.now c.args.unit c.requires.unit at p c.loop-at.invariant.within (λ same. absurd (omega (arith, c.if-at-unit.false))) parent
          ∙ ap (λ b. cond b (own_path d at ∷ macros_from d marks c.args.unit p) (macros_from d marks c.args.unit p)) (sym c.is_soft_macro.ensures ∙ c.if-is_soft_macro.true);
    }

pub loop-at-preserved : goal.loop-at-preserved
loop-at-preserved c =
    let d = c.args.hierarchy.now in
    let at = c.loop-at.at in
    let p = c.outer-at.result in
    let marks = marked d c.args.marks.now in
    let before = c.outer-at.ensures.before in
    record {
      within = omega (arith, before, c.loop-at.invariant.within);
      up = omega (arith, before, c.loop-at.invariant.up);
      same =
          sym
          (from_other d c.sound.ensures c.args.marks.now c.args.unit c.requires.unit at p c.loop-at.invariant.within (λ same. absurd (omega (arith, c.if-at-unit.false))) c.outer-at.ensures.outer
          ∙ ap (λ b. cond b (own_path d at ∷ macros_from d marks c.args.unit p) (macros_from d marks c.args.unit p)) (sym c.is_soft_macro.ensures ∙ c.if-is_soft_macro.false))
          ∙ c.loop-at.invariant.same;
    }

pub returns : goal.returns
returns c =
    sym c.loop-at.invariant.same
    ∙ from_top c.args.hierarchy.now c.sound.ensures c.args.marks.now c.args.unit c.requires.unit c.loop-at.at (omega (arith, c.loop-at-test.false)) c.loop-at.invariant.within
