use Rattle.std.proofs.Common.{sym, ◌∙◌, arith}
use Rattle.script_scopes.proofs.UnitLemmas.{unit_here, unit_step}
use Rattle.script_scopes.proofs.units.unit_of.Goals as goal

pub loop-at-preserved : goal.loop-at-preserved
loop-at-preserved c =
    let d = c.args.hierarchy.now in
    let at = c.loop-at.at in
    record {
      within = omega (arith, c.outer-at.ensures.before, c.loop-at.invariant.within);
      same = unit_step d c.sound.ensures c.args.marks.now at c.outer-at.result c.loop-at.invariant.within c.outer-at.ensures.outer (sym c.is_unit.ensures ∙ c.loop-at-test.true)
          ∙ c.loop-at.invariant.same;
    }

pub returns-clause-unit : goal.returns-clause-unit
returns-clause-unit c =
    unit_here c.args.hierarchy.now c.sound.ensures c.args.marks.now c.args.inst c.loop-at.at c.requires c.loop-at.invariant.within (sym c.is_unit.ensures ∙ c.loop-at-test.false) c.loop-at.invariant.same
