use Rattle.std.proofs.Common.{◌≡◌, filter, length, sym, ap, ◌∙◌, arith}
use Rattle.script_scopes.specs.Marked.{marked}
use Rattle.script_scopes.specs.Units.{is_nesting_mark}
use Rattle.script_scopes.proofs.ChainLemmas.{chain}
use Rattle.script_scopes.proofs.UnitLemmas.{nest_all, nest_step, nest_top}
use Rattle.script_scopes.proofs.units.nesting.Goals as goal

pub loop-at-preserved : goal.loop-at-preserved
loop-at-preserved c =
    let d = c.args.hierarchy.now in
    let at = c.loop-at.at in
    let more = nest_step d c.sound.ensures c.args.marks.now at c.outer-at.result c.loop-at.invariant.within c.outer-at.ensures.outer in
    record {
      within = omega (arith, c.outer-at.ensures.before, c.loop-at.invariant.within);
      few = omega (arith, c.outer-at.ensures.before, c.loop-at.invariant.few, c.mark_count-count.ensures.few);
      all = omega (arith, more, c.mark_count-count.ensures.count, c.loop-at.invariant.all);
    }

pub returns : goal.returns
returns c =
    let d = c.args.hierarchy.now in
    let none : c.loop-at.at ≡ 0 = omega (arith, c.loop-at-test.false) in
    let top : length (filter (is_nesting_mark (marked d c.args.marks.now)) (chain d c.loop-at.at)) ≡ 0 =
    ap (λ n. length (filter (is_nesting_mark (marked d c.args.marks.now)) (chain d n))) none ∙ nest_top d c.sound.ensures c.args.marks.now in
    let all : c.loop-at.count ≡ length (filter (is_nesting_mark (marked d c.args.marks.now)) (chain d c.args.inst)) =
    omega (arith, top, c.loop-at.invariant.all) in
    all ∙ sym (nest_all d c.sound.ensures c.args.marks.now c.args.inst c.requires)
