use Rattle.std.proofs.Common.{◌≡◌, length, sym, ◌∙◌, arith}
use Rattle.probe.proofs.EvenTables.{whole_at_end}
use Rattle.probe.proofs.Fitting.{fits_more, fits_all}
use Rattle.probe.proofs.states.fits.Goals as goal

pub loop-level-preserved : goal.loop-level-preserved
loop-level-preserved c =
    let count = sym c.if-level-lists.false ∙ whole_at_end c.args.pool.now _ c.level.ensures in
    fits_more c.args.lists.now c.args.pool.now.arities count c.loop-level.level c.index-lists-level.result c.index-lists-level.is
    (sym c.len.ensures ∙ sym c.if-arity-len.false ∙ c.arity.ensures) c.loop-level-test.true c.loop-level.invariant

pub returns : goal.returns
returns c =
    let count = sym c.if-level-lists.false ∙ whole_at_end c.args.pool.now _ c.level.ensures in
    let end : c.loop-level.level ≡ length c.args.lists.now = omega arith in
    λ yes. fits_all c.args.lists.now c.args.pool.now.arities count c.loop-level.level end c.loop-level.invariant
