use Rattle.std.proofs.Common.{◌≡◌, ℕ, subst, arith, length}
use Rattle.net_names.specs.Things.{HasMet, IsBelow}
use Rattle.net_names.proofs.Walks.{at_met}
use Rattle.net_names.proofs.walking.meet_all.Goals as goal

pub loop-number-preserved : goal.loop-number-preserved
loop-number-preserved c s bits modules cells models read named are =
    at_met s c.args.modules.now c.args.cells.now c.args.models.now bits c.args.instances.now modules cells models read named are c.loop-number.number c.loop-number.paths
    c.meet_at.new.paths c.loop-number.meeting c.meet_at.new.meeting (omega (arith, c.loop-number-test.true, c.len-number-end.ensures)) c.in_ok-meet_at.ensures
    (c.loop-number.invariant s bits modules cells models read named are)

pub returns : goal.returns
returns c s bits modules cells models read named are =
    let known = c.loop-number.invariant s bits modules cells models read named are in
    let all : c.loop-number.number ≡ length c.args.instances.now.rows = omega (arith, c.loop-number-test.false, c.len-number-end.ensures, c.loop-number.auto.number-end) in
    let P : ℕ → Type 0 = λ k. HasMet s are.ways (IsBelow are.ways k 0 0) c.loop-number.meeting in
    subst P all known.met_so
