use Rattle.design_defs.proofs.WalkEnds.{walks_end}
use Rattle.design_walks.proofs.EndLemmas.{ends_on, ends_set, next_within}
use Rattle.design_walks.proofs.ends.keep_end.Goals as goal

pub loop-preserved : goal.loop-preserved
loop-preserved c =
    let d = c.args.design.now in
    let inv = c.loop.invariant in
    let on = c.in-Some.ensures in
    record {
      within = next_within d.bits (walks_end d c.sound.ensures) c.loop.at c.in-Some.next on;
      last = ends_on d.bits c.loop.at c.in-Some.next c.args.last on inv.last;
      ends = ends_set d.bits c.loop.ends c.loop.at c.args.last inv.ends inv.last;
    }
