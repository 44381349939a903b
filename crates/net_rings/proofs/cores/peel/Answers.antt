use Rattle.net_rings.proofs.cores.peel.Goals as goal

pub loop-preserved : goal.loop-preserved
loop-preserved c = record {
  rows = c.in_ok-peel_one.ensures.rows;
  counted = c.in_ok-peel_one.ensures.counted;
  kept = λ sources taken core. c.in_ok-peel_one.ensures.kept sources taken (c.loop.invariant.kept sources taken core);
}
