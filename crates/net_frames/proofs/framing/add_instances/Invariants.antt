use Rattle.std.proofs.Common.{[], take}
use Rattle.design_rows.specs.Sound.{AreRows}
use Rattle.net_frames.specs.Framed.{AreFramed, HaveSameParts}
use Rattle.net_frames.proofs.framing.add_instances.Given as goal

abbrev pub invariant-loop-at : goal.invariant-loop-at
invariant-loop-at l = record {
  rows : AreRows l.rows;
  parts : HaveSameParts l.initial.rows l.rows;
  framed : AreFramed l.modules l.plans [] l.initial.rows → AreFramed l.modules l.plans (take l.at l.instances.rows) l.rows;
}
