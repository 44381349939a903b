use Rattle.std.proofs.Common.{◌≡◌, length}
use Rattle.diagram_defs.specs.Parts.{GrowsBy}
use Rattle.lift_project.specs.Lifts.{shapes_of}
use Rattle.lift_project.specs.Entries.{IsAllowed}
use Rattle.lift_project.proofs.LiftedLemmas.{AreLifted}
use Rattle.lift_project.proofs.lifts.lift.Given as goal

abbrev pub invariant-loop-n : goal.invariant-loop-n
invariant-loop-n l = record {
  grows : GrowsBy (IsAllowed l.fn.into.arities (shapes_of l.kept) l.places l.node) l.fn.into l.into;
  size : length l.sets.items ≡ length l.marks.items;
  lifted : AreLifted l.kept l.fn.into.arities l.places l.into l.marks.items l.n l.sets.items;
}
