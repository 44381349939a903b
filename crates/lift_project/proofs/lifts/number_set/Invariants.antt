use Rattle.std.proofs.Common.{◌+◌, drop}
use Rattle.diagram_defs.specs.Diagrams.{IsNumberFor}
use Rattle.diagram_defs.specs.Parts.{GrowsBy}
use Rattle.lift_project.specs.Lifts.{shapes_of}
use Rattle.lift_project.specs.Entries.{IsAllowed, first_alternatives}
use Rattle.lift_project.proofs.lifts.number_set.Given as goal

abbrev pub invariant-loop-v : goal.invariant-loop-v
invariant-loop-v l = record {
  grows : GrowsBy (IsAllowed l.fn.into.arities (shapes_of l.kept) (drop l.level l.places) l.n) l.fn.into l.into;
  found : IsNumberFor l.into 0 (first_alternatives l.fn.into.arities (shapes_of l.kept) l.place (drop (l.level + 1) l.places) l.n l.v) l.found;
}
