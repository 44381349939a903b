use Rattle.std.proofs.Common.{◌≢◌, take}
use Rattle.diagram_defs.specs.Diagrams.{IsSet}
use Rattle.lift_project.proofs.LeastLemmas.{LeadsLeast}
use Rattle.lift_project.proofs.least.first.Given as goal

abbrev pub invariant-loop-level : goal.invariant-loop-level
invariant-loop-level l = record {
  some : l.n ≢ 0;
  in_level : IsSet l.pool l.level l.n;
  leads : LeadsLeast l.pool.nodes l.node l.n (take l.level l.out);
}
