use Rattle.std.proofs.Common.{◌≡◌}
use Rattle.design_defs.specs.Hierarchy.{Sources, AreNamedInsts}
use Rattle.design_defs.specs.Inputs.{AreReadSources}
use Rattle.net_instances.specs.Instances.{AreInstances}
use Rattle.net_sizes.specs.declared.sizes.Counts.{Counts}
use Rattle.net_names.proofs.Walks.{IsMetTo}
use Rattle.net_names.proofs.walking.meet_all.Given as goal

abbrev pub invariant-loop-number : goal.invariant-loop-number
invariant-loop-number l = (s : Sources) → (bits : Counts) → (modules : s.modules ≡ l.modules.modules) → (cells : s.cells ≡ l.cells) → (models : s.models ≡ l.models)
    → (read : AreReadSources s) → (named : AreNamedInsts s) → (are : AreInstances s l.modules bits l.instances)
    → IsMetTo s l.modules l.cells l.models bits l.instances modules cells models read named are l.number l.paths l.meeting
