use Rattle.std.proofs.Common.{take}
use Rattle.std.specs.List.{flat_map}
use Rattle.pw_defs.specs.declared.netlist.Module.{Module}
use Rattle.design_defs.specs.Hierarchy.{Sources}
use Rattle.design_defs.specs.Links.{links_of_assign}
use Rattle.module_rows.specs.Reads.{module_at}
use Rattle.net_links.specs.Adding.{AddsLinks, AreSourcesOf, IsLinkable}
use Rattle.net_links.proofs.lines.add_assigns.Given as goal

abbrev pub invariant-loop-assign : goal.invariant-loop-assign
invariant-loop-assign l =
    (s : Sources) → AreSourcesOf l.linker s → (m : Module) → IsLinkable s l.holder m
    → AddsLinks s l.holder m (flat_map (links_of_assign m) (take l.assign (module_at l.linker.spellings.modules.now l.holder).assigns)) l.initial.rows l.rows
