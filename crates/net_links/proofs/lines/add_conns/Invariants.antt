use Rattle.std.proofs.Common.{take}
use Rattle.std.specs.List.{flat_map}
use Rattle.pw_defs.specs.declared.netlist.Module.{Module}
use Rattle.design_defs.specs.Hierarchy.{Sources}
use Rattle.design_defs.specs.Links.{links_of_conn}
use Rattle.module_rows.specs.Reads.{inst_at}
use Rattle.net_links.specs.Adding.{AddsLinks, AreSourcesOf, IsLinkable}
use Rattle.net_links.proofs.lines.add_conns.Given as goal

abbrev pub invariant-loop-conn : goal.invariant-loop-conn
invariant-loop-conn l =
    let i = inst_at l.linker.spellings.modules.now l.holder l.inst in
    (s : Sources) → AreSourcesOf l.linker s → (m : Module) → IsLinkable s l.holder m
    → AddsLinks s l.holder m (flat_map (links_of_conn s m i) (take l.conn i.conns)) l.initial.rows l.rows
