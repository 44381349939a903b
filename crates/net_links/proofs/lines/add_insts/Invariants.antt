use Rattle.std.proofs.Common.{take}
use Rattle.std.specs.List.{flat_map}
use Rattle.pw_defs.specs.declared.netlist.Inst.{Inst}
use Rattle.pw_defs.specs.declared.netlist.Module.{Module}
use Rattle.design_defs.specs.Hierarchy.{Sources}
use Rattle.design_defs.specs.Links.{links_of_conn}
use Rattle.module_rows.specs.Reads.{module_at}
use Rattle.net_links.specs.Adding.{AddsLinks, AreSourcesOf, IsLinkable}
use Rattle.net_links.proofs.lines.add_insts.Given as goal

abbrev pub invariant-loop-inst : goal.invariant-loop-inst
invariant-loop-inst l =
    (s : Sources) → AreSourcesOf l.linker s → (m : Module) → IsLinkable s l.holder m
    → AddsLinks s l.holder m (flat_map (λ (i : Inst). flat_map (links_of_conn s m i) i.conns) (take l.inst (module_at l.linker.spellings.modules.now l.holder).insts)) l.initial.rows l.rows
