-- What is known of modules that were read: instances of one module have names, and different ones.
use Rattle.std.proofs.Common.{◌++◌, map}
use Rattle.pw_defs.specs.declared.netlist.Inst.{Inst}
use Rattle.pw_defs.specs.declared.netlist.Net.{Net}
use Rattle.pw_defs.specs.declared.netlist.Port.{Port}
use Rattle.list_defs.proofs.Members.{IsIn-append_left, IsIn-append_right, IsIn-map, IsIn-slice_get}
use Rattle.design_defs.specs.Hierarchy.{Sources, AreNamedInsts}
use Rattle.design_defs.specs.Inputs.{AreReadSources, declared_names}
use Rattle.design_defs.specs.Places.{exprs_in, names_alone}
use Rattle.design_laws.specs.FullNames.{HaveFullNames}
use Rattle.net_hierarchy.specs.Graph.{AreInstsApart}
use Rattle.std.specs.List.{flat_map}
use Rattle.list_defs.proofs.NameLemmas.{differ_behind}

pub insts_apart : (s : Sources) → AreReadSources s → AreInstsApart s
insts_apart s read n m is =
    let differ = (read.each_module m (IsIn-slice_get s.modules n m is)).own_names in
    let ports = map (λ (p : Port). p.name) m.ports in
    let nets = map (λ (w : Net). w.name) m.nets in
    let insts = map (λ (i : Inst). i.name) m.insts in
    differ_behind (ports ++ nets) insts differ

pub insts_named : (s : Sources) → HaveFullNames s → AreNamedInsts s
insts_named s full n m i is one =
    let ports = map (λ (p : Port). p.name) m.ports in
    let nets = map (λ (w : Net). w.name) m.nets in
    let insts = map (λ (x : Inst). x.name) m.insts in
    let declared = IsIn-append_right i.name (ports ++ nets) insts (IsIn-map (λ (x : Inst). x.name) i m.insts one) in
    full m i.name (IsIn-slice_get s.modules n m is) (IsIn-append_left i.name (declared_names m) (flat_map names_alone (exprs_in m)) declared)
