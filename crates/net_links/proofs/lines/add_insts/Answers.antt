use Rattle.std.proofs.Common.{◌+◌, ◌<◌, List, length, get_or, take, ap, ◌∙◌, subst, arith}
use Rattle.std.specs.List.{flat_map}
use Rattle.std.proofs.lemmas.List.{take_all}
use Rattle.pw_defs.specs.declared.netlist.Inst.{Inst}
use Rattle.pw_defs.specs.declared.netlist.Module.{Module}
use Rattle.design_defs.specs.Links.{Link, links_of_conn}
use Rattle.module_rows.specs.Reads.{module_at, no_inst}
use Rattle.net_places.proofs.Steps.{flat_more}
use Rattle.net_links.specs.Adding.{AddsLinks}
use Rattle.net_links.proofs.LineLemmas.{same_module}
use Rattle.net_links.proofs.LinkLemmas.{adds_also, adds_none}
use Rattle.net_links.proofs.lines.add_insts.Goals as goal

pub loop-inst-init : goal.loop-inst-init
loop-inst-init c = λ s are m is. adds_none s c.args.holder m c.args.rows.now

pub loop-inst-preserved : goal.loop-inst-preserved
loop-inst-preserved c = λ s are m is.
    let insts = (module_at c.args.linker.now.spellings.modules.now c.args.holder).insts in
    let k = c.loop-inst.inst in
    let within : k < length insts = omega (arith, c.module-inst-end.ensures.insts) in
    let f : Inst → List Link = λ i. flat_map (links_of_conn s m i) i.conns in
    adds_also s c.args.holder m c.args.rows.now c.loop-inst.rows c.add_conns.new.rows (flat_map f (take k insts))
    (f (get_or insts k no_inst)) (flat_map f (take (k + 1) insts)) (c.loop-inst.invariant s are m is)
    (c.in_ok-add_conns.ensures s are m is) (flat_more f insts k no_inst within)

pub returns : goal.returns
returns c = λ s are m is.
    let n = c.args.linker.now.spellings.modules.now in
    let insts = (module_at n c.args.holder).insts in
    let f : Inst → List Link = λ i. flat_map (links_of_conn s m i) i.conns in
    let P : List Inst → Type 0 = λ some. AddsLinks s c.args.holder m (flat_map f some) c.args.rows.now c.loop-inst.rows in
    let whole = take_all c.loop-inst.inst insts (omega (arith, c.module-inst-end.ensures.insts)) in
    subst P (whole ∙ ap (λ (x : Module). x.insts) (same_module c.args.linker.now s c.args.holder m are is.there)) (c.loop-inst.invariant s are m is)
