use Rattle.std.proofs.Common.{◌+◌, ◌<◌, List, length, get_or, take, subst, arith}
use Rattle.std.specs.List.{flat_map}
use Rattle.std.proofs.lemmas.List.{take_all}
use Rattle.pw_defs.specs.declared.netlist.Conn.{Conn}
use Rattle.design_defs.specs.Links.{links_of_conn}
use Rattle.module_rows.specs.Reads.{inst_at, no_conn}
use Rattle.net_places.proofs.Steps.{flat_more}
use Rattle.net_links.specs.Adding.{AddsLinks}
use Rattle.net_links.proofs.LinkLemmas.{adds_also, adds_none}
use Rattle.net_links.proofs.lines.add_conns.Goals as goal

pub loop-conn-init : goal.loop-conn-init
loop-conn-init c = λ s are m is. adds_none s c.args.holder m c.args.rows.now

pub loop-conn-preserved : goal.loop-conn-preserved
loop-conn-preserved c = λ s are m is.
    let i = inst_at c.args.linker.now.spellings.modules.now c.args.holder c.args.inst in
    let k = c.loop-conn.conn in
    let within : k < length i.conns = omega (arith, c.inst-head.ensures.conns) in
    adds_also s c.args.holder m c.args.rows.now c.loop-conn.rows c.add_conn.new.rows (flat_map (links_of_conn s m i) (take k i.conns))
    (links_of_conn s m i (get_or i.conns k no_conn)) (flat_map (links_of_conn s m i) (take (k + 1) i.conns)) (c.loop-conn.invariant s are m is)
    (c.in_ok-add_conn.ensures s are m is) (flat_more (links_of_conn s m i) i.conns k no_conn within)

pub returns : goal.returns
returns c = λ s are m is.
    let i = inst_at c.args.linker.now.spellings.modules.now c.args.holder c.args.inst in
    let P : List Conn → Type 0 = λ some. AddsLinks s c.args.holder m (flat_map (links_of_conn s m i) some) c.args.rows.now c.loop-conn.rows in
    subst P (take_all c.loop-conn.conn i.conns (omega (arith, c.inst-head.ensures.conns))) (c.loop-conn.invariant s are m is)
