use Rattle.std.proofs.Common.{◌<◌, get_or, length, arith}
use Rattle.list_defs.proofs.Members.{IsIn-slice_get}
use Rattle.std.proofs.lemmas.Option.{slice_get-get_or}
use Rattle.module_rows.specs.Reads.{inst_at, module_at, no_conn, no_inst}
use Rattle.net_places.proofs.Steps.{numbered_within}
use Rattle.net_widths.specs.Refusals.{widths_of_conn}
use Rattle.net_widths.proofs.Steps.{all_finds, step_finds}
use Rattle.net_widths.proofs.widths.inst_widths.Goals as goal

pub conn_width-requires : goal.conn_width-requires
conn_width-requires c =
    let n = c.args.spellings.now.modules.now in
    let conns = (inst_at n c.args.holder c.args.inst).conns in
    record { netlist = c.requires.netlist; expr = numbered_within n.exprs (get_or conns c.loop-number.number no_conn).expr c.conn-conn.result.expr c.conn-conn.ensures.expr }

pub loop-number-preserved : goal.loop-number-preserved
loop-number-preserved c s seen opened kind =
    let n = c.args.spellings.now.modules.now in
    let m = module_at n c.args.holder in
    let i = inst_at n c.args.holder c.args.inst in
    let k = c.loop-number.number in
    let within : k < length i.conns = omega (arith, c.loop-number-test.true, c.inst-head.ensures.conns) in
    let conn = get_or i.conns k no_conn in
    let one = IsIn-slice_get m.insts c.args.inst i (slice_get-get_or m.insts c.args.inst no_inst c.requires.inst) in
    let in_conns = IsIn-slice_get i.conns k conn (slice_get-get_or i.conns k no_conn within) in
    step_finds n.symbols (widths_of_conn s m i) i.conns k no_conn c.args.best c.loop-number.least c.in_ok-least.least within (c.loop-number.invariant s seen opened kind)
    (c.in_ok-least.ensures s m i conn seen opened one in_conns kind c.inst-head.ensures.line c.conn-conn.ensures)

pub returns : goal.returns
returns c s seen opened kind =
    let n = c.args.spellings.now.modules.now in
    let m = module_at n c.args.holder in
    let i = inst_at n c.args.holder c.args.inst in
    all_finds n.symbols (widths_of_conn s m i) i.conns c.loop-number.number c.args.best c.loop-number.least (omega (arith, c.loop-number-test.false, c.inst-head.ensures.conns))
    (c.loop-number.invariant s seen opened kind)
