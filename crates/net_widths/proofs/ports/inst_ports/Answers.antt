use Rattle.std.proofs.Common.{◌<◌, get_or, length, arith}
use Rattle.module_rows.specs.Reads.{inst_at, no_conn}
use Rattle.net_widths.specs.Refusals.{ports_of_conn}
use Rattle.net_widths.proofs.Steps.{all_finds, step_finds}
use Rattle.net_widths.proofs.ports.inst_ports.Goals as goal

pub loop-conn-preserved : goal.loop-conn-preserved
loop-conn-preserved c s seen kind =
    let n = c.args.spellings.now.modules.now in
    let i = inst_at n c.args.holder c.args.inst in
    let k = c.loop-conn.conn in
    let within : k < length i.conns = omega (arith, c.loop-conn-test.true, c.inst-head.ensures.conns) in
    let conn = get_or i.conns k no_conn in
    step_finds n.symbols (ports_of_conn s i) i.conns k no_conn c.args.best c.loop-conn.least c.conn_port-least.result within (c.loop-conn.invariant s seen kind)
    (c.conn_port-least.ensures s i conn seen kind c.inst-head.ensures.line c.conn-name.ensures.port)

pub returns : goal.returns
returns c s seen kind =
    let n = c.args.spellings.now.modules.now in
    let i = inst_at n c.args.holder c.args.inst in
    all_finds n.symbols (ports_of_conn s i) i.conns c.loop-conn.conn c.args.best c.loop-conn.least (omega (arith, c.loop-conn-test.false, c.inst-head.ensures.conns))
    (c.loop-conn.invariant s seen kind)
