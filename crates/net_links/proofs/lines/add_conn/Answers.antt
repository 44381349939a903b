use Rattle.std.specs.Prelude.{Some, None}
use Rattle.std.proofs.lemmas.Option.{slice_get_within}
use Rattle.module_rows.specs.Reads.{conn_at}
use Rattle.net_links.proofs.LineLemmas.{expr_within, linked, placed, some_expr}
use Rattle.net_links.proofs.lines.add_conn.Goals as goal

pub returns-in_default-port_at : goal.returns-in_default-port_at
returns-in_default-port_at c s are m is =
    absurd (placed c.args.linker.now s c.args.holder m c.requires.open are is c.args.inst.number c.args.conn c.requires.inst c.requires.conn
    c.conn-head.result.port None c.conn-head.ensures.port c.in_default-port_at.ensures)

pub add_connected-requires : goal.add_connected-requires
add_connected-requires c =
    let n = c.args.linker.now.spellings.modules.now in
    let x = some_expr n.exprs (conn_at n c.args.holder c.args.inst.number c.args.conn).expr c.conn-head.result.expr c.in-Some.expr c.conn-head.ensures.expr c.in-Some.is in
    expr_within c.args.linker.now c.args.holder c.in-Some.expr c.requires.open (slice_get_within n.exprs c.in-Some.expr x.0 x.2)

pub returns : goal.returns
returns c s are m is =
    let l = c.args.linker.now in
    let port = c.in-Some-port_at.port in
    let found = placed l s c.args.holder m c.requires.open are is c.args.inst.number c.args.conn c.requires.inst c.requires.conn
    c.conn-head.result.port (Some port) c.conn-head.ensures.port c.in-Some-port_at.ensures in
    linked l s c.args.holder m c.requires.open are is c.args.inst.number c.args.conn c.requires.inst c.requires.conn c.conn-head.result.expr c.in-Some.expr
    c.args.inst.line port c.args.rows.now c.add_connected.new.rows c.conn-head.ensures.expr c.in-Some.is c.requires.line found c.in_ok-add_connected.ensures
