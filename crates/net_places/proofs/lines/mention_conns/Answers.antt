use Rattle.std.proofs.Common.{◌+◌, ◌<◌, List, length, get_or, take, subst, arith}
use Rattle.std.specs.List.{flat_map}
use Rattle.std.proofs.lemmas.List.{take_all}
use Rattle.pw_defs.specs.declared.netlist.Conn.{Conn}
use Rattle.module_rows.specs.Reads.{inst_at, no_conn}
use Rattle.net_places.specs.Gathered.{Gathers}
use Rattle.net_places.specs.Mentions.{of_conn}
use Rattle.net_places.proofs.Mentioning.{gathers_also, gathers_none}
use Rattle.net_places.proofs.Steps.{flat_more, numbered_within}
use Rattle.net_places.proofs.lines.mention_conns.Goals as goal

pub mention_conn-requires : goal.mention_conn-requires
mention_conn-requires c =
    let n = c.args.modules.now in
    let conns = (inst_at n c.args.holder c.args.inst).conns in
    numbered_within n.exprs (get_or conns c.loop-conn.conn no_conn).expr c.conn.result.expr c.conn.ensures.expr

pub loop-conn-init : goal.loop-conn-init
loop-conn-init c = gathers_none c.args.modules.now.symbols c.args.mark c.args.gathering.now

pub loop-conn-preserved : goal.loop-conn-preserved
loop-conn-preserved c =
    let n = c.args.modules.now in
    let conns = (inst_at n c.args.holder c.args.inst).conns in
    let i = c.loop-conn.conn in
    let within : i < length conns = omega (arith, c.inst-conn-end.ensures.conns) in
    let one = get_or conns i no_conn in
    gathers_also n.symbols c.args.mark c.args.gathering.now c.loop-conn.gathering c.mention_conn.new.gathering (flat_map of_conn (take i conns)) (of_conn one)
    (flat_map of_conn (take (i + 1) conns)) c.loop-conn.invariant (c.in_ok-mention_conn.ensures one c.conn.ensures.expr) (flat_more of_conn conns i no_conn within)

pub returns : goal.returns
returns c =
    let n = c.args.modules.now in
    let conns = (inst_at n c.args.holder c.args.inst).conns in
    let P : List Conn → Type 0 = λ some. Gathers n.symbols c.args.mark c.args.gathering.now c.loop-conn.gathering (flat_map of_conn some) in
    subst P (take_all c.loop-conn.conn conns (omega (arith, c.inst-conn-end.ensures.conns))) c.loop-conn.invariant
