use Rattle.std.proofs.Common.{◌++◌, ◌∷◌, [], ap, length, map, sym, take, ◌∙◌, arith}
use Rattle.std.proofs.lemmas.List.{drop_all, take_all, take_more}
use Rattle.module_rows.specs.View.{conn_of}
use Rattle.module_rows.proofs.Additions.{conns_same, conns_step, conns_trans}
use Rattle.module_rows.proofs.building.put_conns.Goals as goal

pub loop-conn-init : goal.loop-conn-init
loop-conn-init c = record {
  has = conns_same c.args.terms.now c.args.rows.now c.requires.terms c.requires.rows;
  made = ap (map (conn_of c.args.terms.now)) (drop_all (length c.args.rows.now) c.args.rows.now (omega arith));
}

pub loop-conn-preserved : goal.loop-conn-preserved
loop-conn-preserved c =
    let a = c.args.terms.now in
    let xs = c.args.rows.now in
    let b = c.loop-conn.terms in
    let ys = c.loop-conn.rows in
    let new = c.put_conn.new.terms in
    let zs = c.put_conn.new.rows in
    let conns = c.args.conns.now in
    let front = take c.loop-conn.conn-index conns in
    let conn = c.conn-item.result in
    let more = take_more conns c.loop-conn.conn-index conn c.loop-conn-test.true in
    let same = ap (λ e. front ++ e ∷ []) c.conn-item.is in
    let step = conns_step a xs b ys new zs front (conn ∷ []) c.loop-conn.invariant.has c.put_conn.ensures.grown c.loop-conn.invariant.made c.in_ok-put_conn.ensures.ok in
    record { has = conns_trans a xs b ys new zs c.loop-conn.invariant.has c.put_conn.ensures.grown; made = step ∙ same ∙ sym more }

pub returns-in_err-put_conn-clause-grown : goal.returns-in_err-put_conn-clause-grown
returns-in_err-put_conn-clause-grown c =
    conns_trans c.args.terms.now c.args.rows.now c.loop-conn.terms c.loop-conn.rows c.put_conn.new.terms c.put_conn.new.rows c.loop-conn.invariant.has c.put_conn.ensures.grown

pub returns-clause-ok : goal.returns-clause-ok
returns-clause-ok c = c.loop-conn.invariant.made ∙ take_all c.loop-conn.conn-index c.args.conns.now c.loop-conn-test.false
