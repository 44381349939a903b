use Rattle.std.proofs.Common.{subst}
use Rattle.module_rows.specs.Reads.{IsNumbered}
use Rattle.net_widths.proofs.Steps.{conn_finds, nothing_connected}
use Rattle.net_widths.proofs.widths.conn_width.Goals as goal

pub returns-in_ok-side-in-Some : goal.returns-in_ok-side-in-Some
returns-in_ok-side-in-Some c = λ s m i conn seen opened one in_conns kind line is.
    let n = c.args.spellings.now.modules.now in
    conn_finds s m i conn n c.in-Some.expr c.args.conn.port c.args.line c.args.best c.refuse_unequal-found.result c.type_width-width.result c.in_ok-side-in-Some.side one
    in_conns line (subst (IsNumbered n.exprs conn.expr) c.in-Some.is is.expr) is.port (λ there. c.in_ok-side-in-Some.ensures s m opened there)
    (c.type_width-width.ensures s i conn seen kind is.port) c.refuse_unequal-found.ensures

pub returns-in-None : goal.returns-in-None
returns-in-None c = λ s m i conn seen opened one in_conns kind line is.
    let n = c.args.spellings.now.modules.now in
    nothing_connected s m i conn n c.args.best (subst (IsNumbered n.exprs conn.expr) c.in-None.is is.expr)
