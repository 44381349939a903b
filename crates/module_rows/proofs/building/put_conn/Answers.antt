use Rattle.std.proofs.Common.{◌≡◌, ◌++◌, ◌∷◌, [], ℕ, List, length, map, drop, ap, refl, sym, ◌∙◌, subst, arith}
use Rattle.std.specs.Prelude.{Option}
use Rattle.std.proofs.lemmas.List.{drop_at}
use Rattle.std.proofs.lemmas.List.Elements.{All-push}
use Rattle.std.proofs.lemmas.Option.{get_or_from_slice_get, slice_get_within}
use Rattle.pw_defs.specs.declared.netlist.Conn.{Conn}
use Rattle.pw_defs.specs.declared.netlist.Expr.{Expr}
use Rattle.module_rows.specs.declared.tables.ConnRow.{ConnRow}
use Rattle.module_rows.specs.Growth.{HasConns}
use Rattle.module_rows.specs.Sound.{IsConnRow}
use Rattle.module_rows.specs.View.{conn_of, connected, name_at}
use Rattle.module_rows.proofs.Additions.{conn_rows_kept}
use Rattle.module_rows.proofs.ExprLemmas.{grows_trans}
use Rattle.module_rows.proofs.TermLemmas.{extends_length, name_kept}
use Rattle.module_rows.proofs.building.put_conn.Goals as goal

pub returns-clause-grown : goal.returns-clause-grown
returns-clause-grown c =
    let old = c.args.terms.now in
    let mid = c.symbol.new.terms in
    let new = c.connected.new.terms in
    let rows = c.args.rows.now in
    let row : ConnRow = record { port = c.in_ok-port.port; expr = c.in_ok-expr.expr } in
    let grown = grows_trans old mid new c.symbol.ensures.grown.grown c.connected.ensures.grown in
    let there = slice_get_within mid.symbols row.port c.as_slice.result.now c.in_ok-port.ensures.named in
    let fits : IsConnRow new row =
    record { port = omega (arith, there, extends_length mid.symbols new.symbols c.connected.ensures.grown.symbols); expr = c.in_ok-expr.ensures.expr.there } in
    let P : List ConnRow → Type 0 = λ xs. HasConns old rows new xs in
    let has : HasConns old rows new (rows ++ row ∷ []) =
    record { grown = grown; more = (row ∷ [], refl); rows = All-push (IsConnRow new) rows row (conn_rows_kept old new rows grown c.requires.rows) fits } in
    subst P (sym c.in_ok-push.ensures.ok) has

pub returns-clause-ok : goal.returns-clause-ok
returns-clause-ok c =
    let mid = c.symbol.new.terms in
    let new = c.connected.new.terms in
    let rows = c.args.rows.now in
    let row : ConnRow = record { port = c.in_ok-port.port; expr = c.in_ok-expr.expr } in
    let there = slice_get_within mid.symbols row.port c.as_slice.result.now c.in_ok-port.ensures.named in
    let named : name_at new.symbols row.port ≡ c.args.conn.now.port =
    name_kept mid.symbols new.symbols c.connected.ensures.grown.symbols row.port there
    ∙ get_or_from_slice_get mid.symbols row.port c.as_slice.result.now [] c.in_ok-port.ensures.named ∙ c.as_slice.ensures.bytes in
    let F : List ℕ → Option Expr → List Conn = λ port expr. record { port = port; expr = expr } ∷ [] in
    ap (λ xs. map (conn_of new) (drop (length rows) xs)) c.in_ok-push.ensures.ok
    ∙ ap (map (conn_of new)) (drop_at rows (row ∷ []) (length rows) refl)
    ∙ ap (λ port. F port (connected new row.expr)) named ∙ ap (F c.args.conn.now.port) c.in_ok-expr.ensures.expr.same
