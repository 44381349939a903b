use Rattle.std.proofs.Common.{◌++◌, ℕ, List, [], ◌∷◌, take, ap, sym, ◌∙◌, subst}
use Rattle.std.proofs.lemmas.List.{take_all, take_more}
use Rattle.pw_defs.specs.declared.netlist.Expr.{Expr}
use Rattle.pw_defs.specs.declared.netlist.Expr.TheVariants.{Join as JoinExpr}
use Rattle.module_rows.specs.declared.tables.ExprRow.{ExprRow}
use Rattle.module_rows.specs.declared.tables.ExprRow.TheVariants.{Join}
use Rattle.module_rows.specs.Growth.{HasExprs}
use Rattle.module_rows.proofs.ExprLemmas.{grows_trans, has_none, has_trans, join_added}
use Rattle.module_rows.proofs.terms.+put_expr.Goals as goal

joined : (t : ℕ) (c : goal.put_join-In_ok-push t)
    → HasExprs c.args.terms.now (record { symbols = c.put_parts.new.terms.symbols; exprs = c.push.new.self }) (JoinExpr c.args.parts.now ∷ [])
joined t c =
    let old = c.args.terms.now in
    let new = c.put_parts.new.terms in
    let parts = c.args.parts.now in
    let Q : List Expr → Type 0 = λ es. HasExprs old new es in
    let has : HasExprs old new parts = subst Q c.as_slice.ensures.items c.in_ok-put_parts.ensures.ok in
    let P : List ExprRow → Type 0 = λ rows. HasExprs old (record new { exprs = rows }) (JoinExpr parts ∷ []) in
    let R : ℕ → Type 0 = λ first. HasExprs old (record new { exprs = new.exprs ++ Join first c.len-count.result ∷ [] }) (JoinExpr parts ∷ []) in
    subst P (sym c.in_ok-push.ensures.ok) (subst R (sym c.len-first.ensures) (join_added old new parts has c.len-count.result (sym c.len-count.ensures)))

pub put_join-returns-clause-grown : goal.put_join-returns-clause-grown
put_join-returns-clause-grown t c = (joined t c).grown

pub put_join-returns-clause-ok : goal.put_join-returns-clause-ok
put_join-returns-clause-ok t c = joined t c

pub put_parts-loop-part-init : goal.put_parts-loop-part-init
put_parts-loop-part-init t c = has_none c.args.terms.now c.requires

pub put_parts-returns-in_err-put_expr-clause-grown : goal.put_parts-returns-in_err-put_expr-clause-grown
put_parts-returns-in_err-put_expr-clause-grown t c =
    grows_trans c.args.terms.now c.loop-part.terms c.put_expr.new.terms c.loop-part.invariant.grown c.put_expr.ensures.grown

pub put_parts-loop-part-preserved : goal.put_parts-loop-part-preserved
put_parts-loop-part-preserved t c =
    let old = c.args.terms.now in
    let new = c.put_expr.new.terms in
    let parts = c.args.parts.now in
    let front = take c.loop-part.part-index parts in
    let part = c.part-item.result in
    let all = has_trans old c.loop-part.terms new front (part ∷ []) c.loop-part.invariant.grown.sound c.loop-part.invariant c.in_ok-put_expr.ensures.ok in
    let P : List Expr → Type 0 = λ es. HasExprs old new es in
    let more = take_more parts c.loop-part.part-index part c.loop-part-test.true in
    let same = ap (λ e. front ++ e ∷ []) c.part-item.is in
    subst P (same ∙ sym more) all

pub put_parts-returns-clause-grown : goal.put_parts-returns-clause-grown
put_parts-returns-clause-grown t c = c.loop-part.invariant.grown

pub put_parts-returns-clause-ok : goal.put_parts-returns-clause-ok
put_parts-returns-clause-ok t c =
    let P : List Expr → Type 0 = λ es. HasExprs c.args.terms.now c.loop-part.terms es in
    subst P (take_all c.loop-part.part-index c.args.parts.now c.loop-part-test.false) c.loop-part.invariant
