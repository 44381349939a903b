use Rattle.std.proofs.Common.{List, subst, sym}
use Rattle.module_rows.specs.declared.tables.ExprRow.{ExprRow}
use Rattle.module_rows.specs.Growth.{Grows, HasExprs}
use Rattle.module_rows.specs.Sound.{leaf_of}
use Rattle.module_rows.proofs.ExprLemmas.{grows_same, leaf_added}
use Rattle.module_rows.proofs.terms.put_leaf.Goals as goal

pub returns-in_err-push-clause-grown : goal.returns-in_err-push-clause-grown
returns-in_err-push-clause-grown c =
    let t = c.args.terms.now in
    let P : List ExprRow → Type 0 = λ rows. Grows t (record t { exprs = rows }) in
    subst P (sym c.in_err-push.ensures.err) (grows_same t c.requires.terms)

pub returns-clause-grown : goal.returns-clause-grown
returns-clause-grown c =
    let t = c.args.terms.now in
    let P : List ExprRow → Type 0 = λ rows. Grows t (record t { exprs = rows }) in
    subst P (sym c.in_ok-push.ensures.ok) (leaf_added t c.requires.terms c.args.row c.requires.leaf).grown

pub returns-clause-ok : goal.returns-clause-ok
returns-clause-ok c =
    let t = c.args.terms.now in
    let P : List ExprRow → Type 0 = λ rows. HasExprs t (record t { exprs = rows }) (leaf_of t.symbols c.args.row) in
    subst P (sym c.in_ok-push.ensures.ok) (leaf_added t c.requires.terms c.args.row c.requires.leaf)
