use Rattle.std.proofs.Common.{◌≡◌, ℕ, List, [], ◌∷◌, subst}
use Rattle.std.proofs.lemmas.Option.{get_or_from_slice_get}
use Rattle.pw_defs.specs.declared.netlist.Expr.TheVariants.{Part as PartExpr}
use Rattle.module_rows.specs.declared.tables.ExprRow.TheVariants.{Part}
use Rattle.module_rows.specs.Growth.{HasExprs}
use Rattle.module_rows.specs.Sound.{leaf_of}
use Rattle.module_rows.specs.View.{name_at}
use Rattle.module_rows.proofs.ExprLemmas.{has_trans}
use Rattle.module_rows.proofs.terms.put_part.Goals as goal

pub returns-clause-ok : goal.returns-clause-ok
returns-clause-ok c =
    let old = c.args.terms.now in
    let mid = c.symbol.new.terms in
    let new = c.put_leaf.new.terms in
    let name = c.in_ok-name.name in
    let leaf = leaf_of mid.symbols (Part name c.args.left c.args.right) in
    let all : HasExprs old new leaf = has_trans old mid new [] leaf c.symbol.ensures.grown.grown.sound c.symbol.ensures.grown c.in_ok-put_leaf.ensures.ok in
    let named : name_at mid.symbols name ≡ c.as_slice.result.now = get_or_from_slice_get mid.symbols name c.as_slice.result.now [] c.in_ok-name.ensures.named in
    let P : List ℕ → Type 0 = λ spelling. HasExprs old new (PartExpr spelling c.args.left c.args.right ∷ []) in
    subst P c.as_slice.ensures.bytes (subst P named all)
