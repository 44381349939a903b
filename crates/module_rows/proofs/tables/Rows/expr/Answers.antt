use Rattle.std.proofs.Common.{sym, subst}
use Rattle.module_rows.specs.declared.heads.ExprHead.{ExprHead}
use Rattle.module_rows.specs.Reads.{numbered_expr, IsExprHead}
use Rattle.module_rows.specs.View.{netlist_of}
use Rattle.module_rows.proofs.LeafLemmas.{expr_within, head_read}
use Rattle.module_rows.proofs.tables.Rows.expr.Goals as goal

pub expr_row-requires : goal.expr_row-requires
expr_row-requires c = expr_within c.args.self.now.terms c.args.expr c.requires.within

pub returns : goal.returns
returns c =
    let r = c.args.self.now in
    let P : ExprHead → Type 0 = λ head. IsExprHead (netlist_of r) (numbered_expr (netlist_of r) c.args.expr) head in
    subst P (sym c.head.ensures) (head_read r c.requires.rows c.args.expr c.expr_row.result c.expr_row.ensures)
