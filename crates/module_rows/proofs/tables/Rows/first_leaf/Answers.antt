use Rattle.std.proofs.Common.{ℕ, sym, subst}
use Rattle.module_rows.specs.Reads.{HasLeavesFrom}
use Rattle.module_rows.specs.View.{netlist_of}
use Rattle.module_rows.proofs.LeafLemmas.{expr_within, leaves_read}
use Rattle.module_rows.proofs.tables.Rows.first_leaf.Goals as goal

pub expr_row-requires : goal.expr_row-requires
expr_row-requires c = expr_within c.args.self.now.terms c.args.expr c.requires.within

pub returns : goal.returns
returns c =
    let r = c.args.self.now in
    let P : ℕ → Type 0 = λ first. HasLeavesFrom (netlist_of r) c.args.expr first in
    subst P (sym c.first.ensures) (leaves_read r c.requires.rows c.args.expr c.expr_row.result c.expr_row.ensures)
