use Rattle.std.proofs.Common.{List, subst, sym}
use Rattle.design_rows.specs.declared.tables.KindRow.{KindRow}
use Rattle.design_rows.specs.Sound.{AreRows}
use Rattle.design_rows.proofs.GrowthLemmas.{rows_with_kind}
use Rattle.design_rows.proofs.tables.Rows.add_kind.Goals as goal

pub returns-clause-rows : goal.returns-clause-rows
returns-clause-rows c =
    let row : KindRow = record { body = c.args.body; first = c.args.first; size = c.args.size } in
    let P : List KindRow → Type 0 = λ kinds. AreRows (record c.args.self.now { kinds = kinds }) in
    subst P (sym c.in_ok-push.ensures.ok) (rows_with_kind c.args.self.now row c.requires.places c.requires.rows)
