use Rattle.std.proofs.Common.{sym, subst}
use Rattle.net_least.specs.Recursion.{RowCloses}
use Rattle.net_least.proofs.Marking.{closes_of_row, row_of_closes}
use Rattle.net_least.proofs.branches.closes.Goals as goal

pub returns-in-Some : goal.returns-in-Some
returns-in-Some c =
    let types = c.args.types.now in
    let marks = c.args.marks.now in
    let n = c.args.number in
    let row = c.in-Some.row.now in
    let here = sym c.in-Some.ensures in
    let same = c.as_slice.ensures.items in (
      λ t. closes_of_row types marks n row here (subst (λ r. RowCloses r marks n) same (c.row_closes.ensures.0 t)),
      λ has. c.row_closes.ensures.1 (subst (λ r. RowCloses r marks n) (sym same) (row_of_closes types marks n row here has)),
    )
