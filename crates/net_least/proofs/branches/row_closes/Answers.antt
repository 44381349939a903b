use Rattle.std.proofs.Common.{None, get_or, refl}
use Rattle.std.proofs.lemmas.Option.{slice_get-get_or}
use Rattle.list_defs.proofs.Members.{IsIn-slice_get}
use Rattle.net_least.proofs.branches.row_closes.Goals as goal

pub returns-then-closes_at : goal.returns-then-closes_at
returns-then-closes_at c =
    let place = c.loop-item.item-index in
    let row = c.args.row.now in (
      λ t. (get_or row place None, IsIn-slice_get row place _ (slice_get-get_or row place None c.loop-item-test.true), c.closes_at.ensures.0 c.if-closes_at.true),
      λ has. refl,
    )
