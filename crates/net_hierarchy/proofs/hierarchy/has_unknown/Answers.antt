use Rattle.std.proofs.Common.{None, get_or, refl, subst, sym}
use Rattle.std.proofs.lemmas.Option.{slice_get-get_or}
use Rattle.list_defs.specs.Members.{IsIn}
use Rattle.list_defs.proofs.Members.{IsIn-slice_get}
use Rattle.net_hierarchy.proofs.hierarchy.has_unknown.Goals as goal

pub returns-then-lacks_type : goal.returns-then-lacks_type
returns-then-lacks_type c =
    let place = c.loop-number.number-index in
    let there = IsIn-slice_get c.args.order.now place _ (slice_get-get_or c.args.order.now place 0 c.loop-number-test.true) in
    let unknown = subst (IsIn None) c.as_slice.ensures.items (c.lacks_type.ensures.0 c.if-lacks_type.true) in
    (λ t. record { n = get_or c.args.order.now place 0; row = c.in-Some.row.now; in_order = there; is_row = sym c.in-Some.ensures; unknown = unknown }, λ has. refl)
