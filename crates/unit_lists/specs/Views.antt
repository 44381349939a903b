-- Supplies as units see them, in order.
use Rattle.std.specs.Ordering.{nat_cmp, ordering_then}
use Rattle.std.specs.declared.cmp.Ordering.{Ordering}
use Rattle.unit_lists.specs.declared.views.View.{View}

-- by unit, then by supply
abbrev pub view_cmp : View → View → Ordering
view_cmp a b = ordering_then (nat_cmp a.unit b.unit) (nat_cmp a.supply b.supply)
