use Rattle.std.proofs.Common.{◌≡◌, ◌+◌, ℕ, Some, take}
use Rattle.std.specs.List.{slice_get}
use Rattle.net_rings.specs.Search.{AreBelow, IsLooking, IsSearch}
use Rattle.net_rings.proofs.searches.look.Given as goal

abbrev pub invariant-loop-source : goal.invariant-loop-source
invariant-loop-source l = record {
  below : AreBelow (l.mark + 1) l.marks;
  looking : (done : ℕ) → IsSearch l.rows l.from l.mark l.fn.marks l.fn.row.items done → slice_get l.fn.row.items done ≡ Some l.bit
      → IsLooking l.rows l.from l.mark l.bit l.marks l.row.items (take l.source-index l.source-items) done;
}
