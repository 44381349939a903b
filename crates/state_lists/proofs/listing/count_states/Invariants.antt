use Rattle.std.proofs.Common.{◌≡◌, ◌*◌, ◌≤◌, min, drop}
use Rattle.supply_defs.specs.States.{state_count}
use Rattle.state_lists.proofs.listing.count_states.Given as goal

-- the product so far, kept within the bound, and that of the lists that are left
abbrev pub invariant-loop-list : goal.invariant-loop-list
invariant-loop-list l = record {
  bounded : l.count ≤ 65537;
  left : min (l.count * state_count (drop l.list-index l.lists)) 65537 ≡ min (state_count l.lists) 65537;
}
