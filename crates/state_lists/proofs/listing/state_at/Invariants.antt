use Rattle.std.proofs.Common.{◌≡◌, ◌<◌, [], ◌++◌, drop, length, slice_index_or}
use Rattle.supply_defs.specs.States.{all_states, state_count}
use Rattle.state_lists.proofs.listing.state_at.Given as goal

-- the values so far and the state with the rest of the number, of the lists that are left, make the state
abbrev pub invariant-loop-list : goal.invariant-loop-list
invariant-loop-list l = record {
  count : length l.values.items ≡ l.list-index;
  block : l.block ≡ state_count (drop l.list-index l.lists);
  within : l.rest < l.block;
  value : l.values.items ++ slice_index_or (all_states (drop l.list-index l.lists)) l.rest [] ≡ slice_index_or (all_states l.lists) l.number [];
}
