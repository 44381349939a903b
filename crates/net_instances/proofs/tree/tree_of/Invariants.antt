use Rattle.std.proofs.Common.{◌≡◌, ◌≤◌, length}
use Rattle.net_instances.specs.Trees.{IsTree}
use Rattle.net_instances.proofs.tree.tree_of.Given as goal

abbrev pub invariant-loop-at : goal.invariant-loop-at
invariant-loop-at l = record {
  tree : IsTree l.modules l.types l.top l.rows l.firsts;
  count : length l.firsts ≡ l.at;
  -- all before the next one are there
  still : l.at ≤ length l.rows;
}
