use Rattle.std.proofs.Common.{◌≡◌, ◌<◌, ◌≤◌, ◌+◌, filter, length}
use Rattle.script_scopes.specs.Marked.{marked}
use Rattle.script_scopes.specs.Units.{is_nesting_mark}
use Rattle.script_scopes.proofs.ChainLemmas.{chain}
use Rattle.script_scopes.proofs.units.nesting.Given as goal

-- those that were passed and those above make all
abbrev pub invariant-loop-at : goal.invariant-loop-at
invariant-loop-at l = record {
  within : l.at < length l.hierarchy.insts;
  few : l.count + l.at ≤ l.inst;
  all : l.count + length (filter (is_nesting_mark (marked l.hierarchy l.marks)) (chain l.hierarchy l.at))
      ≡ length (filter (is_nesting_mark (marked l.hierarchy l.marks)) (chain l.hierarchy l.inst));
}

abbrev pub decreases-loop-at : goal.decreases-loop-at
decreases-loop-at l = l.at
