use Rattle.std.proofs.Common.{◌≡◌, ◌<◌, length}
use Rattle.std.specs.List.{find}
use Rattle.script_defs.specs.Scopes.{is_soft_macro}
use Rattle.script_scopes.specs.Marked.{marked}
use Rattle.script_scopes.proofs.ChainLemmas.{chain}
use Rattle.script_scopes.proofs.units.unit_of.Given as goal

-- no soft macro was passed
abbrev pub invariant-loop-at : goal.invariant-loop-at
invariant-loop-at l = record {
  within : l.at < length l.hierarchy.insts;
  same : find (is_soft_macro l.hierarchy (marked l.hierarchy l.marks)) (chain l.hierarchy l.at) ≡ find (is_soft_macro l.hierarchy (marked l.hierarchy l.marks)) (chain l.hierarchy l.inst);
}

abbrev pub decreases-loop-at : goal.decreases-loop-at
decreases-loop-at l = l.at
