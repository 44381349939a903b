use Rattle.std.proofs.Common.{map}
use Rattle.chains.proofs.Steps.{AreFirstWalks}
use Rattle.design_walks.specs.Ends.{AreEnds}
use Rattle.design_walks.specs.Trails.{next_bits, walk_of}
use Rattle.design_walks.proofs.building.starts.Given as goal

-- the walks that begin at the bits so far
abbrev pub invariant-loop-n : goal.invariant-loop-n
invariant-loop-n l = record {
  walks : AreFirstWalks l.design l.n (map (walk_of (next_bits l.design.bits)) l.starts);
  ends : AreEnds l.design.bits l.ends.items;
}
