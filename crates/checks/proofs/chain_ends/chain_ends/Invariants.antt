use Rattle.std.proofs.Common.{◌≡◌, ◌++◌, map, drop}
use Rattle.std.specs.List.{filter_map}
use Rattle.checks.specs.LineChains.{chain_of, chains}
use Rattle.checks.specs.Ends.{ends_of}
use Rattle.checks.proofs.chain_ends.chain_ends.Given as goal

-- those so far and those that are left are all
abbrev pub invariant-loop-walk : goal.invariant-loop-walk
invariant-loop-walk l = map ends_of l.all ++ filter_map (chain_of l.design) (drop l.walk-index l.walks) ≡ chains l.design l.walks
