use Rattle.std.proofs.Common.{◌≡◌, ◌+◌, ◌++◌, drop}
use Rattle.std.specs.List.{flat_map, enumerate_from}
use Rattle.form_design.specs.Hierarchy.{held_below}
use Rattle.form_design.proofs.hierarchy.below.Given as goal

-- what was added and the instances in the children that are left are all
abbrev pub invariant-loop-i : goal.invariant-loop-i
invariant-loop-i l =
    l.below.items ++ flat_map (held_below l.names l.modules) (enumerate_from (l.i + 1) (drop l.i l.children))
    ≡ flat_map (held_below l.names l.modules) (enumerate_from 1 l.children)
