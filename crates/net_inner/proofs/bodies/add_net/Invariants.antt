use Rattle.std.proofs.Common.{◌≡◌, ℕ, List, ◌++◌, Some, map, slice_get}
use Rattle.std.specs.List.{range_with_len}
use Rattle.design_defs.specs.Hierarchy.{Sources}
use Rattle.design_defs.specs.Ranges.{bit_name}
use Rattle.net_places.specs.Plans.{names_in}
use Rattle.net_inner.specs.Inside.{HasPlans}
use Rattle.net_inner.proofs.bodies.add_net.Given as goal

abbrev pub invariant-loop-place : goal.invariant-loop-place
invariant-loop-place l = (s : Sources) → HasPlans s l.placed → (name : List ℕ) → slice_get (names_in l.placed.modules.now.symbols s l.body) l.net.name ≡ Some name
    → l.index ≡ l.initial.index ++ map (bit_name name l.net.range) (range_with_len 0 l.place)
