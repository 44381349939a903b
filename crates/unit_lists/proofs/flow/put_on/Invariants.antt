use Rattle.std.proofs.Common.{◌≡◌, ◌++◌, map, take}
use Rattle.unit_lists.proofs.flow.put_on.Given as goal

abbrev pub invariant-loop-view : goal.invariant-loop-view
invariant-loop-view l = l.work.items ≡ l.initial.work.items ++ map (λ a. (a, l.value)) (take l.view-index l.views)
