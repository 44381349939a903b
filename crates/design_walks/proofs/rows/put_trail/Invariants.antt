use Rattle.std.proofs.Common.{◌≡◌, ◌++◌, ◌-◌, length}
use Rattle.design_walks.specs.Trails.{trail}
use Rattle.design_walks.proofs.rows.put_trail.Given as goal

-- what is left answers as the whole
abbrev pub invariant-loop : goal.invariant-loop
invariant-loop l = l.out ++ trail l.next (length l.next - l.counter) l.at ≡ l.fn.out ++ trail l.next (length l.next) l.start
