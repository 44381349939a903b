-- The roots of a whole network, and how many roots and values there may be.
use Rattle.std.specs.Prelude.{ℕ, ◌≤◌, List, [], length}
use Rattle.std.specs.Ordering.{nat_cmp}
use Rattle.pw_defs.specs.declared.intent.RootList.{RootList}
use Rattle.pw_defs.specs.declared.intent.Unit.{Unit as PowerUnit}
use Rattle.pw_defs.specs.declared.supplies.Supply.{Supply}
use Rattle.list_defs.specs.Orders.{AreAllRising}
use Rattle.supply_defs.specs.Network.{IsRoot}
use Rattle.supply_defs.specs.UnitLists.{IsJobList}

-- a root of the whole network: feeders end there, and no unit stops them before
abbrev pub IsFlatRoot : List Supply → ℕ → Type 0
IsFlatRoot supplies root = IsRoot supplies [] root root

-- the roots of the whole network, by number
abbrev pub AreFlatRoots : List Supply → List ℕ → Type 0
AreFlatRoots supplies = AreAllRising nat_cmp (IsFlatRoot supplies)

-- there are at most 1,024 roots
abbrev pub HasFewRoots : List Supply → Type 0
HasFewRoots supplies = (roots : List ℕ) × AreFlatRoots supplies roots × (length roots ≤ 1024)

-- each root has at most 64 values in the whole job
abbrev pub HasFewValues : List Supply → List PowerUnit → List RootList → Type 0
HasFewValues supplies units lists = (root : ℕ) (l : RootList) → IsFlatRoot supplies root → IsJobList units lists root l → length l.values ≤ 64
