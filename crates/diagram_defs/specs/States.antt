-- States as lists of indices.
use Rattle.std.specs.Prelude.{ℕ, List}
use Rattle.std.specs.Ordering.{nat_cmp}
use Rattle.std.specs.Cmp.Lexicographic.{slice_cmp}
use Rattle.std.specs.declared.cmp.Ordering.{Ordering}

-- states are compared index by index, in the order of the levels
abbrev pub state_cmp : List ℕ → List ℕ → Ordering
state_cmp = slice_cmp nat_cmp
