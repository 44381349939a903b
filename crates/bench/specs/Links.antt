-- How many supplies there are, and how they are joined.
use Rattle.std.specs.Prelude.{ℕ, ◌+◌, ◌*◌, ◌≤◌, Bool, not, ◌&&◌, ◌||◌}
use Rattle.pw_defs.specs.declared.values.Value.{Value}
use Rattle.pw_defs.specs.Values.{is_on}
use Rattle.bench.specs.declared.sets.Task.{Task}
use Rattle.bench.specs.declared.sets.Task.TheVariants.{Joined, Gathered, Modes, Random}
use Rattle.bench.specs.declared.joined.Link.{Link}
use Rattle.bench.specs.declared.joined.Link.TheVariants.{Beside, Behind, Chain}

-- the supplies of so many links
abbrev pub levels_of : Link → ℕ → ℕ
levels_of Beside count = 2 * count
levels_of Behind count = 2 * count
levels_of Chain count = count + 1

-- a table may have as many supplies
abbrev pub MayRun : Task → Type 0
MayRun (Joined link count) = (count ≤ 1000000) × (levels_of link count ≤ 1024)
MayRun (Gathered link count) = (count ≤ 1000000) × (levels_of link count ≤ 1024)
MayRun (Modes roots modes) = roots ≤ 1024
MayRun (Random size) = Unit {0}

-- the two supplies of the link of a number
abbrev pub first_of : Link → ℕ → ℕ → ℕ
first_of Beside count at = 2 * at
first_of Behind count at = at
first_of Chain count at = at

abbrev pub second_of : Link → ℕ → ℕ → ℕ
second_of Beside count at = 2 * at + 1
second_of Behind count at = count + at
second_of Chain count at = at + 1

-- both are on, or none is
abbrev pub are_alike : Value → Value → Bool
are_alike a b = (is_on a && is_on b) || not (is_on a || is_on b)

-- the second is on only where the first is
abbrev pub is_after : Value → Value → Bool
is_after a b = not (is_on b) || is_on a

-- whether a link holds of two values
abbrev pub is_linked : Link → Value → Value → Bool
is_linked Beside a b = are_alike a b
is_linked Behind a b = are_alike a b
is_linked Chain a b = is_after a b
