use Rattle.std.proofs.Common.{◌*◌, ◌+◌, ◌<◌, ℕ, length}
use Rattle.design_paths.specs.Ways.{HasNoneBehind}
use Rattle.design_paths.proofs.resolving.+names.Given as goal

-- what is behind a slash is shorter
abbrev pub decreases-named_below : goal.decreases-named_below
decreases-named_below l = 5 * length l.name.now + 4

abbrev pub decreases-named_deeper : goal.decreases-named_deeper
decreases-named_deeper l = 5 * length l.name.now + 3

abbrev pub decreases-named_behind : goal.decreases-named_behind
decreases-named_behind l = 5 * length l.name.now + 2

abbrev pub decreases-named_inside : goal.decreases-named_inside
decreases-named_inside l = 5 * length l.rest.now + 5

-- nothing stands behind the places so far
abbrev pub invariant-named_deeper-loop-at : goal.invariant-named_deeper-loop-at
invariant-named_deeper-loop-at l = (k : ℕ) → k < l.at → HasNoneBehind l.design l.inst l.name k
