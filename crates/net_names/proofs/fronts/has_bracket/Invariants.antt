use Rattle.std.proofs.Common.{◌≡◌, ◌<◌, ℕ, Some, slice_get, take}
use Rattle.list_defs.specs.Members.{IsIn}
use Rattle.net_names.proofs.fronts.has_bracket.Given as goal

abbrev pub invariant-loop-at : goal.invariant-loop-at
invariant-loop-at l = (k : ℕ) → k < l.at → slice_get l.name k ≡ Some 91 → IsIn (take k l.name) l.index → ⊥
