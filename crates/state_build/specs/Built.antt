-- The whole states, as indices into lists of values, at which a condition holds.
use Rattle.std.specs.Prelude.{ℕ, Bool, ◌&&◌, List, [], slice_index, slice_index_or}
use Rattle.pw_defs.specs.declared.values.Value.{Value}
use Rattle.pw_defs.specs.declared.values.Value.TheVariants.{Off}
use Rattle.pw_defs.specs.declared.conditions.Cond.{Cond}
use Rattle.supply_defs.specs.Conditions.{holds}
use Rattle.pw_defs.specs.declared.conditions.Cond.TheVariants.{All, Any}
use Rattle.diagram_defs.specs.Rests.{is_rest}
use Rattle.diagram_defs.specs.declared.quantifiers.Quantifier.{Quantifier}
use Rattle.diagram_defs.specs.declared.quantifiers.Quantifier.TheVariants as which

-- the value that an index stands for at a level
abbrev pub value_at : List (List Value) → ℕ → ℕ → Value
value_at lists level index = slice_index_or (slice_index_or lists level []) index Off

-- the value of each level in a state of indices
abbrev pub value_of : List (List Value) → List ℕ → ℕ → Value
value_of lists state level = value_at lists level (slice_index state level)

-- whether a list of indices is a whole state at which the condition holds
abbrev pub built_set : List ℕ → List (List Value) → Cond → List ℕ → Bool
built_set arities lists cond state = is_rest arities state && holds (value_of lists state) cond

-- the condition that all of some conditions hold, or any of them
abbrev pub joined_cond : Quantifier → List Cond → Cond
joined_cond which.All conds = All conds
joined_cond which.Any conds = Any conds
