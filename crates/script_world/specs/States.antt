-- Changes of the states of an object.
use Rattle.std.specs.Prelude.{◌≡◌, ℕ, [], ◌∷◌, ◌++◌, Some}
use Rattle.std.specs.Option.{option_or}
use Rattle.script_defs.specs.World.{Expression as MadeExpression, PowerState}
use Rattle.script_world.specs.declared.states.PowerStates.{PowerStates}
use Rattle.script_world.specs.Seen.{rows_of}

-- a state that a line marks legal or illegal; the first line counts
abbrev pub marked_legal : ℕ → PowerState → PowerState
marked_legal line st = record st { legal = option_or st.legal (Some line) }

abbrev pub marked_illegal : ℕ → PowerState → PowerState
marked_illegal line st = record st { illegal = option_or st.illegal (Some line) }

-- a state with one more expression
abbrev pub with_expression : MadeExpression → PowerState → PowerState
with_expression e st = record st { expressions = st.expressions ++ e ∷ [] }

-- the states are those that were there
pub record HasSame (old new : PowerStates) : Type 0 where
  pub rows : rows_of new ≡ rows_of old
  pub complete : new.complete ≡ old.complete
