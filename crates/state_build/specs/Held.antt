-- All whole states, and none.
use Rattle.std.specs.Prelude.{ℕ, Bool, false, List}
use Rattle.diagram_defs.specs.Rests.{is_rest}

-- every whole state
abbrev pub all_states : List ℕ → List ℕ → Bool
all_states arities state = is_rest arities state

-- no state at all
abbrev pub no_states : List ℕ → Bool
no_states state = false
