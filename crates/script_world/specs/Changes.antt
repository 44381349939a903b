-- Changes of bodies.
use Rattle.std.specs.Prelude.{ℕ, Bool, true, false, List, [], ◌∷◌, ◌++◌, Option, Some, option_map, slice_get}
use Rattle.pw_defs.specs.declared.values.Value.{Value}
use Rattle.script_defs.specs.World.{Body as MadeBody, Object}
use Rattle.script_defs.specs.StateSteps.{columns_in, rows_in}
use Rattle.script_world.specs.declared.bodies.Body.{Body}
use Rattle.script_world.specs.declared.bodies.Body.TheVariants.{Table}
use Rattle.script_world.specs.Seen.{row_seen}

-- the body of an object by its number
abbrev pub body_at : List Object → ℕ → Option MadeBody
body_at objects at = option_map (λ o. o.body) (slice_get objects at)

-- whether an object can have power states
abbrev pub has_states : Option MadeBody → Bool
has_states (Some (MadeBody.set given states)) = true
has_states (Some (MadeBody.domain given primary isolation states)) = true
has_states (Some (MadeBody.group states)) = true
has_states _ = false

-- the rows of a table, each with its name
abbrev pub table_rows : Body → List (List ℕ × List (Option Value))
table_rows (Table b) = b.value.rows
table_rows _ = []

-- the table with one row more
abbrev pub with_table_row : List ℕ × List (Option Value) → Option MadeBody → MadeBody
with_table_row row b = MadeBody.table (columns_in b) (rows_in b ++ row_seen row ∷ [])
