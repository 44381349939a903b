-- Supply sets that are found by their names.
use Rattle.std.specs.Prelude.{ℕ, List, slice_get, unwrap_or}
use Rattle.std.specs.Option.{option_and_then}
use Rattle.pw_defs.specs.declared.intent.SupplySet.{SupplySet}
use Rattle.list_defs.specs.Members.{place_of, same_name}
use Rattle.form_intent.specs.Script.{no_set}

-- the set at the place of a name
abbrev pub set_at : List (List ℕ) → List SupplySet → List ℕ → SupplySet
set_at names sets name = unwrap_or (option_and_then (slice_get sets) (place_of (same_name name) names)) no_set
