-- The objects of a world, and what the rows of objects stand for.
use Rattle.std.specs.Prelude.{◌≡◌, ℕ, ◌+◌, ◌<◌, Bool, List, [], ◌∷◌, ◌++◌, map, length, drop, slice_get, Option, option_map}
use Rattle.std.specs.List.{All}
use Rattle.list_defs.specs.Members.{same_name}
use Rattle.design_defs.specs.Names.{joined}
use Rattle.named_rows.specs.Rows.{names_in}
use Rattle.script_defs.specs.World.{Object, World}
use Rattle.script_defs.specs.LookUps.{whole_name}
use Rattle.script_world.specs.declared.bodies.Body.{Body}
use Rattle.script_world.specs.declared.bodies.ObjectRow.{ObjectRow}
use Rattle.script_world.specs.declared.parts.Origin.{Origin}
use Rattle.script_world.specs.Ranges.{IsBody, IsOrigin}
use Rattle.script_world.specs.Seen.{Known, body_seen, name_at, origin_seen}

-- places by number, and objects in the order of making
pub record Places : Type 0 where
  pub places : List (List ℕ)
  pub objects : List Object

-- the world in which nothing but these objects was made
abbrev pub world_of : List Object → World
world_of objects = record {
  objects = objects;
  links = [];
  stated = [];
  cell_sets = [];
  driver_sets = [];
  receiver_sets = [];
  ports = [];
  marks = [];
  passed = [];
  uses = [];
  lines = 0;
}

-- the names behind the numbers of places and objects
abbrev pub known_in : Places → Known
known_in p = record { places = p.places; objects = map whole_name p.objects }

abbrev pub is_named : List ℕ → Object → Bool
is_named name o = same_name name (whole_name o)

-- the whole name of an object by its number
abbrev pub named_at : List Object → ℕ → Option (List ℕ)
named_at objects at = option_map whole_name (slice_get objects at)

-- the simple name in a whole one: what stands behind the path of the scope
abbrev pub simple_name : List ℕ → List ℕ → List ℕ
simple_name [] whole = whole
simple_name (c ∷ cs) whole = drop (length (c ∷ cs) + 1) whole

-- an object by its whole name and its row
abbrev pub object_seen : Known → List ℕ × ObjectRow → Object
object_seen k p =
    let scope = name_at k.places p.1.scope in
    record { scope = scope; name = simple_name scope p.0; origin = origin_seen k.places p.1.origin; body = body_seen k p.1.body }

-- the object that a body makes under a whole name in a scope
abbrev pub made_object : Places → ℕ → List ℕ → Origin → Body → Object
made_object p scope whole origin body =
    let path = name_at p.places scope in
    record { scope = path; name = simple_name path whole; origin = origin_seen p.places origin; body = body_seen (known_in p) body }

-- a whole name begins with the path of its scope
abbrev pub IsNamed : List ℕ → List ℕ → Type 0
IsNamed scope whole = joined scope (simple_name scope whole) ≡ whole

abbrev pub known_by : List (List ℕ) → List (List ℕ × ObjectRow) → Known
known_by places rows = record { places = places; objects = names_in rows }

abbrev pub objects_seen : List (List ℕ) → List (List ℕ × ObjectRow) → Places
objects_seen places rows = record { places = places; objects = map (object_seen (known_by places rows)) rows }

-- the numbers of a row are those of places and objects, and its whole name begins with the path of its scope
pub record IsRow (k : Known) (p : List ℕ × ObjectRow) : Type 0 where
  pub scope : p.1.scope < length k.places
  pub named : IsNamed (name_at k.places p.1.scope) p.0
  pub origin : IsOrigin k.places p.1.origin
  pub body : IsBody k p.1.body

abbrev pub AreRows : List (List ℕ) → List (List ℕ × ObjectRow) → Type 0
AreRows places rows = All (IsRow (known_by places rows)) rows

-- there are more behind them
abbrev pub Extends : {X : Type 0} → List X → List X → Type 0
Extends {X} old new = (more : List X) × (new ≡ old ++ more)
