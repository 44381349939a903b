-- What the names of a network stand for, each with its scope in front.
use Rattle.std.specs.Prelude.{◌≡◌, ℕ, List, ◌++◌, Option, Some, None, length, slice_get, option_and_then, unwrap_or, if◌then◌else◌}
use Rattle.std.specs.Int.{w32, to_be_bytes}
use Rattle.list_defs.specs.Members.{place_of, same_name}
use Rattle.supply_net.specs.declared.names.Object.{Object}

-- a name with its scope in front, as four bytes
abbrev pub scoped : ℕ → List ℕ → List ℕ
scoped scope name = to_be_bytes w32 scope ++ name

-- no name stands for anything
abbrev pub nothing : List ℕ → Option Object
nothing name = None

-- one name stands for this object, the others for what they stood for
abbrev pub with_object : List ℕ → Object → (List ℕ → Option Object) → List ℕ → Option Object
with_object name object objects other = if same_name name other then Some object else objects other

-- names by their places, with what each stands for
pub record NameTable : Type 0 where
  pub names : List (List ℕ)
  pub objects : List (Option Object)

-- what a name stands for, by its place
abbrev pub object_in : NameTable → List ℕ → Option Object
object_in t name = unwrap_or (option_and_then (slice_get t.objects) (place_of (same_name name) t.names)) None

-- each name has a place for its object
pub record AreNames (names : List (List ℕ)) (objects : List (Option Object)) : Type 0 where
  pub count : length objects ≡ length names
