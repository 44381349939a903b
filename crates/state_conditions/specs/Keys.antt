-- States found by the name of their object and their own.
use Rattle.std.specs.Prelude.{◌≡◌, ℕ, List, ◌++◌, Option, length, slice_get}
use Rattle.std.specs.Int.{w64, to_be_bytes}
use Rattle.std.specs.Option.{option_and_then}
use Rattle.list_defs.specs.Members.{place_of, same_name}
use Rattle.pw_defs.specs.declared.terms.NamedState.{NamedState}
use Rattle.state_conditions.specs.declared.named.Found.{Found}

-- The name of an object and that of a state in one: the length of the first, as eight bytes, and both.
unfoldable pub key_of : List ℕ → List ℕ → List ℕ
key_of object state = to_be_bytes w64 (length object) ++ object ++ state

abbrev pub own_key : NamedState → List ℕ
own_key s = key_of s.object s.state

-- the number that is found for a key
abbrev pub first_in : Found → List ℕ → Option ℕ
first_in f key = option_and_then (slice_get f.firsts.items) (place_of (same_name key) f.keys)

-- for each key the place of the first state that has it is found, and nothing where none has it
pub record AreFound (states : List NamedState) (f : Found) : Type 0 where
  pub count : length f.firsts.items ≡ length f.keys
  pub firsts : (key : List ℕ) → first_in f key ≡ place_of (λ s. same_name key (own_key s)) states
