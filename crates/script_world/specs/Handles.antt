-- The handles of domains, as script_defs knows them.
use Rattle.std.specs.Prelude.{◌≡◌, ℕ, ◌+◌, ◌<◌, true, List, length, take, drop, Option, option_map}
use Rattle.std.specs.List.{list_any, before_last, after_last}
use denote.Ref.{Bor}
use Rattle.script_defs.specs.LookUps.{HandleName as KnownHandle, is_dot}
use Rattle.script_world.specs.declared.handles.HandleName.{HandleName}
use Rattle.script_world.specs.declared.handles.HandleName.TheVariants.{Primary, DefaultIsolation}

abbrev pub handle_name_seen : HandleName → KnownHandle
handle_name_seen Primary = KnownHandle.primary
handle_name_seen DefaultIsolation = KnownHandle.default_isolation

-- the name of a domain with a handle
abbrev pub parts_seen : Option (Bor (List ℕ) × HandleName) → Option (List ℕ × KnownHandle)
parts_seen o = option_map (λ p. (p.0.now, handle_name_seen p.1)) o

-- the last dot of a name stands at a place
pub record IsLastDot (name : List ℕ) (at : ℕ) : Type 0 where
  pub within : at < length name
  pub has : list_any is_dot name ≡ true
  pub before : before_last is_dot name ≡ take at name
  pub after : after_last is_dot name ≡ drop (at + 1) name
