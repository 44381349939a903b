-- The names that a line uses, in order: those of its own words, then those of its options. A name is known where
-- something of the wanted kind has it.
use Rattle.std.specs.Prelude.{ℕ, Bool, true, false, not, ◌&&◌, ◌||◌, List, [], ◌∷◌, ◌++◌, Option, None, Some, option_and_then, is_some, option_to_list, map, codes, if◌then◌else◌}
use Rattle.std.specs.List.{list_any, before_last, flat_map}
use Rattle.pw_defs.specs.declared.design.Design.{Design}
use Rattle.pw_defs.specs.declared.strategies.Tool.{Tool}
use Rattle.list_defs.specs.Members.{same_name}
use Rattle.design_defs.specs.Names.{joined}
use Rattle.script_defs.specs.Statements.{Clause, Statement, is_given, is_command, subject_of}
use Rattle.script_defs.specs.World.{Naming, Origin, Use, Frame, World}
use Rattle.script_defs.specs.Scopes.{body_at, is_leaf_cell, is_modelled, at_or_above, is_one_of, path_from, begins_below}
use Rattle.script_defs.specs.LookUps.{object_at, is_dot, body_named, is_domain, is_table, is_group, is_strategy_for, is_power_model, is_taken, set_at, handle_in}
use Rattle.script_defs.specs.DesignParts.{part_at, part_from, body_of_part, is_whole_port}
use Rattle.script_defs.specs.Supplies.{supply_at, port_dir, is_switch_kind, column_at, modelled}
use Rattle.script_defs.specs.Namings.{naming_in, words_of, objects_named}

-- the line that a frame runs
abbrev pub origin_of : Frame → Statement → Origin
origin_of f s = record { file = f.file; line = s.line; home = f.home }

abbrev pub use_as : Frame → Statement → Naming → List ℕ → Use
use_as f s naming word = record { naming = naming; word = word; scope = f.scope; origin = origin_of f s }

-- which kind of object has the states that a line adds
abbrev pub states_naming : Statement → Naming
states_naming s =
    if is_given (codes "-supply") s.clauses then Naming.set
    else (if is_given (codes "-domain") s.clauses then Naming.domain else (if is_given (codes "-group") s.clauses then Naming.group else Naming.object))

-- the kind of object that an update adds to
abbrev pub updated_naming : Statement → Option Naming
updated_naming s =
    if is_command (codes "create_supply_set") s then Some Naming.set
    else (if is_command (codes "create_power_domain") s then Some Naming.domain
    else (if is_command (codes "set_isolation") s then Some Naming.isolation
    else (if is_command (codes "set_level_shifter") s then Some Naming.shifting else None)))

-- what the first own word has to name, where it names something that is there already
abbrev pub subject_naming : Statement → Option Naming
subject_naming s =
    if is_command (codes "add_power_state") s then Some (states_naming s)
    else (if is_command (codes "set_scope") s && same_name (subject_of s) (codes "/") then None
    else (if is_command (codes "create_supply_set") s && is_some (handle_in (subject_of s))
    then Some (if is_given (codes "-update") s.clauses then Naming.handle else Naming.set)
    else (if is_given (codes "-update") s.clauses then updated_naming s else naming_in s.name [])))

abbrev pub subject_uses : Frame → Statement → Option Naming → List Use
subject_uses f s None = []
subject_uses f s (Some naming) = use_as f s naming (subject_of s) ∷ []

abbrev pub clause_uses : Frame → Statement → Clause → Option Naming → List Use
clause_uses f s c None = []
clause_uses f s c (Some naming) = map (use_as f s naming) (words_of c)

-- the objects whose states a clause names; the logic expressions of a set are not read
abbrev pub object_uses : Frame → World → Statement → Clause → List Use
object_uses f w s c = if is_some (set_at w (joined f.scope (subject_of s))) then [] else map (use_as f s Naming.object) (objects_named c)

-- the names that a line uses, in order
abbrev pub uses_of : Frame → World → Statement → List Use
uses_of f w s =
    subject_uses f s (subject_naming s)
    ++ flat_map (λ c. clause_uses f s c (naming_in s.name c.option) ++ object_uses f w s c) s.clauses

-- what a used name stands for is a part of the design
abbrev pub is_of_design : Naming → Bool
is_of_design Naming.scope = true
is_of_design Naming.next_scope = true
is_of_design Naming.instance = true
is_of_design Naming.cell = true
is_of_design Naming.part = true
is_of_design Naming.port = true
is_of_design _ = false

-- the whole name of a used name, as it is looked up
abbrev pub used_name : Use → List ℕ
used_name u = if is_of_design u.naming then path_from u.scope u.word else joined u.scope u.word

-- the name as written with the path of its scope in front
abbrev pub joined_word : Use → List ℕ
joined_word u = joined u.scope u.word

-- the scopes of the objects and supplies that have a name, or that it is a handle or a function of
abbrev pub scopes_named : Design → World → List ℕ → List (List ℕ)
scopes_named d w name =
    map (λ o. o.scope) (option_to_list (object_at w name)) ++ map (λ e. e.scope) (option_to_list (supply_at d w name))
    ++ map (λ o. o.scope) (option_to_list (object_at w (before_last is_dot name)))
    ++ map (λ o. o.scope) (option_to_list (object_at w (before_last is_dot (before_last is_dot name))))

-- whether what has the name stands in the scope of its line or further in
abbrev pub is_in_reach : Design → World → Use → Bool
is_in_reach d w u = list_any (λ scope. is_one_of u.scope (at_or_above d scope)) (scopes_named d w (used_name u))

-- whether the name stands for a part of the design of the wanted kind
abbrev pub is_known_part : Design → Use → Bool
is_known_part d u =
    let part = part_from d u.scope u.word in
    elim u.naming as (λ n. Bool) [
      | Naming.scope ↦ is_some (body_of_part d part) && not (is_leaf_cell (body_of_part d part))
      | Naming.next_scope ↦ is_some (body_of_part d part) && not (is_leaf_cell (body_of_part d part))
      | Naming.instance ↦ is_some (body_of_part d part)
      | Naming.cell ↦ is_leaf_cell (body_of_part d part)
      | Naming.port ↦ is_whole_port d part
      | _ ↦ is_some part
    ]

-- whether the name stands for an object or a supply of the wanted kind
abbrev pub is_known_object : Design → World → Use → Bool
is_known_object d w u =
    let name = used_name u in
    let body = body_named w name in
    elim u.naming as (λ n. Bool) [
      | Naming.net ↦ list_any (λ e. not (is_switch_kind e.kind)) (option_to_list (supply_at d w name))
      | Naming.supply_port ↦ is_some (option_and_then port_dir (supply_at d w name))
      | Naming.supply ↦ is_some (supply_at d w name)
      | Naming.column ↦ is_some (column_at d w name)
      | Naming.set ↦ is_some (set_at w name)
      | Naming.lower_set ↦ is_some (set_at w name)
      | Naming.handle ↦ is_some (handle_in name) && is_domain (option_and_then (λ h. body_named w h.0) (handle_in name))
      | Naming.domain ↦ is_domain body
      | Naming.source ↦ is_some (set_at w name) || is_domain body
      | Naming.object ↦ is_some (set_at w name) || is_domain body || is_group body
      | Naming.group ↦ is_group body
      | Naming.table ↦ is_table body
      | Naming.isolation ↦ is_strategy_for Tool.Iso body
      | Naming.shifting ↦ is_strategy_for Tool.Shift body
      | Naming.power_model ↦ is_power_model body
      | _ ↦ false
    ]

-- Whether a name stands for something of the wanted kind, in the scope of its line or further in.
abbrev pub is_known : Design → World → Use → Bool
is_known d w u = if is_of_design u.naming then is_known_part d u else is_known_object d w u && is_in_reach d w u

-- whether anything at all has the name
abbrev pub is_anything : Design → World → List ℕ → Bool
is_anything d w name = is_some (body_at d name) || is_some (part_at d name) || is_taken w name || is_some (supply_at d w name)

abbrev pub is_next_scope : Naming → Bool
is_next_scope Naming.next_scope = true
is_next_scope _ = false

-- Whether a name is hidden by a model: nothing has it and it stands below an instance that a model stands for, or such an
-- instance would become the scope.
abbrev pub is_hidden : Design → World → Use → Bool
is_hidden d w u =
    not (is_anything d w (used_name u)) && list_any (λ m. begins_below m.0 (used_name u)) (modelled d)
    || is_next_scope u.naming && is_modelled d (used_name u)
