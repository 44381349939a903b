-- What the lines on domains make, and those that give sets to cells and ports.
use Rattle.std.specs.Prelude.{ℕ, List, [], ◌++◌, Option, None, Some, option_map, option_and_then, option_to_list, map, codes, if◌then◌else◌}
use Rattle.std.specs.List.{find, flat_map}
use Rattle.std.specs.Option.{option_or}
use Rattle.list_defs.specs.Members.{same_name}
use Rattle.design_defs.specs.Names.{joined}
use Rattle.script_defs.specs.Statements.{Statement, names_of, name_of, pairs_of, is_given, subject_of}
use Rattle.script_defs.specs.World.{Body, Handle, SetLine, Frame, World}
use Rattle.script_defs.specs.LookUps.{body_named, set_at}
use Rattle.script_defs.specs.Merging.{joined_clauses}
use Rattle.script_defs.specs.Uses.{origin_of}
use Rattle.script_defs.specs.SupplySteps.{with_object, after_body, object_of, target_of, given_by, no_states}

-- the handle that a line gives by `-supply {KEY SET}`
abbrev pub handle_given : World → Frame → Statement → List ℕ → Option Handle
handle_given w f s key =
    option_map (λ set. record { set = set; line = s.line })
    (option_and_then (λ (p : List ℕ × List ℕ). set_at w (joined f.scope p.1)) (find (λ (p : List ℕ × List ℕ). same_name key p.0) (pairs_of
    (codes "-supply") s.clauses)))

-- a new domain, with its options and the sets of its handles
abbrev pub new_domain : World → Frame → Statement → Body
new_domain w f s = Body.domain (given_by f s) (handle_given w f s (codes "primary")) (handle_given w f s (codes "default_isolation")) no_states

-- a domain with the options of an update; a handle that has a set keeps it
abbrev pub updated_domain : World → Frame → Statement → Option Body → Option Body
updated_domain w f s (Some (Body.domain given primary isolation states)) =
    Some (Body.domain (joined_clauses given (given_by f s)) (option_or primary (handle_given w f s (codes "primary"))) (option_or isolation
    (handle_given w f s (codes "default_isolation"))) states)
updated_domain w f s _ = None

-- a domain is made, or added to
abbrev pub after_domain : World → Frame → Statement → World
after_domain w f s =
    if is_given (codes "-update") s.clauses then after_body w (target_of f s) (updated_domain w f s (body_named w (target_of f s)))
    else with_object w (object_of f s (new_domain w f s))

-- a set for each of the places that an option names
abbrev pub set_lines : World → Frame → Statement → List ℕ → Option (List ℕ) → List SetLine
set_lines w f s option None = []
set_lines w f s option (Some word) =
    flat_map
    (λ set. map (λ place. record { place = joined f.scope place; set = set; origin = origin_of f s }) (names_of option s.clauses))
    (option_to_list (set_at w (joined f.scope word)))

-- the leaf cells of a line get its set
abbrev pub after_cell_sets : World → Frame → Statement → World
after_cell_sets w f s = record w { cell_sets = w.cell_sets ++ set_lines w f s (codes "-elements") (Some (subject_of s)) }

-- the ports of a line get its driver and receiver supplies
abbrev pub after_port_sets : World → Frame → Statement → World
after_port_sets w f s = record w {
  driver_sets = w.driver_sets ++ set_lines w f s (codes "-ports") (name_of (codes "-driver_supply") s.clauses);
  receiver_sets = w.receiver_sets ++ set_lines w f s (codes "-ports") (name_of (codes "-receiver_supply") s.clauses);
}
