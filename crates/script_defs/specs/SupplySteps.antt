-- What the lines on supplies make: ports, nets, their joinings, sets and switches.
use Rattle.std.specs.Prelude.{ℕ, List, [], ◌∷◌, ◌++◌, Option, None, Some, option_map, option_and_then, unwrap_or, is_some, map, codes, if◌then◌else◌}
use Rattle.std.specs.List.{list_any, after_last}
use Rattle.pw_defs.specs.declared.design.Design.{Design}
use Rattle.pw_defs.specs.declared.supplies.SupplyKind.{SupplyKind}
use Rattle.pw_defs.specs.declared.supplies.SupplyKind.TheVariants.{InPort, OutPort, Net}
use Rattle.list_defs.specs.Members.{same_name}
use Rattle.design_defs.specs.Names.{joined}
use Rattle.script_defs.specs.Statements.{Statement, names_of, name_of, pairs_of, is_given, subject_of, first_of}
use Rattle.script_defs.specs.World.{Body, GivenClause, Handle, PowerStates, Object, Frame, World}
use Rattle.script_defs.specs.LookUps.{HandleName, body_named, object_at, whole_name, is_taken, handle_in, handle_at, set_at, is_dot}
use Rattle.script_defs.specs.Uses.{origin_of}
use Rattle.script_defs.specs.Merging.{joined_clauses}
use Rattle.script_defs.specs.Joinings.{joinings_of, with_links}

-- the world with one more object
abbrev pub with_object : World → Object → World
with_object w o = record w { objects = w.objects ++ o ∷ [] }

-- the world with another body at the object of a name
abbrev pub with_body : World → List ℕ → Body → World
with_body w name body = record w { objects = map (λ o. if same_name name (whole_name o) then record o { body = body } else o) w.objects }

-- what a line makes under its own first word, in the scope of the line
abbrev pub object_of : Frame → Statement → Body → Object
object_of f s body = record { scope = f.scope; name = subject_of s; origin = origin_of f s; body = body }

-- the whole name of what a line's first own word names
abbrev pub target_of : Frame → Statement → List ℕ
target_of f s = joined f.scope (subject_of s)

-- the options of a line, as given from its scope
abbrev pub given_by : Frame → Statement → List GivenClause
given_by f s = map (λ c. record { clause = c; scope = f.scope; origin = origin_of f s }) s.clauses

abbrev pub no_states : PowerStates
no_states = record { states = []; complete = None }

-- a port is an input where its line says nothing else
abbrev pub port_kind : Statement → SupplyKind
port_kind s = if list_any (same_name (codes "out")) (names_of (codes "-direction") s.clauses) then OutPort else InPort

-- A port is a new object, or makes the net of that name a port. Ports are declared in order of these lines.
abbrev pub after_port : World → Frame → Statement → World
after_port w f s =
    let v = record w { ports = w.ports ++ target_of f s ∷ [] } in
    if is_taken w (target_of f s) then with_body v (target_of f s) (Body.supply (port_kind s)) else with_object v (object_of f s (Body.supply (port_kind s)))

-- a net is a new object, or the port of that name
abbrev pub after_net : World → Frame → Statement → World
after_net w f s = if is_taken w (target_of f s) then w else with_object w (object_of f s (Body.supply Net))

-- the body of a set, domain or strategy with the options of an update
abbrev pub updated_body : List GivenClause → Option Body → Option Body
updated_body more (Some (Body.set given states)) = Some (Body.set (joined_clauses given more) states)
updated_body more (Some (Body.strategy tool given)) = Some (Body.strategy tool (joined_clauses given more))
updated_body more _ = None

abbrev pub after_body : World → List ℕ → Option Body → World
after_body w name None = w
after_body w name (Some body) = with_body w name body

-- the world with the options of an update at the object of a name
abbrev pub after_update : World → List ℕ → List GivenClause → World
after_update w name more = after_body w name (updated_body more (body_named w name))

-- the domain with a set as one of its handles
abbrev pub with_handle : HandleName → Handle → Option Body → Option Body
with_handle HandleName.primary h (Some (Body.domain given p i states)) = Some (Body.domain given (Some h) i states)
with_handle HandleName.default_isolation h (Some (Body.domain given p i states)) = Some (Body.domain given p (Some h) states)
with_handle _ h _ = None

-- the world where the domain of a name has a set as one of its handles, given at a line
abbrev pub after_handle : World → List ℕ × HandleName → List ℕ → ℕ → World
after_handle w h set line = after_body w h.0 (with_handle h.1 (record { set = set; line = line }) (body_named w h.0))

-- a set that an update makes for a handle without a set: it stands beside the domain, under the handle's name
abbrev pub handle_set : Frame → Statement → Object → Object
handle_set f s domain =
    record (object_of f s (Body.set (given_by f s) no_states)) { scope = domain.scope; name = domain.name ++ 46 ∷ after_last is_dot (subject_of s) }

abbrev pub after_new_handle_set : World → Frame → Statement → List ℕ × HandleName → Option Object → World
after_new_handle_set w f s h None = w
after_new_handle_set w f s h (Some domain) = after_handle (with_object w (handle_set f s domain)) h (whole_name (handle_set f s domain)) s.line

-- the line of a handle makes its set, or adds to the set that it has
abbrev pub after_handle_set : World → Frame → Statement → List ℕ × HandleName → Option (List ℕ) → World
after_handle_set w f s h (Some set) = after_update w set (given_by f s)
after_handle_set w f s h None = after_new_handle_set w f s h (object_at w h.0)

abbrev pub after_set_of : World → Frame → Statement → Option (List ℕ × HandleName) → World
after_set_of w f s (Some h) = after_handle_set w f s h (option_map (λ x. x.set) (handle_at w h))
after_set_of w f s None =
    if is_given (codes "-update") s.clauses then after_update w (target_of f s) (given_by f s)
    else with_object w (object_of f s (Body.set (given_by f s) no_states))

-- a set is made or added to; D.primary and D.default_isolation stand for the sets of the domain D
abbrev pub after_set : World → Frame → Statement → World
after_set w f s = after_set_of w f s (handle_in (target_of f s))

abbrev pub after_association_of : World → Statement → Option (List ℕ × HandleName) → Option (List ℕ) → World
after_association_of w s (Some h) (Some set) = if is_some (handle_at w h) then w else after_handle w h set s.line
after_association_of w s _ _ = w

-- a handle gets a set, where it has none
abbrev pub after_association : World → Frame → Statement → World
after_association w f s =
    after_association_of w s (option_and_then (λ word. handle_in (joined f.scope word)) (name_of (codes "-handle") s.clauses)) (set_at w (target_of f s))

-- the name of the output port, the names of the input ports, and the inputs that on states name
abbrev pub switch_body : Statement → Body
switch_body s =
    Body.switch
    (unwrap_or (first_of (map (λ (p : List ℕ × List ℕ). p.0) (pairs_of (codes "-output_supply_port") s.clauses))) [])
    (map (λ (p : List ℕ × List ℕ). p.0) (pairs_of (codes "-input_supply_port") s.clauses))
    (map (λ (p : List ℕ × List ℕ). p.1) (pairs_of (codes "-on_state") s.clauses))

-- the world with the joinings of a line
abbrev pub after_joinings : Design → World → Frame → Statement → World
after_joinings d w f s = record w { links = with_links w.links (joinings_of d w f s) }

-- a switch is a new object, whose ports are joined to their nets
abbrev pub after_switch : Design → World → Frame → Statement → World
after_switch d w f s = with_object (after_joinings d w f s) (object_of f s (switch_body s))
