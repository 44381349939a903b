-- What `add_power_state` makes: states of sets, domains and groups, option by option.
use Rattle.std.specs.Prelude.{ℕ, zero, suc, Bool, true, false, List, [], ◌∷◌, ◌++◌, Option, None, Some, option_map, unwrap_or, is_some, option_to_list, map, codes, if◌then◌else◌}
use Rattle.std.specs.List.{list_any, find, flat_map, scan, fold}
use Rattle.std.specs.Option.{option_or}
use Rattle.pw_defs.specs.declared.terms.Term.{Term}
use Rattle.list_defs.specs.Members.{same_name}
use Rattle.design_defs.specs.Names.{joined}
use Rattle.script_defs.specs.Statements.{Clause, Statement, StateOption, clauses_of, described_in, is_given}
use Rattle.script_defs.specs.World.{Body, Expression, PowerState, PowerStates, Frame, World}
use Rattle.script_defs.specs.LookUps.{body_named, whole_name, is_set, set_at}
use Rattle.script_defs.specs.Namings.{states_in}
use Rattle.script_defs.specs.Uses.{origin_of}
use Rattle.script_defs.specs.SupplySteps.{no_states, after_body, target_of}

-- a state with its own options, as an option of a line describes it
abbrev pub Described : Type 0
Described = List ℕ × List StateOption

abbrev pub states_of : Option Body → PowerStates
states_of (Some (Body.set given states)) = states
states_of (Some (Body.domain given primary isolation states)) = states
states_of (Some (Body.group states)) = states
states_of _ = no_states

abbrev pub with_states : PowerStates → Option Body → Option Body
with_states states (Some (Body.set given old)) = Some (Body.set given states)
with_states states (Some (Body.domain given primary isolation old)) = Some (Body.domain given primary isolation states)
with_states states (Some (Body.group old)) = Some (Body.group states)
with_states states _ = None

-- the whole name of the object whose states a word names: a handle stands for its set
abbrev pub stateful : World → List ℕ → List ℕ
stateful w name = unwrap_or (set_at w name) name

abbrev pub states_at : World → List ℕ → PowerStates
states_at w object = states_of (body_named w object)

-- the state of a name
abbrev pub state_named : PowerStates → List ℕ → Option PowerState
state_named states name = find (λ st. same_name name st.name) states.states

abbrev pub has_state : World → List ℕ → List ℕ → Bool
has_state w object name = is_some (state_named (states_at w object) name)

-- a new state has neither an expression nor a mark
abbrev pub new_state : Statement → List ℕ → PowerState
new_state s name = record { name = name; line = s.line; expressions = []; legal = None; illegal = None }

-- The expression that counts: of a set that on supplies, of a domain or group that on states.
abbrev pub counting_term : Bool → StateOption → Option Term
counting_term true (StateOption.supply_expr term) = term
counting_term false (StateOption.logic_expr term) = term
counting_term _ _ = None

abbrev pub expression_of : Frame → Statement → Term → Expression
expression_of f s term = record { term = term; scope = f.scope; origin = origin_of f s }

-- a state with one more option; of marks the first line counts
abbrev pub with_option : Frame → Statement → Bool → PowerState → StateOption → PowerState
with_option f s of_set st StateOption.legal = record st { legal = option_or st.legal (Some s.line) }
with_option f s of_set st StateOption.illegal = record st { illegal = option_or st.illegal (Some s.line) }
with_option f s of_set st option = record st { expressions = st.expressions ++ map (expression_of f s) (option_to_list (counting_term of_set option)) }

-- the states with one of a name, which is new where there is none
abbrev pub with_named : Statement → PowerStates → List ℕ → PowerStates
with_named s states name =
    if is_some (state_named states name) then states else record states { states = states.states ++ new_state s name ∷ [] }

-- the states with other ones in place of those of a name
abbrev pub changed : (PowerState → PowerState) → List ℕ → PowerStates → PowerStates
changed change name states = record states { states = map (λ st. if same_name name st.name then change st else st) states.states }

-- the world in which the object of a line has other states
abbrev pub with_states_at : World → List ℕ → PowerStates → World
with_states_at w object states = after_body w object (with_states states (body_named w object))

-- the object that a line adds states to
abbrev pub described_object : World → Frame → Statement → List ℕ
described_object w f s = stateful w (target_of f s)

-- the world where a state of the line's object is there, before its options are read
abbrev pub with_bare_state : Frame → Statement → World → Described → World
with_bare_state f s w p = let object = described_object w f s in with_states_at w object (with_named s (states_at w object) p.0)

-- the world with a state and its options
abbrev pub after_described : Frame → Statement → World → Described → World
after_described f s w p =
    let object = described_object w f s in
    let v = with_bare_state f s w p in
    let of_set = is_set (body_named w object) in
    with_states_at v object (changed (λ st. fold (with_option f s of_set) st p.1) p.0 (states_at v object))

-- the states that a line describes, in order
abbrev pub described_by : Statement → List Described
described_by s = flat_map (λ (c : Clause). described_in c.parts) (clauses_of (codes "-state") s.clauses)

-- each state that a line describes, with the world before it
abbrev pub described_worlds : World → Frame → Statement → List (World × Described)
described_worlds w f s = scan (after_described f s) (λ v p. (v, p)) w (described_by s)

abbrev pub completed : Statement → PowerStates → PowerStates
completed s states = record states { complete = option_or states.complete (Some s.line) }

-- The line describes its states one after the other; `-complete` speaks of the states that there are then.
abbrev pub after_power_states : World → Frame → Statement → World
after_power_states w f s =
    let v = fold (after_described f s) w (described_by s) in
    let object = described_object v f s in
    if is_given (codes "-complete") s.clauses then with_states_at v object (completed s (states_at v object)) else v

-- the states that an expression names, each with the object that has it
abbrev pub named_by : World → Expression → List (List ℕ × List ℕ)
named_by w e = map (λ (p : List ℕ × List ℕ). (stateful w (joined e.scope p.0), p.1)) (states_in e.term)

-- the states that a state names
abbrev pub named_states : World → List ℕ × List ℕ → List (List ℕ × List ℕ)
named_states w p = flat_map (named_by w) (unwrap_or (option_map (λ st. st.expressions) (state_named (states_at w p.0) p.1)) [])

-- whether a state nests more than n deep; one that names no state is 1 deep, and one in a ring nests without end
abbrev pub nests_deeper : World → ℕ → List ℕ × List ℕ → Bool
nests_deeper w zero p = true
nests_deeper w (suc n) p = list_any (nests_deeper w n) (named_states w p)

-- all states of all objects
abbrev pub all_states : World → List (List ℕ × List ℕ)
all_states w = flat_map (λ o. map (λ st. (whole_name o, st.name)) (states_of (Some o.body)).states) w.objects

-- whether some state nests more than 100 deep, or leads back to itself
abbrev pub has_deep_state : World → Bool
has_deep_state w = list_any (nests_deeper w 100) (all_states w)
