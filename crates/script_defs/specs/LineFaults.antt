-- The faults of a line: for each code the list of the names that it shows, over all names of the line, and these lists
-- joined in the order of codes. The first is the line's fault.
use Rattle.std.specs.Prelude.{ℕ, Bool, true, false, not, ◌&&◌, ◌||◌, List, [], ◌∷◌, ◌++◌, Option, None, Some, option_and_then, unwrap_or, is_some, is_none, option_to_list, map, length, slice_get, nat_lt, nat_le, nat_eq, codes, if◌then◌else◌}
use Rattle.std.specs.List.{list_any, filter, flat_map}
use Rattle.pw_defs.specs.declared.design.Design.{Design}
use Rattle.pw_defs.specs.declared.faults.Code.{Code}
use Rattle.pw_defs.specs.declared.script.Line.{Line}
use Rattle.pw_defs.specs.declared.supplies.SupplyKind.{SupplyKind}
use Rattle.pw_defs.specs.declared.supplies.SupplyKind.TheVariants.{InPort, OutPort, Net}
use Rattle.list_defs.specs.Members.{same_name}
use Rattle.design_defs.specs.Names.{joined}
use Rattle.script_defs.specs.Statements.{Clause, Statement, names_of, name_of, pairs_in, pairs_of, is_given, is_command, subject_of}
use Rattle.script_defs.specs.World.{Body, SupplyKey, GivenClause, Frame, World}
use Rattle.script_defs.specs.Scopes.{body_at, is_one_of, is_modelled, nesting, path_from}
use Rattle.script_defs.specs.LookUps.{body_named, is_taken, supply_kind, handle_named, handle_in, handle_at, set_at, switch_port}
use Rattle.script_defs.specs.DesignParts.{type_name}
use Rattle.script_defs.specs.Supplies.{key_at, feeder_of, given_to}
use Rattle.script_defs.specs.Blocks.{is_line_of}
use Rattle.script_defs.specs.Uses.{uses_of, is_known, is_hidden, joined_word}
use Rattle.script_defs.specs.Merging.{Contradiction, contradicted, contradictions, exclusions, contradiction_text}
use Rattle.script_defs.specs.Joinings.{joinings_of, refused_supplies, supply_text}
use Rattle.script_defs.specs.SupplySteps.{target_of, port_kind}
use Rattle.script_defs.specs.StateSteps.{unit_now, states_said, state_names, names_again, is_star, rows_in, columns_in, table_of, row_words, value_of_state}
use Rattle.script_defs.specs.PowerStateSteps.{Described, described_worlds, described_object, has_state}
use Rattle.script_defs.specs.PowerStateFaults.{bad_terms, unknown_states, state_contradictions}
use Rattle.script_defs.specs.StrategySteps.{is_strategy_command}
use Rattle.script_defs.specs.UnitSteps.{is_mark, with_mark, Opening, map_uses, map_joinings, is_lower_set, has_lower_ports, export_named}

-- a fault of a line: its code, and the name that it shows
pub record LineFault : Type 0 where
  pub code : Code
  pub name : List ℕ

-- the faults of one code
abbrev pub with_code : Code → List (List ℕ) → List LineFault
with_code code names = map (λ name. record { code = code; name = name }) names

-- what a refusal shows where it has no name
abbrev pub no_name : List ℕ
no_name = codes "-"

abbrev pub shown_if : Bool → List ℕ → List (List ℕ)
shown_if true name = name ∷ []
shown_if false name = []

-- X4: a line that opens frames, where none may be opened any more
abbrev pub deep_frames : Frame → Line → List (List ℕ)
deep_frames f line = shown_if (nat_eq f.left 0 && (is_line_of (codes "load_upf") line || is_line_of (codes "apply_power_model") line)) no_name

-- X5: a line past the last one that may be run
abbrev pub late_lines : ℕ → World → List (List ℕ)
late_lines limit w = shown_if (nat_le limit w.lines) no_name

-- the faults that a line has before its words are looked at
abbrev pub early_faults : ℕ → Frame → World → Line → List LineFault
early_faults limit f w line = with_code Code.X4 (deep_frames f line) ++ with_code Code.X5 (late_lines limit w)

-- U14: names that a model hides
abbrev pub hidden_names : Design → World → Frame → Statement → List (List ℕ)
hidden_names d w f s = map joined_word (filter (is_hidden d w) (uses_of f w s))

-- whether a power model is for the module of the instance that a word names
abbrev pub is_for : Option Body → List ℕ → Bool
is_for (Some (Body.power_model modules lines)) type = is_one_of type modules
is_for _ type = true

-- the power model of a line, once for each instance whose module it isn't for
abbrev pub misapplied_models : Design → World → Frame → Statement → List (List ℕ)
misapplied_models d w f s =
    if is_command (codes "apply_power_model") s
    then flat_map (λ word. shown_if (not (is_for (body_named w (target_of f s)) (type_name d (body_at d (path_from f.scope word))))) (subject_of s))
    (names_of (codes "-elements") s.clauses)
    else []

-- the input ports that on states of a switch name and that it hasn't
abbrev pub absent_inputs : Statement → List (List ℕ)
absent_inputs s =
    filter (λ port. not (is_one_of port (map (λ (p : List ℕ × List ℕ). p.0) (pairs_of (codes "-input_supply_port") s.clauses))))
    (map (λ (p : List ℕ × List ℕ). p.1) (pairs_of (codes "-on_state") s.clauses))

-- U7: names that stand for nothing of the wanted kind, as written
abbrev pub unknown_names : Design → World → Frame → Statement → List (List ℕ)
unknown_names d w f s = map (λ u. u.word) (filter (λ u. not (is_known d w u)) (uses_of f w s)) ++ misapplied_models d w f s ++ absent_inputs s

abbrev pub is_kind : (SupplyKind → Bool) → Option SupplyKind → Bool
is_kind test None = false
is_kind test (Some kind) = test kind

abbrev pub is_net_kind : SupplyKind → Bool
is_net_kind Net = true
is_net_kind _ = false

abbrev pub is_port_kind : SupplyKind → Bool
is_port_kind InPort = true
is_port_kind OutPort = true
is_port_kind _ = false

abbrev pub is_in_kind : SupplyKind → Bool
is_in_kind InPort = true
is_in_kind _ = false

-- whether a line would make a net with a feeder an `in` port
abbrev pub makes_fed_input : World → Frame → Statement → Bool
makes_fed_input w f s = is_in_kind (port_kind s) && is_some (feeder_of w.links (SupplyKey.made (target_of f s)))

-- a port's name is taken by all but a net, and by a net with a feeder where the port is an input
abbrev pub is_taken_for_port : World → Frame → Statement → Bool
is_taken_for_port w f s =
    is_taken w (target_of f s) && (not (is_kind is_net_kind (supply_kind (body_named w (target_of f s)))) || makes_fed_input w f s)

-- a net's name is taken by all but a supply port
abbrev pub is_taken_for_net : World → Frame → Statement → Bool
is_taken_for_net w f s = is_taken w (target_of f s) && not (is_kind is_port_kind (supply_kind (body_named w (target_of f s))))

-- whether a set's name is taken: a handle's by the set that it has
abbrev pub is_taken_for_set : World → Frame → Statement → Bool
is_taken_for_set w f s = is_some (handle_in (subject_of s)) && is_some (set_at w (target_of f s)) || is_taken w (target_of f s)

-- whether a switch's name is taken, by an object or by an instance
abbrev pub is_taken_for_switch : Design → World → Frame → Statement → Bool
is_taken_for_switch d w f s = is_taken w (target_of f s) || is_some (body_at d (target_of f s))

-- the names of a switch's ports, its output's first
abbrev pub switch_port_names : Statement → List (List ℕ)
switch_port_names s =
    map (λ (p : List ℕ × List ℕ). switch_port (subject_of s) p.0) (pairs_of (codes "-output_supply_port") s.clauses ++ pairs_of
    (codes "-input_supply_port") s.clauses)

-- whether a line makes an object that can't share its name
abbrev pub makes_object : Statement → Bool
makes_object s =
    is_command (codes "create_pst") s || is_command (codes "create_power_state_group") s || is_command (codes "begin_power_model") s
    || (not (is_given (codes "-update") s.clauses) && (is_command (codes "create_power_domain") s || is_strategy_command s))

-- the new object's name, where it is taken
abbrev pub taken_names : Design → World → Frame → Statement → List (List ℕ)
taken_names d w f s =
    shown_if
    (is_command (codes "create_supply_port") s && is_taken_for_port w f s
    || is_command (codes "create_supply_net") s && is_taken_for_net w f s
    || is_command (codes "create_supply_set") s && not (is_given (codes "-update") s.clauses) && is_taken_for_set w f s
    || is_command (codes "create_power_switch") s && is_taken_for_switch d w f s
    || makes_object s && is_taken w (target_of f s))
    (subject_of s)

-- the states of a supply that lines of the unit, or earlier options, have stated on it
abbrev pub states_again : Design → World → Frame → Statement → List (List ℕ)
states_again d w f s =
    flat_map (λ key. names_again (state_names d w (unit_now d w f) key) (map (λ p. p.0) (states_said s))) (option_to_list (key_at d w (target_of f s)))

-- the states of an object that are there already, without `-update`
abbrev pub states_there : World → Frame → Statement → List (List ℕ)
states_there w f s =
    if is_given (codes "-update") s.clauses then []
    else flat_map (λ (e : World × Described). shown_if (has_state e.0 (described_object e.0 f s) e.1.0) e.1.0) (described_worlds w f s)

-- U5: names that are taken, of objects, switch ports, states and rows
abbrev pub twice_names : Design → World → Frame → Statement → List (List ℕ)
twice_names d w f s =
    taken_names d w f s
    ++ (if is_command (codes "create_power_switch") s then names_again [] (switch_port_names s) else [])
    ++ (if is_command (codes "add_port_state") s || is_command (codes "add_supply_state") s then states_again d w f s else [])
    ++ (if is_command (codes "add_pst_state") s then filter (same_name (subject_of s)) (map (λ r. r.name) (rows_in (table_of w f s))) else [])
    ++ (if is_command (codes "add_power_state") s then states_there w f s else [])

-- U6: supplies that would get a second feeder, be fed from the wrong side, or feed themselves in a ring
abbrev pub fed_again : Design → World → Frame → Statement → List (List ℕ)
fed_again d w f s = map (supply_text d w) (refused_supplies d w f.scope w.links (joinings_of d w f s))

-- U9 of a row: the table where the row hasn't one word for each column, else the states that aren't found
abbrev pub unknown_cells : Design → World → Frame → Statement → List (List ℕ)
unknown_cells d w f s =
    if nat_eq (length (columns_in (table_of w f s))) (length (names_of (codes "-state") s.clauses))
    then map (λ (p : SupplyKey × List ℕ). p.1) (filter (λ (p : SupplyKey × List ℕ). not (is_star p.1) && is_none (value_of_state d w
    (unit_now d w f) p.0 p.1)) (row_words w f s))
    else option_to_list (name_of (codes "-pst") s.clauses)

-- the options that the object of an update has been given
abbrev pub given_before : World → Frame → Statement → List GivenClause
given_before w f s =
    given_to (body_named w (if is_command (codes "create_supply_set") s then unwrap_or (set_at w (target_of f s)) (target_of f s) else target_of f s))

-- whether `-supply` was given for a key
abbrev pub is_key_given : List GivenClause → List ℕ → Bool
is_key_given given key =
    list_any
    (λ (g : GivenClause). same_name g.clause.option (codes "-supply") && list_any (λ (p : List ℕ × List ℕ). same_name key p.0) (pairs_in g.clause.parts))
    given

-- the handle that a pair of an update gives otherwise than a line of another command gave it
abbrev pub handle_against : World → Frame → Statement → List ℕ × List ℕ → List Contradiction
handle_against w f s p =
    map (λ h. record { option = codes "-supply"; first_line = h.line })
    (filter (λ h. not (is_key_given (given_before w f s) p.0) && not (list_any (same_name h.set) (option_to_list (set_at w (joined f.scope p.1)))))
    (option_to_list (option_and_then (λ name. handle_at w (target_of f s, name)) (handle_named p.0))))

-- The line at which an option was given first; of a handle, the line that gave the set, by whichever command.
abbrev pub given_line : World → Frame → Statement → Clause → ℕ → ℕ
given_line w f s c line =
    if same_name c.option (codes "-supply")
    then unwrap_or (slice_get (flat_map
    (λ (p : List ℕ × List ℕ). map (λ h. h.line) (option_to_list (option_and_then (λ name. handle_at w (target_of f s, name)) (handle_named p.0))))
    (pairs_in c.parts)) 0) line
    else line

-- what one option of a domain's update contradicts: what was given for it before, or a handle that another command gave
abbrev pub domain_contradictions : World → Frame → Statement → Clause → List Contradiction
domain_contradictions w f s c =
    map (λ g. record { option = c.option; first_line = given_line w f s c g.origin.line }) (option_to_list (contradicted (given_before w f s) c))
    ++ (if same_name c.option (codes "-supply") then flat_map (handle_against w f s) (pairs_in c.parts) else [])

-- what an update contradicts, in order of its options: what was given before, then the options that exclude those given
abbrev pub update_contradictions : World → Frame → Statement → List Contradiction
update_contradictions w f s =
    (if is_command (codes "create_power_domain") s
    then flat_map (domain_contradictions w f s) s.clauses
    else contradictions (given_before w f s) s.clauses)
    ++ exclusions (given_before w f s) s.clauses

-- the handle of a line, where it has another set than the line's
abbrev pub associated_otherwise : World → Frame → Statement → List Contradiction
associated_otherwise w f s =
    map (λ h. record { option = codes "-handle"; first_line = h.line })
    (filter (λ h. not (list_any (same_name h.set) (option_to_list (set_at w (target_of f s)))))
    (option_to_list (option_and_then (λ word. option_and_then (handle_at w) (handle_in (joined f.scope word))) (name_of (codes "-handle") s.clauses))))

-- U13: what a line says otherwise than earlier ones
abbrev pub contradictions_of : World → Frame → Statement → List Contradiction
contradictions_of w f s =
    if is_command (codes "associate_supply_set") s then associated_otherwise w f s
    else (if is_command (codes "add_power_state") s then state_contradictions w f s
    else (if is_given (codes "-update") s.clauses then update_contradictions w f s else []))

-- X4: a mark by which soft macros nest deeper than 16
abbrev pub deep_macros : Design → World → Frame → Statement → List (List ℕ)
deep_macros d w f s =
    shown_if (is_mark s && list_any (λ path. nat_lt 16 (nesting d (with_mark w.marks f.scope) path)) (with_mark w.marks f.scope)) no_name

-- The faults of a line whose words have the command's form, in the order of codes.
abbrev pub line_faults : Design → Frame → World → Statement → List LineFault
line_faults d f w s =
    if s.passed then []
    else with_code Code.U14 (hidden_names d w f s)
    ++ with_code Code.U7 (unknown_names d w f s)
    ++ with_code Code.U5 (twice_names d w f s)
    ++ with_code Code.U6 (fed_again d w f s)
    ++ with_code Code.U8 (if is_command (codes "add_power_state") s then bad_terms w f s else [])
    ++ with_code Code.U9
    (if is_command (codes "add_pst_state") s then unknown_cells d w f s else (if is_command (codes "add_power_state") s then unknown_states w f s else []))
    ++ with_code Code.U13 (map contradiction_text (contradictions_of w f s))
    ++ with_code Code.X4 (deep_macros d w f s)

-- the faults of the map of supplies behind a frame: lower sets that a model doesn't export, lower sets that aren't there
-- or lack a port, and ports that are fed already
abbrev pub map_faults : Design → World → Frame → Opening → List LineFault
map_faults d w f o =
    with_code Code.U14 (map joined_word (filter (λ u. is_modelled d u.scope && is_none (export_named d u.scope u.word)) (map_uses f o)))
    ++ with_code Code.U7 (map (λ (p : List ℕ × List ℕ). p.0) (filter (λ p. not (is_lower_set d w o.home p.0 && has_lower_ports d w f o.home p)) o.pairs))
    ++ with_code Code.U6 (map (supply_text d w) (refused_supplies d w f.scope w.links (map_joinings d w f o)))
