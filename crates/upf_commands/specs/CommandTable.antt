-- The commands that are read, with their options.
use Rattle.std.specs.Prelude.{ℕ, List, [], ◌∷◌, ◌++◌, map, codes}
pub use Rattle.upf_commands.specs.CommandRows.{Arity, OptionRow, CommandRow}
use Rattle.upf_commands.specs.CommandRows.{may, must, often, some, bare, either, also, for, stating, command, wordless, choosing, passed_over}
use Rattle.upf_commands.specs.Forms.{word, any, simple, set_name, handle, file, one_of, volts, list, names, scope, columns, keyed, pair, attribute, switch_port, on_state, supply_state, power_state, pairs}

-- power and ground
abbrev functions : List (List ℕ)
functions = codes "power" ∷ codes "ground" ∷ []

-- supply ports and nets, and how they are joined
abbrev pub supply_commands : List CommandRow
supply_commands =
    command (codes "create_supply_port") simple
    (may (codes "-direction") (word (one_of (codes "in" ∷ codes "out" ∷ []))) ∷ may (codes "-domain") (word any) ∷ [])
    ∷ command (codes "create_supply_net") simple
    (may (codes "-domain") (word any) ∷ may (codes "-resolve") (word (one_of (codes "unresolved" ∷ []))) ∷ [])
    ∷ command (codes "connect_supply_net") any (must (codes "-ports") (list names) ∷ [])
    ∷ command (codes "create_power_switch") simple
    (
    must (codes "-output_supply_port") (list switch_port) ∷ some (codes "-input_supply_port") (list switch_port) ∷ some (codes "-on_state") (list on_state)
    ∷ often (codes "-off_state") (word any) ∷ often (codes "-control_port") (word any) ∷ often (codes "-ack_port") (word any)
    ∷ often (codes "-ack_delay") (word any) ∷ often (codes "-error_state") (word any) ∷ may (codes "-domain") (word any) ∷ []
    )
    ∷ []

-- supply sets
abbrev pub set_commands : List CommandRow
set_commands =
    command (codes "create_supply_set") set_name (often (codes "-function") (list (keyed functions)) ∷ bare (codes "-update") ∷ [])
    ∷ command (codes "associate_supply_set") any (must (codes "-handle") (word handle) ∷ [])
    ∷ command (codes "connect_supply_set") any (must (codes "-elements") (list names) ∷ [])
    ∷ []

-- the states of supplies and tables of states
abbrev pub table_commands : List CommandRow
table_commands =
    command (codes "add_port_state") any (some (codes "-state") (list supply_state) ∷ [])
    ∷ command (codes "add_supply_state") any (some (codes "-state") (list supply_state) ∷ [])
    ∷ command (codes "create_pst") simple (must (codes "-supplies") (list names) ∷ [])
    ∷ command (codes "add_pst_state") simple (must (codes "-pst") (word any) ∷ must (codes "-state") (list columns) ∷ [])
    ∷ []

-- power states
abbrev pub state_commands : List CommandRow
state_commands =
    command (codes "create_power_state_group") simple []
    ∷ choosing
    (
    command (codes "add_power_state") any
    (
    bare (codes "-supply") ∷ bare (codes "-domain") ∷ bare (codes "-group")
    ∷ stating (codes "-state") (list power_state)
    ∷ bare (codes "-complete") ∷ bare (codes "-update") ∷ []
    )
    )
    ((codes "-supply" ∷ codes "-domain" ∷ codes "-group" ∷ []) ∷ [])
    ∷ []

-- the options that select what a strategy is for
abbrev pub selecting : List OptionRow
selecting =
    may (codes "-elements") (list names) ∷ may (codes "-exclude_elements") (list names) ∷ may (codes "-source") (word any) ∷ may (codes "-sink") (word any)
    ∷ either (codes "-diff_supply_only") ∷ may (codes "-applies_to") (word (one_of (codes "inputs" ∷ codes "outputs" ∷ codes "both" ∷ [])))
    ∷ may (codes "-applies_to_boundary") (word (one_of (codes "lower" ∷ codes "upper" ∷ codes "both" ∷ []))) ∷ may (codes "-instance") pairs
    ∷ bare (codes "-update") ∷ []

-- domains and strategies
abbrev pub domain_commands : List CommandRow
domain_commands =
    command (codes "create_power_domain") simple
    (
    may (codes "-elements") (list names) ∷ may (codes "-exclude_elements") (list names) ∷ for (codes "-include_scope") (codes "-elements") (codes ".") (list names)
    ∷ often (codes "-supply") (list (keyed (codes "primary" ∷ codes "default_isolation" ∷ []))) ∷ bare (codes "-update") ∷ []
    )
    ∷ choosing
    (
    command (codes "set_isolation") simple
    (
    must (codes "-domain") (word any)
    ∷ selecting
    ++ may (codes "-isolation_supply") (word any) ∷ also (codes "-isolation_supply_set") (codes "-isolation_supply") (word any) ∷ bare (codes "-no_isolation")
    ∷ bare (codes "-force_isolation") ∷ may (codes "-isolation_signal") (word any) ∷ may (codes "-isolation_sense") (word any)
    ∷ may (codes "-clamp_value") (word any) ∷ may (codes "-location") (word any) ∷ may (codes "-name_prefix") (word any) ∷ may (codes "-name_suffix") (word any) ∷ []
    )
    )
    ((codes "-no_isolation" ∷ codes "-force_isolation" ∷ []) ∷ [])
    ∷ choosing
    (
    command (codes "set_level_shifter") simple
    (
    must (codes "-domain") (word any)
    ∷ selecting
    ++ may (codes "-rule") (word (one_of (codes "low_to_high" ∷ codes "high_to_low" ∷ codes "both" ∷ []))) ∷ may (codes "-threshold") (word volts)
    ∷ bare (codes "-no_shift") ∷ bare (codes "-force_shift") ∷ may (codes "-input_supply") (word any) ∷ may (codes "-output_supply") (word any)
    ∷ may (codes "-location") (word any) ∷ may (codes "-name_prefix") (word any) ∷ may (codes "-name_suffix") (word any) ∷ []
    )
    )
    ((codes "-no_shift" ∷ codes "-force_shift" ∷ []) ∷ [])
    ∷ []

-- marks and attributes
abbrev pub attribute_commands : List CommandRow
attribute_commands =
    wordless (codes "set_design_attributes")
    (must (codes "-elements") (list scope) ∷ either (codes "-is_soft_macro") ∷ often (codes "-attribute") (list attribute) ∷ [])
    ∷ wordless (codes "set_port_attributes")
    (
    must (codes "-ports") (list names) ∷ may (codes "-driver_supply") (word any) ∷ may (codes "-receiver_supply") (word any)
    ∷ often (codes "-attribute") (list pair) ∷ []
    )
    ∷ []

-- files, scopes and power models
abbrev pub scope_commands : List CommandRow
scope_commands =
    command (codes "load_upf") file (may (codes "-scope") (word any) ∷ [])
    ∷ command (codes "set_scope") any []
    ∷ command (codes "begin_power_model") simple (may (codes "-for") (list names) ∷ [])
    ∷ wordless (codes "end_power_model") []
    ∷ command (codes "apply_power_model") any (must (codes "-elements") (list names) ∷ may (codes "-supply_map") pairs ∷ [])
    ∷ []

-- the commands that are passed over
abbrev pub passed_commands : List CommandRow
passed_commands =
    map passed_over
    (
    codes "upf_version" ∷ codes "map_isolation_cell" ∷ codes "map_level_shifter_cell" ∷ codes "map_power_switch" ∷ codes "map_retention_cell"
    ∷ codes "use_interface_cell" ∷ codes "bind_checker" ∷ codes "set_simstate_behavior" ∷ codes "name_format" ∷ codes "set_retention"
    ∷ codes "set_retention_elements" ∷ codes "create_logic_net" ∷ codes "create_logic_port" ∷ codes "connect_logic_net" ∷ codes "describe_state_transition" ∷ []
    )

-- all commands
unfoldable pub commands : List CommandRow
commands =
    supply_commands ++ set_commands ++ table_commands ++ state_commands ++ domain_commands ++ attribute_commands ++ scope_commands ++ passed_commands
