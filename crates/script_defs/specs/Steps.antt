-- What each command makes of the world.
use Rattle.std.specs.Prelude.{◌+◌, ◌||◌, List, [], ◌∷◌, ◌++◌, codes, if◌then◌else◌}
use Rattle.pw_defs.specs.declared.design.Design.{Design}
use Rattle.pw_defs.specs.declared.script.Line.{Line}
use Rattle.script_defs.specs.Statements.{Statement, is_command}
use Rattle.script_defs.specs.World.{Body, Frame, World}
use Rattle.script_defs.specs.Uses.{uses_of}
use Rattle.script_defs.specs.SupplySteps.{after_port, after_net, after_set, after_association, after_switch, after_joinings, with_object, object_of, no_states}
use Rattle.script_defs.specs.StateSteps.{after_states, after_table, after_row}
use Rattle.script_defs.specs.PowerStateSteps.{after_power_states}
use Rattle.script_defs.specs.DomainSteps.{after_domain, after_cell_sets, after_port_sets}
use Rattle.script_defs.specs.StrategySteps.{is_strategy_command, after_strategy}
use Rattle.script_defs.specs.UnitSteps.{after_attributes, after_model}

-- a group of power states
abbrev pub after_group : World → Frame → Statement → World
after_group w f s = with_object w (object_of f s (Body.group no_states))

-- what the command itself makes
abbrev pub made_by : Design → World → Frame → Statement → List Line → World
made_by d w f s body =
    if is_command (codes "create_supply_port") s then after_port w f s
    else (if is_command (codes "create_supply_net") s then after_net w f s
    else (if is_command (codes "connect_supply_net") s then after_joinings d w f s
    else (if is_command (codes "create_supply_set") s then after_set w f s
    else (if is_command (codes "associate_supply_set") s then after_association w f s
    else (if is_command (codes "connect_supply_set") s then after_cell_sets w f s
    else (if is_command (codes "create_power_switch") s then after_switch d w f s
    else (if is_command (codes "add_port_state") s || is_command (codes "add_supply_state") s then after_states d w f s
    else (if is_command (codes "create_pst") s then after_table d w f s
    else (if is_command (codes "add_pst_state") s then after_row d w f s
    else (if is_command (codes "create_power_state_group") s then after_group w f s
    else (if is_command (codes "add_power_state") s then after_power_states w f s
    else (if is_command (codes "create_power_domain") s then after_domain w f s
    else (if is_strategy_command s then after_strategy w f s
    else (if is_command (codes "set_design_attributes") s then after_attributes w f s
    else (if is_command (codes "set_port_attributes") s then after_port_sets w f s
    else (if is_command (codes "begin_power_model") s then after_model w f s body
    else w))))))))))))))))

-- A line that is run counts, and the names that it uses are kept. A command that is passed over does no more than count.
abbrev pub counted : World → Frame → Statement → World
counted w f s =
    if s.passed then record w { lines = w.lines + 1; passed = w.passed ++ f.home ∷ [] }
    else record w { lines = w.lines + 1; uses = w.uses ++ uses_of f w s }

-- The world behind a line, before the frames that it opens.
abbrev pub world_after : Design → World → Frame → Statement → List Line → World
world_after d w f s body = if s.passed then counted w f s else made_by d (counted w f s) f s body
