-- What the lines of strategies make.
use Rattle.std.specs.Prelude.{◌||◌, Bool, codes, if◌then◌else◌}
use Rattle.pw_defs.specs.declared.strategies.Tool.{Tool}
use Rattle.script_defs.specs.Statements.{Statement, is_command, is_given}
use Rattle.script_defs.specs.World.{Body, Frame, World}
use Rattle.script_defs.specs.SupplySteps.{with_object, after_update, object_of, target_of, given_by}

-- whether a line makes or adds to a strategy
abbrev pub is_strategy_command : Statement → Bool
is_strategy_command s = is_command (codes "set_isolation") s || is_command (codes "set_level_shifter") s

abbrev pub tool_of : Statement → Tool
tool_of s = if is_command (codes "set_isolation") s then Tool.Iso else Tool.Shift

-- a strategy is made with its options, or added to
abbrev pub after_strategy : World → Frame → Statement → World
after_strategy w f s =
    if is_given (codes "-update") s.clauses then after_update w (target_of f s) (given_by f s)
    else with_object w (object_of f s (Body.strategy (tool_of s) (given_by f s)))
