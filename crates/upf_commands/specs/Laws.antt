-- Each line is one command or has one first fault, and never both.
use Rattle.std.specs.Prelude.{◌≡◌}
use Rattle.pw_defs.specs.declared.faults.CmdFault.{CmdFault}
use Rattle.pw_defs.specs.declared.script.Command.{Command}
use Rattle.pw_defs.specs.declared.script.Line.{Line}
use Rattle.upf_commands.specs.CommandFaults.{HasCommandFault}
use Rattle.upf_commands.specs.Commands.{IsCommand}

-- the law of command lines
pub record LinesReadInOneWay : Type 0 where
  pub one_command : (line : Line) (c d : Command) → IsCommand line c → IsCommand line d → c ≡ d
  pub one_fault : (line : Line) (f g : CmdFault) → HasCommandFault line f → HasCommandFault line g → f ≡ g
  pub not_both : (line : Line) (c : Command) (f : CmdFault) → IsCommand line c → HasCommandFault line f → ⊥
