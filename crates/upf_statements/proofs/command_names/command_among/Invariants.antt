use Rattle.std.proofs.Common.{◌≡◌, drop, find}
use Rattle.list_defs.specs.Members.{same_name}
use Rattle.upf_statements.specs.CommandNames.{command_text}
use Rattle.upf_statements.proofs.command_names.command_among.Given as goal

abbrev pub invariant-loop-command : goal.invariant-loop-command
invariant-loop-command l =
    find (λ command. same_name (command_text command) l.name) (drop l.command-index l.commands) ≡ find (λ command. same_name (command_text command) l.name) l.commands
