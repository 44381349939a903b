use Rattle.std.proofs.Common.{◌≡◌, take}
use Rattle.form_intent.specs.Script.{nets_made}
use Rattle.form_intent.proofs.supplies.net_names.Given as goal

abbrev pub invariant-loop-command : goal.invariant-loop-command
invariant-loop-command l = l.names.items ≡ nets_made (take l.command-index l.commands)
