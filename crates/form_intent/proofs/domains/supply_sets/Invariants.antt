use Rattle.std.proofs.Common.{◌≡◌, map, take}
use Rattle.form_intent.specs.Script.{set_numbers, sets_made}
use Rattle.form_intent.proofs.domains.supply_sets.Given as goal

abbrev pub invariant-loop-command : goal.invariant-loop-command
invariant-loop-command l = l.sets.items ≡ map (set_numbers l.supplies) (sets_made (take l.command-index l.commands))
