-- Each line adds the set that it makes.
use Rattle.std.proofs.Common.{arith}
use Rattle.form_intent.specs.Script.{set_made, set_numbers}
use Rattle.form_intent.proofs.LineLemmas.{gained-map}
use Rattle.form_intent.proofs.domains.supply_sets.Goals as goal

pub loop-command-preserved : goal.loop-command-preserved
loop-command-preserved c =
    gained-map c.args.commands.now c.loop-command.command-index c.command-item.result (omega arith) c.command-item.is (set_numbers c.args.supplies.now) set_made c.loop-command.sets.items c.put_set.new.sets.items c.in_ok-put_set.ensures c.loop-command.invariant
