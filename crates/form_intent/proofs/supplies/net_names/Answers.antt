use Rattle.std.proofs.Common.{arith}
use Rattle.form_intent.specs.Script.{net_made}
use Rattle.form_intent.proofs.LineLemmas.{gained}
use Rattle.form_intent.proofs.supplies.net_names.Goals as goal

pub loop-command-preserved : goal.loop-command-preserved
loop-command-preserved c =
    gained c.args.commands.now c.loop-command.command-index c.command-item.result (omega arith) c.command-item.is net_made c.loop-command.names.items c.put_net.new.names.items c.in_ok-put_net.ensures c.loop-command.invariant
