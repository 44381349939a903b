use Rattle.tcl_words.proofs.TextTrees.{held_more}
use Rattle.tcl_words.proofs.settings.Settings.set.Goals as goal

pub returns : goal.returns
returns c = held_more c.args.self.now (record { texts = c.insert.new.self }) c.args.name c.args.text c.in_ok-insert.ensures.updates.1 c.in_ok-insert.ensures.updates.3
