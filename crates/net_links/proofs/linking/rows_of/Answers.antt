use Rattle.net_links.proofs.LinkLemmas.{whole_module}
use Rattle.net_links.proofs.linking.rows_of.Goals as goal

pub returns : goal.returns
returns c s are m is =
    whole_module s c.args.holder m c.new-rows.result c.add_insts.new.rows c.add_assigns.new.rows c.new-rows.ensures (c.in_ok-add_insts.ensures s are m is)
    (c.in_ok-add_assigns.ensures s are m is)
