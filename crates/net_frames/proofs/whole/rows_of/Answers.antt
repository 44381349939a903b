use Rattle.net_frames.proofs.Finished.{finished_made, finished_names}
use Rattle.net_frames.proofs.whole.rows_of.Goals as goal

pub returns-clause-made : goal.returns-clause-made
returns-clause-made c =
    finished_made c.args.modules.now c.args.plans.now c.args.instances.now c.args.cells c.in_ok-heads.heads c.args.models c.new-rows.result c.add_symbols.new.rows
    c.add_instances.new.rows c.in_ok-whole.whole c.feed_all.new.feeds c.new-rows.ensures.parts c.in_ok-add_symbols.ensures.added c.in_ok-add_instances.ensures.parts
    c.in_ok-add_instances.ensures.framed c.in_ok-heads.ensures c.in_ok-whole.ensures.rows c.in_ok-whole.ensures.fed c.args.feeds.items c.in_ok-whole.ensures.count
    c.in_ok-feed_all.ensures

pub returns-clause-names : goal.returns-clause-names
returns-clause-names c =
    finished_names c.args.modules.now c.args.plans.now c.args.instances.now c.args.cells c.in_ok-heads.heads c.args.models c.new-rows.result c.add_symbols.new.rows
    c.add_instances.new.rows c.in_ok-whole.whole c.feed_all.new.feeds c.new-rows.ensures.parts c.in_ok-add_symbols.ensures.added c.in_ok-add_instances.ensures.parts
    c.in_ok-add_instances.ensures.framed c.in_ok-heads.ensures c.in_ok-whole.ensures.rows c.in_ok-whole.ensures.fed
