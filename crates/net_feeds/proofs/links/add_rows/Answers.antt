use Rattle.std.proofs.Common.{◌∙◌, ◌++◌, ap}
use Rattle.std.proofs.lemmas.List.{take_all}
use Rattle.net_feeds.specs.LinkNumbers.{links_of_rows}
use Rattle.net_feeds.proofs.RowLinks.{rows_more}
use Rattle.net_feeds.proofs.links.add_rows.Goals as goal

pub loop-row-preserved : goal.loop-row-preserved
loop-row-preserved c =
    c.in_ok-add_row.ensures
    ∙ rows_more c.args.instances.now c.args.inst c.args.rows.now c.loop-row.row-index _ c.loop-row-test.true c.args.out.now.items c.loop-row.out.items c.loop-row.invariant

pub returns : goal.returns
returns c =
    c.loop-row.invariant
    ∙ ap (λ rows. c.args.out.now.items ++ links_of_rows c.args.instances.now c.args.inst rows) (take_all c.loop-row.row-index c.args.rows.now c.loop-row-test.false)
