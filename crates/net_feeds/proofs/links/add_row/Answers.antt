use Rattle.std.proofs.Common.{ℕ, ◌++◌, ◌∙◌, ap, map, sym, arith}
use Rattle.std.specs.List.{range_with_len}
use Rattle.net_feeds.proofs.RowLinks.{link_of_row, row_more, row_whole}
use Rattle.net_feeds.proofs.links.add_row.Goals as goal

pub loop-more-preserved : goal.loop-more-preserved
loop-more-preserved c =
    c.in_ok-push.ensures.items
    ∙ row_more c.args.instances.now c.args.inst c.args.row c.loop-more.more c.in_ok-fed.fed c.in_ok-source.source c.in_ok-fed_bit.fed_bit c.in_ok-source_bit.source_bit
    c.in_ok-fed.ensures c.in_ok-source.ensures c.in_ok-fed_bit.ensures c.in_ok-source_bit.ensures c.args.out.now.items c.loop-more.out.items c.loop-more.invariant

pub returns : goal.returns
returns c =
    c.loop-more.invariant
    ∙ ap (λ (more : ℕ). c.args.out.now.items ++ map (link_of_row c.args.instances.now c.args.inst c.args.row) (range_with_len 0 more))
    (omega (arith, c.loop-more-test.false, c.loop-more.auto.more-end))
    ∙ ap (λ rest. c.args.out.now.items ++ rest) (sym (row_whole c.args.instances.now c.args.inst c.args.row))
