use Rattle.std.proofs.Common.{◌∙◌, arith}
use Rattle.state_lists.proofs.Numbering.{count_more_at}
use Rattle.state_lists.proofs.listing.count_states.Goals as goal

pub loop-list-preserved : goal.loop-list-preserved
loop-list-preserved c =
    let i = c.loop-list.list-index in
    let lists = c.args.lists.now in
    let step = count_more_at c.loop-list.count lists i c.list-item.result (omega arith) c.list-item.is in
    record {
      bounded = omega (arith, c.min-count.ensures);
      left = rw (c.min-count.ensures, c.len.ensures) (step ∙ c.loop-list.invariant.left);
    }
