use Rattle.std.proofs.Common.{None, get_or, max, take, ap, sym, subst, ◌∙◌}
use Rattle.std.proofs.lemmas.List.{take_more}
use Rattle.net_sizes.specs.Depths.{IsDeepest, depth_in}
use Rattle.net_sizes.proofs.Deep.{deepest_more}
use Rattle.net_sizes.proofs.depths.deepest.Goals as goal

pub loop-item-preserved : goal.loop-item-preserved
loop-item-preserved c =
    let number = depth_in c.args.depths.now c.args.most in
    let place = c.loop-item.item-index in
    subst (λ xs. IsDeepest number xs c.max-depth.result) (sym (take_more c.args.row.now place None c.loop-item-test.true))
    (deepest_more number (take place c.args.row.now) (get_or c.args.row.now place None) c.loop-item.depth c.max-depth.result c.loop-item.invariant
    (c.max-depth.ensures ∙ ap (λ d. max d c.loop-item.depth) c.depth_at.ensures))
