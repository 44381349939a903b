use Rattle.std.proofs.Common.{◌≡◌, sym}
use Rattle.net_hierarchy.specs.Search.{item_at}
use Rattle.net_hierarchy.specs.declared.search.Item.TheVariants.{End, Leaf}
use Rattle.net_hierarchy.proofs.Searching.{end_item, leaf_item, search_leave, search_same, search_skip}
use Rattle.net_hierarchy.proofs.search.step_from.Goals as goal

pub returns-in_ok-leave-in-End : goal.returns-in_ok-leave-in-End
returns-in_ok-leave-in-End c top is =
    let s = c.args.search.now in
    let end : item_at c.args.types.now c.args.frame ≡ End = sym c.in-End.ensures in
    let done = c.in_ok-leave-in-End.ensures in
    search_same c.args.types.now top _ _ _ _ s.stack.items _ done.marks done.order done.stack
    (search_leave c.args.types.now top s.marks.items s.order.items s.stack.items c.args.frame is (end_item c.args.types.now c.args.frame end))

pub returns-in_ok-skip-in-Leaf : goal.returns-in_ok-skip-in-Leaf
returns-in_ok-skip-in-Leaf c top is =
    let s = c.args.search.now in
    let leaf : item_at c.args.types.now c.args.frame ≡ Leaf = sym c.in-Leaf.ensures in
    let skip = c.in_ok-skip-in-Leaf.ensures.stack in
    search_same c.args.types.now top s.marks.items _ s.order.items _ _ _ c.skip.ensures.marks c.skip.ensures.order skip.2
    (search_skip c.args.types.now top s.marks.items s.order.items s.stack.items c.args.frame is skip.0 skip.1
    (λ row k is_row at. absurd (leaf_item c.args.types.now c.args.frame leaf row k is_row at)))
