use Rattle.std.proofs.Common.{◌≡◌, sym, ap, ◌∙◌, subst}
use Rattle.list_defs.specs.Members.{IsIn}
use Rattle.net_hierarchy.specs.Search.{mark_at}
use Rattle.net_hierarchy.specs.declared.search.Mark.TheVariants.{Open, Done}
use Rattle.net_hierarchy.proofs.Searching.{holds_item, item_of_module, one_item, search_done, search_enter, search_returns, search_same, search_skip}
use Rattle.net_hierarchy.proofs.search.visit.Goals as goal

pub returns-in_ok-skip-in-Done : goal.returns-in_ok-skip-in-Done
returns-in_ok-skip-in-Done c types top item is =
    let s = c.args.search.now in
    let skip = c.in_ok-skip-in-Done.ensures.stack in
    let done : mark_at s.marks.items c.args.number ≡ Done = ap (λ ms. mark_at ms c.args.number) (sym c.as_slice.ensures.value) ∙ sym c.in-Done.ensures in
    let there = search_done types top s.marks.items s.order.items s.stack.items c.args.frame is c.args.number done in
    search_same types top s.marks.items _ s.order.items _ _ _ c.skip.ensures.marks c.skip.ensures.order skip.2
    (search_skip types top s.marks.items s.order.items s.stack.items c.args.frame is skip.0 skip.1
    (λ row k is_row at. subst (λ j. IsIn j s.order.items) (sym (one_item types c.args.frame c.args.number item row k is_row at)) there))

pub returns-in-Open : goal.returns-in-Open
returns-in-Open c types top item is =
    let s = c.args.search.now in
    let opened : mark_at s.marks.items c.args.number ≡ Open = ap (λ ms. mark_at ms c.args.number) (sym c.as_slice.ensures.value) ∙ sym c.in-Open.ensures in
    search_returns types top s.marks.items s.order.items s.stack.items c.args.frame is c.args.number
    (holds_item types c.args.frame c.args.number (item_of_module types c.args.frame c.args.number item)) opened

pub returns-in_ok-enter-in-New : goal.returns-in_ok-enter-in-New
returns-in_ok-enter-in-New c types top item is =
    let s = c.args.search.now in
    search_same types top _ _ s.order.items _ _ _ c.in_ok-enter-in-New.ensures.marks c.enter.ensures.order c.in_ok-enter-in-New.ensures.stack
    (search_enter types top s.marks.items s.order.items s.stack.items c.args.frame is c.args.number
    (holds_item types c.args.frame c.args.number (item_of_module types c.args.frame c.args.number item)))
