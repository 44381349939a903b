use Rattle.net_text.specs.ItemViews.{item_view}
use Rattle.net_modules.proofs.items.next_item.Goals as goal

pub returns-clause-took : goal.returns-clause-took
returns-clause-took c = (item_view c.in_ok-item.item, c.in_ok-item.ensures.answers, (c.in_ok-add_content.ensures, c.in_ok-add_item.ensures))
