use Rattle.net_links.specs.LocalLinks.{locals}
use Rattle.net_links.proofs.SideLemmas.{none_popped, right_done}
use Rattle.net_links.proofs.pieces.put_sides.Goals as goal

pub returns-in_default-pop : goal.returns-in_default-pop
returns-in_default-pop c few_left few_right =
    let old = c.loop.right.items in
    let none = none_popped old c.pop-in-loop.new.self.items _ c.in_default-pop.ensures.items c.in_default-pop.ensures.rest c.in_default-pop.ensures.cases.0 in
    right_done c.args.line c.loop.left.items old (locals c.loop.rows) _ none (c.loop.invariant.links few_left few_right).2
