use Rattle.std.proofs.lemmas.Map.Iter.{rest_all, rest_more}
use Rattle.std.specs.Map.Iter.{deref}
use Rattle.unit_lists.proofs.ListLemmas.{list_ends, list_more, root_values}
use Rattle.unit_lists.proofs.lists.lists_of.Goals as goal

pub loop-view-preserved : goal.loop-view-preserved
loop-view-preserved c =
    list_more c.args.seen.now.keys c.args.values.now.keys c.loop-view.lists c.push.new.self
    (record { unit = c.in-Some.view.now.unit; root = c.in-Some.view.now.supply; values = c.in-Some-from_vec.values }) c.loop-view.view-iterator c.next.new.self
    (rest_more deref c.loop-view.view-iterator c.next.new.self c.next.result c.in-Some.view c.in-Some.is c.next.ensures.steps) c.in_ok-push.ensures.ok
    (root_values c.in-Some.view.now c.args.values.now.keys c.in_ok-found.found.items c.in-Some-from_vec.values c.in-Some-from_vec.ensures c.in_ok-found.ensures)
    c.loop-view.invariant

pub returns : goal.returns
returns c =
    list_ends c.args.seen.now.keys c.args.values.now.keys c.loop-view.lists c.loop-view.view-iterator c.into_iter-view-iterator.ensures.into_iter_gives.4
    (rest_all deref c.loop-view.view-iterator c.next.new.self c.next.result c.in-None.is c.next.ensures.steps) c.loop-view.invariant
