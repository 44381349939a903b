use Rattle.std.proofs.Common.{◌∙◌}
use Rattle.std.proofs.lemmas.Map.Iter.{rest_more, rest_all}
use Rattle.std.specs.Map.Iter.{deref}
use Rattle.unit_lists.proofs.ListedLemmas.{listing_begins, listing_more, listing_stops, listing_ends}
use Rattle.unit_lists.proofs.SetLemmas.{other_view, same_view}
use Rattle.unit_lists.proofs.flow.listed.Goals as goal

pub loop-pair-init : goal.loop-pair-init
loop-pair-init g c = record {
  can = tt;
  finite = tt;
  listing =
      listing_begins g.V.Ord.cmp c.args.pairs.now.keys c.args.view c.args.least c.new-found.result.items c.into_iter-pair-iterator.result c.requires.least
      c.range-pair-items.ensures.ordered c.new-found.ensures.items (c.into_iter-pair-iterator.ensures.into_iter_gives ∙ c.range-pair-items.ensures.between tt);
}

pub returns-then-ne : goal.returns-then-ne
returns-then-ne g c =
    listing_stops g.V.Ord.cmp c.args.pairs.now.keys c.args.view c.loop-pair.found.items c.in-Some.pair.now c.loop-pair.pair-iterator c.next.new.self
    (other_view c.in-Some.pair.now.0 c.args.view c.ne.result c.ne.ensures c.if-ne.true)
    (rest_more deref c.loop-pair.pair-iterator c.next.new.self c.next.result c.in-Some.pair c.in-Some.is c.next.ensures.steps) c.loop-pair.invariant.listing

pub loop-pair-preserved : goal.loop-pair-preserved
loop-pair-preserved g c = record {
  can = tt;
  finite = tt;
  listing =
      listing_more g.V.Ord.cmp c.args.pairs.now.keys c.args.view c.loop-pair.found.items c.push.new.self.items c.in-Some.pair.now c.loop-pair.pair-iterator c.next.new.self
      (same_view c.in-Some.pair.now.0 c.args.view c.ne.result c.ne.ensures c.if-ne.false)
      (rest_more deref c.loop-pair.pair-iterator c.next.new.self c.next.result c.in-Some.pair c.in-Some.is c.next.ensures.steps) c.in_ok-push.ensures.items
      c.loop-pair.invariant.listing;
}

pub returns : goal.returns
returns g c =
    listing_ends g.V.Ord.cmp c.args.pairs.now.keys c.args.view c.loop-pair.found.items c.loop-pair.pair-iterator
    (rest_all deref c.loop-pair.pair-iterator c.next.new.self c.next.result c.in-None.is c.next.ensures.steps) c.loop-pair.invariant.listing
