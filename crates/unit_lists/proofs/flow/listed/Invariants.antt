use Rattle.unit_lists.proofs.ListedLemmas.{IsListing}
use Rattle.unit_lists.proofs.flow.listed.Given as goal

abbrev pub invariant-loop-pair : goal.invariant-loop-pair
invariant-loop-pair g l = record {
  can : (goal.iterator-loop-pair g).can_next l.pair-iterator;
  finite : (goal.iterator-loop-pair g).is_finite l.pair-iterator;
  listing : IsListing g.V.Ord.cmp l.pairs.keys l.view l.found.items l.pair-iterator;
}
