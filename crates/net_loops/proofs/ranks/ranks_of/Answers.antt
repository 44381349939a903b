use Rattle.std.proofs.Common.{◌≡◌, List, subst}
use Rattle.std.specs.List.Sorted.{IsSorted}
use Rattle.net_rings.specs.declared.minima.Ranked.{Ranked}
use Rattle.net_loops.specs.Ranks.{AreRankedSo, spelled_cmp}
use Rattle.net_loops.specs.declared.ranks.Spelled.{Spelled}
use Rattle.net_loops.proofs.NameRanks.{name_ranks}
use Rattle.net_loops.proofs.ranks.ranks_of.Goals as goal

pub returns : goal.returns
returns c s there spots rising =
    let sorted : List Spelled = c.sort.new.all.items in
    let order : List Ranked = c.in_ok-order.order.items in
    let same : c.as_slice.result.now ≡ sorted = c.as_slice.ensures.value in
    let so : AreRankedSo sorted order =
    subst (λ (xs : List Spelled). IsSorted spelled_cmp xs → AreRankedSo xs order) same c.in_ok-order.ensures c.in_ok-sort.ensures.sorted in
    name_ranks c.args.placed.now c.args.bits.now c.in_ok-all.all.items sorted order c.in_ok-all.ensures c.in_ok-sort.ensures.same so s there spots rising
