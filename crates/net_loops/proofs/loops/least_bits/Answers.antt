use Rattle.std.proofs.Common.{◌≡◌, ◌==◌, ◌<◌, ◌∙◌, ℕ, List, length, ap, subst, sym}
use Rattle.std.proofs.lemmas.Bool.{eqb-true}
use Rattle.std.proofs.lemmas.List.{nil_from_length}
use Rattle.std.specs.Prelude.{◌↔◌}
use Rattle.list_defs.specs.Members.{IsIn}
use Rattle.list_defs.specs.Rings.{IsReached}
use Rattle.net_rings.specs.Fed.{IsFedBy}
use Rattle.net_rings.specs.Least.{AreAllRanked, AreRanked, IsLeastOfRing}
use Rattle.net_rings.specs.declared.minima.Ranked.{Ranked}
use Rattle.net_loops.specs.Least.{AreMarked, AreMarkedRanks}
use Rattle.net_loops.specs.Ranks.{AreNameRanks}
use Rattle.net_loops.proofs.LeastBits.{all_ranked, least_are, left_within, no_ring, order_ranked}
use Rattle.net_loops.proofs.loops.least_bits.Goals as goal

pub returns-then-is_empty : goal.returns-then-is_empty
returns-then-is_empty c s spots links ready sources =
    let rings : (n : ℕ) → IsReached (IsFedBy c.in_ok-graph.graph) n n → IsIn n c.in_ok-bits.bits.items =
    λ n ring. c.in_ok-bits.ensures.rings c.in_ok-graph.graph c.in_ok-core.ensures n ring in
    no_ring s c.args.placed.now links spots c.args.feeds.now ready c.args.inner.now sources c.in_ok-graph.graph c.in_ok-graph.ensures c.in_ok-bits.bits.items rings
    (nil_from_length c.in_ok-bits.bits.items (eqb-true (length c.in_ok-bits.bits.items) 0
    (ap (λ (xs : List ℕ). length xs == 0) (sym c.as_slice.ensures.value) ∙ sym c.is_empty.ensures ∙ c.if-is_empty.true)))

pub returns : goal.returns
returns c s spots links ready sources =
    let p = c.args.placed.now in
    let feeds = c.args.feeds.now in
    let inner = c.args.inner.now in
    let graph : List (List ℕ) = c.in_ok-graph.graph in
    let core = c.in_ok-core.core in
    let bits : List ℕ = c.in_ok-bits.bits.items in
    let order : List Ranked = c.in_ok-order.order.items in
    let rings : (n : ℕ) → IsReached (IsFedBy graph) n n → IsIn n bits = λ n ring. c.in_ok-bits.ensures.rings graph c.in_ok-core.ensures n ring in
    let there : (n : ℕ) → IsIn n bits → n < length spots =
    λ n at. left_within s p links spots feeds ready inner sources graph c.in_ok-graph.ensures core c.in_ok-core.ensures n ((c.in_ok-bits.ensures.there n).0 at) in
    let bits_are : c.as_slice-2.result.now ≡ bits = c.as_slice-2.ensures.value in
    let names : AreNameRanks s spots bits order =
    subst (λ (bs : List ℕ). AreNameRanks s spots bs order) bits_are (c.in_ok-order.ensures s ready.placed spots ready.all) in
    let ranked = order_ranked s p links spots feeds ready inner sources graph c.in_ok-graph.ensures bits rings there order names in
    let every = all_ranked s p links spots feeds ready inner sources graph c.in_ok-graph.ensures bits rings there order names in
    let minima : (n : ℕ) → IsIn n c.in_ok-minima.minima.items ↔ IsLeastOfRing graph order n =
    subst (λ (os : List Ranked). (n : ℕ) → IsIn n c.in_ok-minima.minima.items ↔ IsLeastOfRing graph os n) c.as_slice-3.ensures.value
    (c.in_ok-minima.ensures graph c.in_ok-core.ensures (subst (λ (os : List Ranked). AreRanked os) (sym c.as_slice-3.ensures.value) ranked)
    (subst (λ (os : List Ranked). AreAllRanked graph os) (sym c.as_slice-3.ensures.value) every)) in
    let marked : AreMarked c.in_ok-minima.minima.items (length feeds) c.in_ok-marks.marks.items =
    subst (λ (ms : List ℕ). AreMarked ms (length feeds) c.in_ok-marks.marks.items) c.as_slice-4.ensures.value
    c.in_ok-marks.ensures in
    let ranks : AreMarkedRanks order c.in_ok-marks.marks.items c.in_ok-ranks.ranks.items =
    subst (λ (os : List Ranked). AreMarkedRanks os c.in_ok-marks.marks.items c.in_ok-ranks.ranks.items) c.as_slice-5.ensures.value
    (subst (λ ms. AreMarkedRanks c.as_slice-5.result.now ms c.in_ok-ranks.ranks.items) c.as_slice-6.ensures.value c.in_ok-ranks.ensures) in
    least_are s p links spots feeds ready inner sources graph c.in_ok-graph.ensures bits rings there order names c.in_ok-minima.minima.items minima c.in_ok-marks.marks.items marked
    c.in_ok-ranks.ranks.items ranks
