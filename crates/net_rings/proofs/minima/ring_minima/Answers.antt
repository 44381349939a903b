use Rattle.std.proofs.Common.{◌≡◌, ◌+◌, ◌<◌, ◌≤◌, ◌⊎◌, ◌∙◌, [], inl, inr, ℕ, List, Some, get_or, sym, ap, subst, arith}
use Rattle.std.specs.List.{slice_get}
use Rattle.std.proofs.lemmas.Bool.{cases_lt}
use Rattle.std.proofs.lemmas.Option.{get_or_from_slice_get, slice_get-get_or, slice_get_within}
use Rattle.list_defs.specs.Members.{IsIn}
use Rattle.list_defs.proofs.Few.{place_of_member}
use Rattle.list_defs.proofs.Members.{IsIn-slice_get}
use Rattle.list_defs.specs.Rings.{IsReached}
use Rattle.net_rings.specs.Fed.{IsFedByThere}
use Rattle.net_rings.specs.Least.{AreAllRanked, AreRanked, HasRank, IsFedFrom, IsLeastOfRing, IsPlaceOf, bits_to}
use Rattle.net_rings.specs.Peeled.{IsCore}
use Rattle.net_rings.specs.declared.minima.Ranked.{Ranked}
use Rattle.net_rings.proofs.LeastLemmas.{comes_back_so, comes_from}
use Rattle.net_rings.proofs.minima.ring_minima.Goals as goal

pub loop-place-preserved : goal.loop-place-preserved
loop-place-preserved c = record {
  rows = c.in_ok-taken.ensures.rows;
  counted = c.in_ok-taken.ensures.counted;
  marks = c.in_ok-keep_on_ring.ensures.below;
  taken = c.in_ok-taken.ensures.within;
  low = λ ranked i a before is j b behind there.
      let high = ranked.rise place j item b (omega (arith, behind)) item_is there in
      let below = (place_is ranked).before i a before is in
      omega (arith, high, below);
  kept = λ sources core. after sources core;
  only = λ sources core ranked all n inside. only sources core ranked all n (c.in_ok-keep_on_ring.ensures.only n inside);
  each = λ sources core ranked all i a before is least. each sources core ranked all i a before is least (cases_lt i place);
}
  where
    place : ℕ
    place = c.loop-place.place

    order : List Ranked
    order = c.args.order.now

    item : Ranked
    item = get_or order place (record { bit = 0; rank = 0 })

    item_is : slice_get order place ≡ Some item
    item_is = slice_get-get_or order place (record { bit = 0; rank = 0 }) c.loop-place-test.true

    has : HasRank order item.bit item.rank
    has = IsIn-slice_get order place item item_is

    place_is : AreRanked order → IsPlaceOf order item.rank c.in_ok-taken.taken
    place_is ranked = c.in_ok-taken.ensures.place ranked (λ i a before is. c.loop-place.invariant.low ranked i a before is place item (omega arith) item_is)

    after : (sources : List (List ℕ)) → IsCore sources [] c.args.core → IsCore sources (bits_to order c.in_ok-taken.taken) c.take_below.new.core
    after sources core = c.in_ok-taken.ensures.taken sources (c.loop-place.invariant.kept sources core)

    only : (sources : List (List ℕ)) → IsCore sources [] c.args.core → AreRanked order → AreAllRanked sources order → (n : ℕ)
        → IsIn n c.loop-place.found.items ⊎ ((n ≡ item.bit) × IsReached (IsFedByThere c.take_below.new.core.rows) item.bit item.bit) → IsLeastOfRing sources order n
    only sources core ranked all n (inl early) = c.loop-place.invariant.only sources core ranked all n early
    only sources core ranked all n (inr (same, ring)) =
        let least : IsLeastOfRing sources order item.bit = record {
          rank = item.rank;
          ranked = has;
          ring = comes_from sources order ranked all c.take_below.new.core c.in_ok-taken.taken item.rank (after sources core) (place_is ranked) item.bit ring;
        } in
        subst (IsLeastOfRing sources order) (sym same) least

    here : (sources : List (List ℕ)) → IsCore sources [] c.args.core → AreRanked order → AreAllRanked sources order → IsLeastOfRing sources order item.bit
        → IsIn item.bit c.keep_on_ring.new.found.items
    here sources core ranked all least =
        let same : least.rank ≡ item.rank = ranked.one item.bit least.rank item.rank least.ranked has in
        let ring = subst (λ rank. IsReached (IsFedFrom sources order rank) item.bit item.bit) same least.ring in
        c.in_ok-keep_on_ring.ensures.each
        (comes_back_so sources order ranked all c.take_below.new.core c.in_ok-taken.taken item.rank (after sources core) (place_is ranked) item.bit ring)

    each : (sources : List (List ℕ)) → IsCore sources [] c.args.core → AreRanked order → AreAllRanked sources order → (i : ℕ) (a : Ranked) → i < place + 1
        → slice_get order i ≡ Some a → IsLeastOfRing sources order a.bit → (i < place) ⊎ (place ≤ i) → IsIn a.bit c.keep_on_ring.new.found.items
    each sources core ranked all i a before is least (inl early) =
        c.in_ok-keep_on_ring.ensures.kept a.bit (c.loop-place.invariant.each sources core ranked all i a early is least)
    each sources core ranked all i a before is least (inr late) =
        let last : i ≡ place = omega (arith, before, late) in
        let same : item ≡ a = ap (λ k. get_or order k (record { bit = 0; rank = 0 })) (sym last) ∙ get_or_from_slice_get order i a (record { bit = 0; rank = 0 }) is in
        subst (λ (r : Ranked). IsIn r.bit c.keep_on_ring.new.found.items) same
        (here sources core ranked all (subst (λ (r : Ranked). IsLeastOfRing sources order r.bit) (sym same) least))

pub returns : goal.returns
returns c sources core ranked all n = (
  λ inside. c.loop-place.invariant.only sources core ranked all n inside,
  λ least.
      let at = place_of_member (record { bit = n; rank = least.rank }) c.args.order.now least.ranked in
      c.loop-place.invariant.each sources core ranked all at.0 (record { bit = n; rank = least.rank })
      (omega (arith, slice_get_within c.args.order.now at.0 (record { bit = n; rank = least.rank }) at.1, c.loop-place-test.false)) at.1 least,
)
