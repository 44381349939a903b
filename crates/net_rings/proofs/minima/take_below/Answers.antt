use Rattle.std.proofs.Common.{◌≡◌, ◌+◌, ◌<◌, ◌≤◌, ◌⊎◌, ◌∙◌, inl, inr, ℕ, List, Some, get_or, length, sym, ap, subst, arith, rules}
use Rattle.std.specs.List.{slice_get}
use Rattle.std.proofs.lemmas.Bool.{cases_lt}
use Rattle.std.proofs.lemmas.List.{map_more}
use Rattle.std.proofs.lemmas.Option.{get_or_from_slice_get, slice_get_within}
use Rattle.net_rings.specs.Least.{bits_to}
use Rattle.net_rings.specs.Peeled.{IsCore}
use Rattle.net_rings.specs.declared.minima.Ranked.{Ranked}
use Rattle.net_rings.proofs.minima.take_below.Goals as goal

pub loop-place-preserved : goal.loop-place-preserved
loop-place-preserved c = record {
  rows = c.in_ok-take_out.ensures.rows;
  counted = c.in_ok-take_out.ensures.counted;
  from = omega (arith, c.loop-place.invariant.from);
  low = λ i a after before is. by i a after before is (cases_lt i place);
  kept = λ sources core.
      subst (λ taken. IsCore sources taken c.take_out.new.core) (sym (map_more (λ (a : Ranked). a.bit) order place none c.loop-place-test.true))
      (c.in_ok-take_out.ensures.taken sources (bits_to order place) (c.loop-place.invariant.kept sources core));
}
  where
    place : ℕ
    place = c.loop-place.place

    order : List Ranked
    order = c.args.order.now

    none : Ranked
    none = record { bit = 0; rank = 0 }

    by : (i : ℕ) (a : Ranked) → c.args.from ≤ i → i < place + 1 → slice_get order i ≡ Some a → (i < place) ⊎ (place ≤ i) → a.rank < c.args.rank
    by i a after before is (inl early) = c.loop-place.invariant.low i a after early is
    by i a after before is (inr late) =
        let last : i ≡ place = omega (arith, before, late) in
        let same : get_or order place none ≡ a = ap (λ k. get_or order k none) (sym last) ∙ get_or_from_slice_get order i a none is in
        subst (λ (r : Ranked). r.rank < c.args.rank) same (search rules)

pub returns-clause-taken : goal.returns-clause-taken
returns-clause-taken c sources core =
    let end : c.loop-place.place ≡ length c.args.order.now = search rules in
    subst (λ place. IsCore sources (bits_to c.args.order.now place) c.loop-place.core) end (c.loop-place.invariant.kept sources core)

pub returns-clause-place : goal.returns-clause-place
returns-clause-place c ranked low = record {
  before = λ i a within is. by i a within is (cases_lt i c.args.from);
  behind = λ i a past is. let within = slice_get_within c.args.order.now i a is in absurd (omega (arith, past, within));
}
  where
    end : c.loop-place.place ≡ length c.args.order.now
    end = search rules

    by : (i : ℕ) (a : Ranked) → i < length c.args.order.now → slice_get c.args.order.now i ≡ Some a → (i < c.args.from) ⊎ (c.args.from ≤ i) → a.rank < c.args.rank
    by i a within is (inl early) = low i a early is
    by i a within is (inr late) = c.loop-place.invariant.low i a late (omega (arith, within, end)) is
