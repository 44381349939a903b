-- A bit comes back to itself through what is left exactly where it is the least of a ring.
use Rattle.std.proofs.Common.{◌≡◌, ℕ, zero, suc, ◌<◌, ◌≤◌, ◌⊎◌, inl, inr, Bool, true, false, List, [], ◌∷◌, Option, Some, None, refl, sym, ap, subst, arith}
use Rattle.std.specs.List.{slice_get}
use Rattle.std.proofs.lemmas.Bool.{cases_lt}
use Rattle.std.proofs.lemmas.Option.{same_Some}
use Rattle.list_defs.specs.Members.{IsIn}
use Rattle.list_defs.specs.Rings.{IsReached}
use Rattle.list_defs.proofs.Few.{place_of_member}
use Rattle.list_defs.proofs.Members.{IsIn-slice_get}
use Rattle.net_rings.specs.Fed.{IsFedBy, IsFedByThere, IsThere}
use Rattle.net_rings.specs.Least.{AreAllRanked, AreRanked, HasRank, IsFedFrom, IsPlaceOf, bits_to}
use Rattle.net_rings.specs.Peeled.{IsCore, IsFedByLeft}
use Rattle.net_rings.specs.declared.cores.Core.{Core}
use Rattle.net_rings.specs.declared.graphs.BitRow.{BitRow}
use Rattle.net_rings.specs.declared.minima.Ranked.{Ranked}
use Rattle.net_rings.proofs.RingLaws.{gone_apart, ring_turned}
use Rattle.net_rings.proofs.UseLemmas.{none_row}

-- a bit before a place of an order, and the other way round
pub in_front : (order : List Ranked) (place i : ℕ) (a : Ranked) → i < place → slice_get order i ≡ Some a → IsIn a.bit (bits_to order place)
in_front [] place i a before is = cc
in_front (b ∷ order) zero i a before is = absurd (omega arith)
in_front (b ∷ order) (suc place) zero a before is = inl (ap (λ (r : Ranked). r.bit) (sym (same_Some b a is)))
in_front (b ∷ order) (suc place) (suc i) a before is = inr (in_front order place i a (omega arith) is)

pub record Before (order : List Ranked) (place n : ℕ) : Type 0 where
  pub at : ℕ
  pub item : Ranked
  pub within : at < place
  pub there : slice_get order at ≡ Some item
  pub same : item.bit ≡ n

pub from_front : (order : List Ranked) (place n : ℕ) → IsIn n (bits_to order place) → Before order place n
from_front [] zero n inside = absurd inside
from_front [] (suc place) n inside = absurd inside
from_front (b ∷ order) zero n inside = absurd inside
from_front (b ∷ order) (suc place) n (inl same) = record { at = 0; item = b; within = omega arith; there = refl; same = sym same }
from_front (b ∷ order) (suc place) n (inr later) =
    let rest = from_front order place n later in
    record { at = suc rest.at; item = rest.item; within = omega (arith, rest.within); there = rest.there; same = rest.same }

-- a bit on a ring has a source
module _ (sources : List (List ℕ)) (taken : List ℕ) (core : Core) (is : IsCore sources taken core) where
  -- a bit on a ring of bits that weren't taken is there
  pub ring_there : (n : ℕ) → IsReached (IsFedByLeft sources taken) n n → IsThere core.rows.bits.items n
  ring_there n ring = at (slice_get core.rows.bits.items n) refl
    where
      first : IsReached (IsFedByLeft sources taken) n n → (b : ℕ) × IsFedBy sources n b
      first ring = first_of n n ring
        where
          first_of : (x y : ℕ) → IsReached (IsFedByLeft sources taken) x y → (b : ℕ) × IsFedBy sources x b
          first_of _ _ (IsReached.one x y step) = (y, step.0)
          first_of _ _ (IsReached.more x y z step rest) = (y, step.0)

      at : (o : Option BitRow) → slice_get core.rows.bits.items n ≡ o → IsThere core.rows.bits.items n
      at None past =
          let source = first ring in
          absurd (subst (IsIn source.0) (none_row core.rows n past) (subst (λ s. IsFedBy s n source.0) (sym is.peeled.same) source.1))
      at (Some row) here = by row.there refl
        where
          by : (b : Bool) → row.there ≡ b → IsThere core.rows.bits.items n
          by true is_so = (row, here, is_so)
          by false not_so = absurd (gone_apart sources taken n (is.peeled.gone n row here not_so) ring)

module _ (sources : List (List ℕ)) (order : List Ranked) (ranked : AreRanked order) (all : AreAllRanked sources order) (core : Core) (place rank : ℕ)
    (is : IsCore sources (bits_to order place) core) (place_is : IsPlaceOf order rank place) where
  -- what is ranked below was taken
  below_taken : (n r : ℕ) → HasRank order n r → r < rank → IsIn n (bits_to order place)
  below_taken n r has below =
      let at = place_of_member (record { bit = n; rank = r }) order has in
      by at.0 at.1 (cases_lt at.0 place)
    where
      by : (i : ℕ) → slice_get order i ≡ Some (record { bit = n; rank = r }) → (i < place) ⊎ (place ≤ i) → IsIn n (bits_to order place)
      by i is_at (inl before) = in_front order place i (record { bit = n; rank = r }) before is_at
      by i is_at (inr behind) = let high = place_is.behind i (record { bit = n; rank = r }) behind is_at in absurd (omega (arith, high, below))

  -- what isn't ranked below wasn't taken
  above_left : (n r : ℕ) → HasRank order n r → rank ≤ r → IsIn n (bits_to order place) → ⊥
  above_left n r has above inside =
      let found = from_front order place n inside in
      let own : HasRank order n found.item.rank =
      subst (λ k. IsIn (record { bit = k; rank = found.item.rank }) order) found.same (IsIn-slice_get order found.at found.item found.there) in
      let low = place_is.before found.at found.item found.within found.there in
      omega (arith, low, above, ranked.one n r found.item.rank has own)

  pub comes_from : (n : ℕ) → IsReached (IsFedByThere core.rows) n n → IsReached (IsFedFrom sources order rank) n n
  comes_from n ring = ring_turned (IsFedByThere core.rows) (IsFedFrom sources order rank) each n ring
    where
      fed : (a b : ℕ) → IsFedByThere core.rows a b → IsFedBy sources a b
      fed a b step = subst (λ s. IsFedBy s a b) is.peeled.same step.0

      each : (a b : ℕ) → IsFedByThere core.rows a b → IsReached (IsFedByThere core.rows) b b → IsFedFrom sources order rank a b
      each a b step around =
          let has = all b (ring_turned (IsFedByThere core.rows) (IsFedBy sources) (λ x y s _. fed x y s) b around) in
          (fed a b step, has.0, has.1, by has.0 has.1 (cases_lt has.0 rank))
        where
          by : (r : ℕ) → HasRank order b r → (r < rank) ⊎ (rank ≤ r) → rank ≤ r
          by r has (inl below) = absurd (is.peeled.taken_away b (below_taken b r has below) step.1)
          by r has (inr above) = above

  pub comes_back_so : (n : ℕ) → IsReached (IsFedFrom sources order rank) n n → IsReached (IsFedByThere core.rows) n n
  comes_back_so n ring = ring_turned (IsFedFrom sources order rank) (IsFedByThere core.rows) each n ring
    where
      left : (a b : ℕ) → IsFedFrom sources order rank a b → IsFedByLeft sources (bits_to order place) a b
      left a b step = (step.0, above_left b step.1 step.2 step.3)

      each : (a b : ℕ) → IsFedFrom sources order rank a b → IsReached (IsFedFrom sources order rank) b b → IsFedByThere core.rows a b
      each a b step around = (
        subst (λ s. IsFedBy s a b) (sym is.peeled.same) step.0,
        ring_there sources (bits_to order place) core is b
            (ring_turned (IsFedFrom sources order rank) (IsFedByLeft sources (bits_to order place)) (λ x y s _. left x y s) b around),
      )
