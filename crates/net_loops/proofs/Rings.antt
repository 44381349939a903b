-- The least bits of rings by their numbers are those of the hierarchy.
use Rattle.std.proofs.Common.{◌≡◌, ◌≢◌, ℕ, ◌<◌, ◌≤◌, ◌⊎◌, inl, inr, List, Some, slice_get, refl, sym, ap, ◌∙◌, subst, arith}
use Rattle.std.specs.declared.cmp.Ordering.TheVariants.{Less}
use Rattle.std.proofs.lemmas.Bool.{cases_lt}
use Rattle.std.proofs.lemmas.Cmp.{nat_list_cmp_total}
use Rattle.std.proofs.lemmas.Option.{same_Some}
use Rattle.list_defs.specs.Members.{IsIn}
use Rattle.list_defs.specs.Orders.{AreAllRising, name_cmp}
use Rattle.list_defs.specs.Rings.{IsReached}
use Rattle.list_defs.proofs.Few.{place_of_member}
use Rattle.list_defs.proofs.Members.{IsIn-slice_get}
use Rattle.list_defs.proofs.OneList.{one_place}
use Rattle.design_defs.specs.Bits.{HasSpotName, IsSpot, Spot, spot_cmp}
use Rattle.design_defs.specs.DesignFaults.{IsLeastOnRing}
use Rattle.design_defs.specs.Hierarchy.{Sources}
use Rattle.design_defs.specs.Links.{Feeds}
use Rattle.design_defs.proofs.BitOrders.{spot_total}
use Rattle.net_rings.specs.Fed.{IsFedBy}
use Rattle.net_rings.specs.Least.{AreAllRanked, AreRanked, HasRank, IsFedFrom, IsLeastOfRing}
use Rattle.net_rings.specs.declared.minima.Ranked.{Ranked}
use Rattle.design_laws.proofs.RingLemmas.{first_step}
use Rattle.net_rings.proofs.RingLaws.{reached_both, reached_last}
use Rattle.net_loops.specs.Ranks.{AreNameRanks}
use Rattle.list_defs.proofs.Rising.{not_before_itself}
use Rattle.design_defs.proofs.OneDesign.{spot_name}
use Rattle.design_laws.proofs.OneFeed.{IsGhost}

module _ (s : Sources) (spots : List Spot) (all : AreAllRising spot_cmp (IsSpot s) spots) (graph : List (List ℕ))
    (edge_of : (n m : ℕ) → IsFedBy graph n m → (x y : Spot) × (slice_get spots n ≡ Some x) × (slice_get spots m ≡ Some y) × Feeds s x y)
    (edge_to : (n m : ℕ) (x y : Spot) → slice_get spots n ≡ Some x → slice_get spots m ≡ Some y → Feeds s x y → IsFedBy graph n m)
    (between : (x y z : Spot) → Feeds s x y → Feeds s y z → IsSpot s y)
    (one : (x z y : Spot) → IsSpot s x → IsSpot s z → Feeds s x z → Feeds s x y → (y ≡ z) ⊎ IsGhost s y z) where
  number_of : (x : Spot) → IsSpot s x → (n : ℕ) × (slice_get spots n ≡ Some x)
  number_of x is = place_of_member x spots (all.all x is)

  spot_at : (n : ℕ) (x : Spot) → slice_get spots n ≡ Some x → IsSpot s x
  spot_at n x at = all.each x (IsIn-slice_get spots n x at)

  one_number : (n m : ℕ) (x : Spot) → slice_get spots n ≡ Some x → slice_get spots m ≡ Some x → n ≡ m
  one_number n m x at other = one_place spot_cmp spot_total spots all.rising n m x at other

  -- the first step of a way
  pub reach_to : (x y : Spot) (n m : ℕ) → slice_get spots n ≡ Some x → slice_get spots m ≡ Some y → IsReached (Feeds s) x y → IsReached (IsFedBy graph) n m
  reach_to _ _ n m at_x at_y (IsReached.one x y step) = IsReached.one n m (edge_to n m x y at_x at_y step)
  reach_to _ _ n m at_x at_y (IsReached.more x z y step rest) =
      let next = first_step (Feeds s) z y rest in
      let k = number_of z (between x z next.0 step next.1) in
      IsReached.more n k.0 m (edge_to n k.0 x z at_x k.1 step) (reach_to z y k.0 m k.1 at_y rest)

  feeds_of : (n m : ℕ) (x y : Spot) → slice_get spots n ≡ Some x → slice_get spots m ≡ Some y → IsFedBy graph n m → Feeds s x y
  feeds_of n m x y at_x at_y step =
      let e = edge_of n m step in
      subst (λ w. Feeds s x w) (same_Some e.1 y (sym e.3 ∙ at_y)) (subst (λ v. Feeds s v e.1) (same_Some e.0 x (sym e.2 ∙ at_x)) e.4)

  reach_of : (n m : ℕ) (x y : Spot) → slice_get spots n ≡ Some x → slice_get spots m ≡ Some y → IsReached (IsFedBy graph) n m → IsReached (Feeds s) x y
  reach_of _ _ x y at_x at_y (IsReached.one n m step) = IsReached.one x y (feeds_of n m x y at_x at_y step)
  reach_of _ _ x y at_x at_y (IsReached.more n k m step rest) =
      let e = edge_of n k step in
      let same : e.0 ≡ x = same_Some e.0 x (sym e.2 ∙ at_x) in
      IsReached.more x e.1 y (subst (λ v. Feeds s v e.1) same e.4) (reach_of k m e.1 y e.3 at_y rest)

  -- what feeds a bit is one
  one_edge : (n m k : ℕ) → IsFedBy graph n m → IsFedBy graph n k → m ≡ k
  one_edge n m k first second =
      let e = edge_of n m first in
      let f = edge_of n k second in
      let same : f.0 ≡ e.0 = same_Some f.0 e.0 (sym f.2 ∙ e.2) in
      elim (one e.0 e.1 f.1 (spot_at n e.0 e.2) (spot_at m e.1 e.3) e.4 (subst (λ v. Feeds s v f.1) same f.4)) [
        | inl is ↦ one_number m k e.1 e.3 (f.3 ∙ ap Some is)
        | inr ghost ↦ absurd (ghost.no_bit (spot_at k f.1 f.3))
      ]

  fed_of : (order : List Ranked) (rank n m : ℕ) → IsReached (IsFedFrom graph order rank) n m → IsReached (IsFedBy graph) n m
  fed_of order rank _ _ (IsReached.one n m step) = IsReached.one n m step.0
  fed_of order rank _ _ (IsReached.more n k m step rest) = IsReached.more n k m step.0 (fed_of order rank k m rest)

  module _ (bits : List ℕ) (order : List Ranked) (names : AreNameRanks s spots bits order) (within : (n : ℕ) → IsIn n bits → (x : Spot) × (slice_get spots n ≡ Some x)) where
    named : (x : Spot) → IsSpot s x → (name : List ℕ) × HasSpotName s x name
    named x is = spot_name s x is

    pub are_ranked : AreRanked order
    are_ranked = record { one = same_rank; rise = names.rise }
      where
        not_less : (n r q : ℕ) → HasRank order n r → HasRank order n q → r < q → ⊥
        not_less n r q has other less =
            let x = within n (names.only n r has) in
            let name = named x.0 (spot_at n x.0 x.1) in
            not_before_itself name_cmp nat_list_cmp_total name.0 ((names.less n n r q x.0 x.0 name.0 name.0 has other x.1 x.1 name.1 name.1).0 less)

        same_rank : (n r q : ℕ) → HasRank order n r → HasRank order n q → r ≡ q
        same_rank n r q has other = by (cases_lt r q) (cases_lt q r)
          where
            by : (r < q) ⊎ (q ≤ r) → (q < r) ⊎ (r ≤ q) → r ≡ q
            by (inl less) second = absurd (not_less n r q has other less)
            by (inr low) (inl less) = absurd (not_less n q r other has less)
            by (inr low) (inr high) = omega (arith, low, high)

    -- A RING on which no bit is ranked below the first one.
    module _ (n rank : ℕ) (has : HasRank order n rank) (ring : IsReached (IsFedFrom graph order rank) n n) where
      record IsOnRing (m : ℕ) : Type 0 where
        number : ℕ
        ranked : HasRank order m number
        low : rank ≤ number
        back : IsReached (IsFedFrom graph order rank) m n

      start : IsOnRing n
      start = record { number = rank; ranked = has; low = omega arith; back = ring }

      -- the next bit of the ring
      record HasNext (k : ℕ) : Type 0 where
        next : ℕ
        step : IsFedBy graph k next
        on_ring : IsOnRing next

      next_of : (k l : ℕ) → l ≡ n → IsReached (IsFedFrom graph order rank) k l → HasNext k
      next_of _ _ same (IsReached.one k l step) =
          record { next = l; step = step.0; on_ring = record { number = step.1; ranked = step.2; low = step.3; back = subst (λ (m : ℕ). IsReached (IsFedFrom graph order rank) m n) (sym same) ring } }
      next_of _ _ same (IsReached.more k m l step rest) =
          record { next = m; step = step.0; on_ring = record { number = step.1; ranked = step.2; low = step.3; back = subst (λ (j : ℕ). IsReached (IsFedFrom graph order rank) m j) same rest } }

      further : (k m : ℕ) → IsOnRing k → IsFedBy graph k m → IsOnRing m
      further k m on step = let next = next_of k n refl on.back in subst IsOnRing (one_edge k next.next m next.step step) next.on_ring

      module _ (x : Spot) (name : List ℕ) (at_x : slice_get spots n ≡ Some x) (is_name : HasSpotName s x name) where
        not_before : (m : ℕ) (y : Spot) (other : List ℕ) → IsOnRing m → slice_get spots m ≡ Some y → HasSpotName s y other → name_cmp other name ≢ Less
        not_before m y other on at_y is less =
            let small = (names.less m n on.number rank y x other name on.ranked has at_y at_x is is_name).1 less in
            absurd (omega (arith, small, on.low))

        none_before : (k : ℕ) (w y : Spot) (other : List ℕ) → slice_get spots k ≡ Some w → IsOnRing k → IsReached (Feeds s) w y → HasSpotName s y other → name_cmp other name ≢ Less
        none_before k _ _ other at_w on (IsReached.one w y step) is =
            let next = next_of k n refl on.back in
            let e = edge_of k next.next next.step in
            let same : e.0 ≡ w = same_Some e.0 w (sym e.2 ∙ at_w) in
            elim (one w e.1 y (spot_at k w at_w) (spot_at next.next e.1 e.3) (subst (λ v. Feeds s v e.1) same e.4) step) [
              | inl is_bit ↦ not_before next.next e.1 other next.on_ring e.3 (subst (λ v. HasSpotName s v other) is_bit is)
              | inr ghost ↦ not_before next.next e.1 other next.on_ring e.3 (ghost.named other is)
            ]
        none_before k _ _ other at_w on (IsReached.more w v y step rest) is =
            let after = first_step (Feeds s) v y rest in
            let m = number_of v (between w v after.0 step after.1) in
            none_before m.0 v y other m.1 (further k m.0 on (edge_to k m.0 w v at_w m.1 step)) rest is

        on_ring_least : IsLeastOnRing s x name
        on_ring_least = record {
          named = is_name;
          ring = reach_of n n x x at_x at_x (fed_of order rank n n ring);
          least = λ y other reached is. none_before n x y other at_x start reached is;
        }

    pub least_of_ring : (n : ℕ) (x : Spot) (name : List ℕ) → slice_get spots n ≡ Some x → HasSpotName s x name → IsLeastOfRing graph order n → IsLeastOnRing s x name
    least_of_ring n x name at_x is least = on_ring_least n least.rank least.ranked least.ring x name at_x is

    -- a bit on a ring is one that there is
    pub ring_spot : (x : Spot) → IsReached (Feeds s) x x → IsSpot s x
    ring_spot x ring = by x x refl ring
      where
        by : (v y : Spot) → y ≡ x → IsReached (Feeds s) v y → IsSpot s x
        by _ _ same (IsReached.one v y step) = let out = first_step (Feeds s) x x ring in subst (IsSpot s) same (between v y out.0 step (subst (λ z. Feeds s z out.0) (sym same) out.1))
        by _ _ same (IsReached.more v z y step rest) = by z y same rest

    -- all bits of the least one's ring are ranked, and none below it
    pub ring_of_least : AreAllRanked graph order → (n : ℕ) (x : Spot) (name : List ℕ) → slice_get spots n ≡ Some x → IsLeastOnRing s x name → IsLeastOfRing graph order n
    ring_of_least ranked n x name at_x least = record { rank = rank; ranked = has; ring = from_here n n refl (inl refl) whole }
      where
        whole : IsReached (IsFedBy graph) n n
        whole = reach_to x x n n at_x at_x least.ring

        rank : ℕ
        rank = (ranked n whole).0

        has : HasRank order n rank
        has = (ranked n whole).1

        low_at : (m : ℕ) (y : Spot) (q : ℕ) → slice_get spots m ≡ Some y → IsReached (IsFedBy graph) n m → HasRank order m q → rank ≤ q
        low_at m y q at_y reached is = by (cases_lt q rank)
          where
            other : (name : List ℕ) × HasSpotName s y name
            other = named y (spot_at m y at_y)

            by : (q < rank) ⊎ (rank ≤ q) → rank ≤ q
            by (inr low) = low
            by (inl small) =
                absurd (least.least y other.0 (reach_of n m x y at_x at_y reached) other.1 ((names.less m n q rank y x other.0 name is has at_y at_x other.1 least.named).0 small))

        from_here : (k l : ℕ) → l ≡ n → (k ≡ n) ⊎ IsReached (IsFedBy graph) n k → IsReached (IsFedBy graph) k l → IsReached (IsFedFrom graph order rank) k l
        from_here _ _ same before (IsReached.one k l step) =
            IsReached.one k l (step, rank, subst (λ (m : ℕ). HasRank order m rank) (sym same) has, omega arith)
        from_here _ _ same before (IsReached.more k m l step rest) =
            let to_m : IsReached (IsFedBy graph) n m = elim before [
              | inl is ↦ IsReached.one n m (subst (λ (j : ℕ). IsFedBy graph j m) is step)
              | inr way ↦ reached_last (IsFedBy graph) n k m way step
            ] in
            let back : IsReached (IsFedBy graph) m n = subst (λ (j : ℕ). IsReached (IsFedBy graph) m j) same rest in
            let q = ranked m (reached_both (IsFedBy graph) m n m back to_m) in
            let y = within m (names.only m q.0 q.1) in
            IsReached.more k m l (step, q.0, q.1, low_at m y.0 q.0 y.1 to_m q.1) (from_here m l same (inr to_m) rest)
