-- Ranks that rise by spelled names are ranks by the names of bits.
use Rattle.std.proofs.Common.{◌≡◌, ℕ, ◌+◌, ◌<◌, ◌≤◌, ◌⊎◌, inl, inr, List, [], ◌∷◌, ◌++◌, Some, get_or, map, slice_get, refl, sym, ap, ◌∙◌, subst, arith}
use Rattle.std.specs.Prelude.{◌↔◌}
use Rattle.std.specs.List.Sorted.{IsPermutation}
use Rattle.std.specs.declared.cmp.Ordering.TheVariants.{Less}
use Rattle.std.proofs.lemmas.Bool.{cases_lt}
use Rattle.std.proofs.lemmas.List.{length_push}
use Rattle.std.proofs.lemmas.List.Sorted.{IsPermutation-sym}
use Rattle.std.proofs.lemmas.Option.{same_Some, slice_get-get_or, slice_get_within}
use Rattle.list_defs.specs.Members.{IsIn}
use Rattle.list_defs.specs.Orders.{AreAllRising, name_cmp}
use Rattle.list_defs.proofs.Few.{place_of_member}
use Rattle.list_defs.proofs.Longer.{slice_get_front, slice_get_last}
use Rattle.list_defs.proofs.Members.{IsIn-append_cases, IsIn-map, IsIn-map_from, IsIn-slice_get}
use Rattle.design_defs.specs.Bits.{HasSpotName, IsSpot, Spot, spot_cmp}
use Rattle.design_defs.specs.Hierarchy.{Sources}
use Rattle.port_order.proofs.Risings.{still_in}
use Rattle.net_bits.specs.Placed.{ArePlaced}
use Rattle.net_bits.specs.declared.placed.Placed.{Placed}
use Rattle.net_rings.specs.Least.{HasRank}
use Rattle.net_rings.specs.declared.minima.Ranked.{Ranked}
use Rattle.net_loops.specs.Ranks.{AreNameRanks, AreRankedFirst, AreRankedSo, AreSpelled, IsNextRank}
use Rattle.net_loops.specs.declared.ranks.Spelled.{Spelled}

-- one more bit with its name
pub spelled_more : (p : Placed) (bits more : List ℕ) (bit : ℕ) (all new : List Spelled) (a : Spelled) → more ≡ bits ++ bit ∷ [] → new ≡ all ++ a ∷ [] → a.bit ≡ bit
    → ((s : Sources) → ArePlaced s p → (spots : List Spot) → AreAllRising spot_cmp (IsSpot s) spots → (x : Spot) → slice_get spots a.bit ≡ Some x
    → (name : List ℕ) → HasSpotName s x name → a.name ≡ name) → AreSpelled p bits all → AreSpelled p more new
spelled_more p bits more bit all new a longer grown same named old =
    subst (λ (bs : List ℕ). AreSpelled p bs new) (sym longer) (subst (AreSpelled p (bits ++ bit ∷ [])) (sym grown) (record { same = bits_are; named = names_are }))
  where
    map_more : (xs : List Spelled) → map (λ (b : Spelled). b.bit) (xs ++ a ∷ []) ≡ map (λ (b : Spelled). b.bit) xs ++ a.bit ∷ []
    map_more [] = refl
    map_more (x ∷ xs) = ap (λ bs. x.bit ∷ bs) (map_more xs)

    bits_are : map (λ (b : Spelled). b.bit) (all ++ a ∷ []) ≡ bits ++ bit ∷ []
    bits_are = map_more all ∙ ap (λ bs. bs ++ a.bit ∷ []) old.same ∙ ap (λ (b : ℕ). bits ++ b ∷ []) same

    names_are : (s : Sources) → ArePlaced s p → (spots : List Spot) → AreAllRising spot_cmp (IsSpot s) spots → (b : Spelled) → IsIn b (all ++ a ∷ []) → (x : Spot)
        → slice_get spots b.bit ≡ Some x → (name : List ℕ) → HasSpotName s x name → b.name ≡ name
    names_are s there spots rising b at x at_x name is = by (IsIn-append_cases b all (a ∷ []) at)
      where
        by : IsIn b all ⊎ IsIn b (a ∷ []) → b.name ≡ name
        by (inl early) = old.named s there spots rising b early x at_x name is
        by (inr (inl last)) =
            ap (λ (c : Spelled). c.name) last ∙ named s there spots rising x (ap (λ (c : Spelled). slice_get spots c.bit) (sym last) ∙ at_x) name is
        by (inr (inr later)) = absurd later

-- one more rank
pub ranked_more : (all : List Spelled) (order new : List Ranked) (at rank next : ℕ) (a : Spelled) → AreRankedFirst all order at rank → slice_get all at ≡ Some a
    → new ≡ order ++ (record { bit = a.bit; rank = next }) ∷ []
    → ((b c : Spelled) (before : ℕ) → before + 1 ≡ at → slice_get all before ≡ Some b → slice_get all at ≡ Some c → IsNextRank b.name c.name rank next) → AreRankedFirst all new (at + 1) next
ranked_more all order new at rank next a old at_a grown step = subst (λ os. AreRankedFirst all os (at + 1) next) (sym grown) (record {
  count_is = omega (arith, length_push order last, old.count_is);
  bits = λ i b r at_b at_r. bits i b r at_b at_r (cases_lt i at);
  last = λ i r place at_r. ap (λ (x : Ranked). x.rank) (is_last i r (omega (arith, place)) at_r);
  step = λ i b c r q at_b at_c at_r at_q. step_at i b c r q at_b at_c at_r at_q (cases_lt (i + 1) at);
})
  where
    last : Ranked
    last = record { bit = a.bit; rank = next }

    is_last : (i : ℕ) (r : Ranked) → i ≡ at → slice_get (order ++ last ∷ []) i ≡ Some r → r ≡ last
    is_last i r place at_r = same_Some r last (sym at_r ∙ slice_get_last order last i (omega (arith, place, old.count_is)))

    is_early : (i : ℕ) (r : Ranked) → i < at → slice_get (order ++ last ∷ []) i ≡ Some r → slice_get order i ≡ Some r
    is_early i r early at_r = slice_get_front order (last ∷ []) i r (omega (arith, early, old.count_is)) at_r

    inside : (i : ℕ) (r : Ranked) → slice_get (order ++ last ∷ []) i ≡ Some r → i < at + 1
    inside i r at_r = omega (arith, slice_get_within (order ++ last ∷ []) i r at_r, length_push order last, old.count_is)

    bits : (i : ℕ) (b : Spelled) (r : Ranked) → slice_get all i ≡ Some b → slice_get (order ++ last ∷ []) i ≡ Some r → (i < at) ⊎ (at ≤ i) → r.bit ≡ b.bit
    bits i b r at_b at_r (inl early) = old.bits i b r at_b (is_early i r early at_r)
    bits i b r at_b at_r (inr late) =
        let place : i ≡ at = omega (arith, late, inside i r at_r) in
        ap (λ (x : Ranked). x.bit) (is_last i r place at_r) ∙ ap (λ (x : Spelled). x.bit) (same_Some a b (sym at_a ∙ ap (slice_get all) (sym place) ∙ at_b))

    step_at : (i : ℕ) (b c : Spelled) (r q : Ranked) → slice_get all i ≡ Some b → slice_get all (i + 1) ≡ Some c → slice_get (order ++ last ∷ []) i ≡ Some r
        → slice_get (order ++ last ∷ []) (i + 1) ≡ Some q → (i + 1 < at) ⊎ (at ≤ i + 1) → IsNextRank b.name c.name r.rank q.rank
    step_at i b c r q at_b at_c at_r at_q (inl early) = old.step i b c r q at_b at_c (is_early i r (omega (arith, early)) at_r) (is_early (i + 1) q early at_q)
    step_at i b c r q at_b at_c at_r at_q (inr late) =
        let place : i + 1 ≡ at = omega (arith, late, inside (i + 1) q at_q) in
        let before : r.rank ≡ rank = old.last i r place (is_early i r (omega (arith, place)) at_r) in
        let here : q.rank ≡ next = ap (λ (x : Ranked). x.rank) (is_last (i + 1) q place at_q) in
        subst (λ (k : ℕ). IsNextRank b.name c.name k q.rank) (sym before) (subst (λ (k : ℕ). IsNextRank b.name c.name rank k) (sym here)
        (step b c i place at_b (ap (slice_get all) (sym place) ∙ at_c)))

module _ (p : Placed) (bits : List ℕ) (all sorted : List Spelled) (order : List Ranked) (spelled : AreSpelled p bits all) (moved : IsPermutation all sorted) (so : AreRankedSo sorted order)
    (s : Sources) (there : ArePlaced s p) (spots : List Spot) (rising : AreAllRising spot_cmp (IsSpot s) spots) where
  -- the item of a rank
  record HasItem (n rank : ℕ) : Type 0 where
    i : ℕ
    a : Spelled
    r : Ranked
    at_a : slice_get sorted i ≡ Some a
    at_r : slice_get order i ≡ Some r
    is_a : IsIn a all
    bit : a.bit ≡ n
    rank_is : r.rank ≡ rank

  none : Spelled
  none = record { bit = 0; name = [] }

  no_rank : Ranked
  no_rank = record { bit = 0; rank = 0 }

  item_of : (n rank : ℕ) → HasRank order n rank → HasItem n rank
  item_of n rank has =
      let i = place_of_member (record { bit = n; rank = rank }) order has in
      let at_a : slice_get sorted i.0 ≡ Some (get_or sorted i.0 none) = slice_get-get_or sorted i.0 none (omega (arith, slice_get_within order i.0 (record { bit = n; rank = rank }) i.1, so.count)) in
      record {
        i = i.0;
        a = get_or sorted i.0 none;
        r = record { bit = n; rank = rank };
        at_a = at_a;
        at_r = i.1;
        is_a = still_in sorted all (IsPermutation-sym all sorted moved) (get_or sorted i.0 none) (IsIn-slice_get sorted i.0 (get_or sorted i.0 none) at_a);
        bit = sym (so.bits i.0 (get_or sorted i.0 none) (record { bit = n; rank = rank }) at_a i.1);
        rank_is = refl;
      }

  pub name_ranks : AreNameRanks s spots bits order
  name_ranks = record {
    ranked = λ n at.
        let a = IsIn-map_from (λ (b : Spelled). b.bit) n all (subst (IsIn n) (sym spelled.same) at) in
        let i = place_of_member a.0 sorted (still_in all sorted moved a.0 a.1) in
        let at_r : slice_get order i.0 ≡ Some (get_or order i.0 no_rank) = slice_get-get_or order i.0 no_rank (omega (arith, slice_get_within sorted i.0 a.0 i.1, so.count)) in
        let bit : (get_or order i.0 no_rank).bit ≡ n = so.bits i.0 a.0 (get_or order i.0 no_rank) i.1 at_r ∙ sym a.2 in
        ((get_or order i.0 no_rank).rank, subst (λ (k : ℕ). IsIn (record { bit = k; rank = (get_or order i.0 no_rank).rank }) order) bit (IsIn-slice_get order i.0 (get_or order i.0 no_rank) at_r));
    only = λ n rank has.
        let item = item_of n rank has in
        subst (λ (k : ℕ). IsIn k bits) item.bit (subst (IsIn item.a.bit) spelled.same (IsIn-map (λ (b : Spelled). b.bit) item.a all item.is_a));
    less = λ n m r q x y a b has_n has_m at_x at_y is_a is_b. less n m r q x y a b at_x at_y is_a is_b (item_of n r has_n) (item_of m q has_m);
    rise = so.rise;
  }
    where
      less : (n m r q : ℕ) (x y : Spot) (a b : List ℕ) → slice_get spots n ≡ Some x → slice_get spots m ≡ Some y → HasSpotName s x a → HasSpotName s y b → HasItem n r → HasItem m q
          → (r < q) ↔ (name_cmp a b ≡ Less)
      less n m r q x y a b at_x at_y is_a is_b i j =
          let name_a : i.a.name ≡ a = spelled.named s there spots rising i.a i.is_a x (ap (slice_get spots) i.bit ∙ at_x) a is_a in
          let name_b : j.a.name ≡ b = spelled.named s there spots rising j.a j.is_a y (ap (slice_get spots) j.bit ∙ at_y) b is_b in
          let is = so.less i.i j.i i.a j.a i.r j.r i.at_a j.at_a i.at_r j.at_r in (
            λ small. ap (λ z. name_cmp z b) (sym name_a) ∙ ap (name_cmp i.a.name) (sym name_b) ∙ is.0 (omega (arith, small, i.rank_is, j.rank_is)),
            λ small. let here = is.1 (ap (λ z. name_cmp z j.a.name) name_a ∙ ap (name_cmp a) name_b ∙ small) in omega (arith, here, i.rank_is, j.rank_is),
          )
