-- Ranks rise where names do.
use Rattle.std.proofs.Common.{◌≡◌, ◌≢◌, ℕ, zero, suc, ◌+◌, ◌-◌, ◌<◌, ◌≤◌, ◌⊎◌, inl, inr, true, false, List, [], Some, get_or, length, slice_get, refl, sym, ap, ◌∙◌, arith}
use Rattle.std.specs.Prelude.{◌↔◌}
use Rattle.std.specs.List.Sorted.{IsSorted}
use Rattle.std.specs.Ordering.{is_lt, ordering_reverse}
use Rattle.std.specs.declared.cmp.Ordering.{Ordering}
use Rattle.std.specs.declared.cmp.Ordering.TheVariants.{Less, Equal, Greater}
use Rattle.std.proofs.lemmas.Bool.{cases_lt}
use Rattle.std.proofs.lemmas.Map.Lookups.{exact_bytes}
use Rattle.std.proofs.lemmas.Cmp.{nat_list_cmp_total, tied_itself}
use Rattle.std.proofs.lemmas.List.Sorted.{ranks_by, sorted_far}
use Rattle.std.proofs.lemmas.Option.{get_or_from_slice_get, same_Some, slice_get-get_or, slice_get_within}
use Rattle.list_defs.specs.Orders.{name_cmp}
use Rattle.list_defs.proofs.Rising.{not_before_itself}
use Rattle.net_loops.specs.Ranks.{AreRankedFirst, AreRankedSo, IsNextRank, spelled_cmp}
use Rattle.net_loops.specs.declared.ranks.Spelled.{Spelled}
use Rattle.net_rings.specs.declared.minima.Ranked.{Ranked}

-- names that aren't in falling order
not_falling : (a b : List ℕ) → is_lt (name_cmp b a) ≡ false → name_cmp b a ≢ Less
not_falling a b calm less = let never : true ≡ false = sym (ap is_lt less) ∙ calm in cc

-- of names that don't fall and differ, the first comes before the second
before_other : (a b : List ℕ) → name_cmp b a ≢ Less → a ≢ b → name_cmp a b ≡ Less
before_other a b up other = by (name_cmp a b) refl
  where
    by : (o : Ordering) → name_cmp a b ≡ o → name_cmp a b ≡ Less
    by Less e = e
    by Equal e = absurd (other (exact_bytes a b e))
    by Greater e = absurd (up (nat_list_cmp_total.antisymm b a ∙ ap ordering_reverse e))

-- what comes before the first of two that don't fall comes before the second
before_both : (a b c : List ℕ) → name_cmp b a ≢ Less → name_cmp b c ≡ Less → name_cmp a c ≡ Less
before_both a b c up less = by (name_cmp a b) refl
  where
    by : (o : Ordering) → name_cmp a b ≡ o → name_cmp a c ≡ Less
    by Less e = nat_list_cmp_total.trans a b c e less
    by Equal e = nat_list_cmp_total.congr a b c e ∙ less
    by Greater e = absurd (up (nat_list_cmp_total.antisymm b a ∙ ap ordering_reverse e))

same_or_other_name : (a b : List ℕ) → (a ≡ b) ⊎ (a ≢ b)
same_or_other_name a b = by (name_cmp a b) refl
  where
    by : (o : Ordering) → name_cmp a b ≡ o → (a ≡ b) ⊎ (a ≢ b)
    by Less e = inr (λ same. not_before_itself name_cmp nat_list_cmp_total b (ap (λ x. name_cmp x b) (sym same) ∙ e))
    by Equal e = inl (exact_bytes a b e)
    by Greater e = inr (λ same. not_before_itself name_cmp nat_list_cmp_total a (ap (λ x. name_cmp x a) same ∙ nat_list_cmp_total.antisymm b a ∙ ap ordering_reverse e))

-- the rank stays where the name does
pub next_same : (a b : List ℕ) (rank : ℕ) → name_cmp a b ≡ Equal → IsNextRank a b rank rank
next_same a b rank e = record { same = λ same. refl; other = λ other. absurd (other (exact_bytes a b e)) }

-- another name has the next rank
pub next_other : (a b : List ℕ) (rank more : ℕ) → name_cmp a b ≢ Equal → more ≡ rank + 1 → IsNextRank a b rank more
next_other a b rank more differ next =
    record { same = λ same. absurd (differ (ap (λ x. name_cmp x b) same ∙ tied_itself nat_list_cmp_total b)); other = λ other. next }

module _ (all : List Spelled) (order : List Ranked) (rank : ℕ) (up : IsSorted spelled_cmp all) (first : AreRankedFirst all order (length all) rank) where
  -- what stands at two places of the sorted list
  far_names : (i j : ℕ) (a b : Spelled) → i ≤ j → slice_get all i ≡ Some a → slice_get all j ≡ Some b → name_cmp b.name a.name ≢ Less
  far_names i j a b low at_a at_b =
      let within : j < length all = slice_get_within all j b at_b in
      let no = sorted_far (λ x y. is_lt (spelled_cmp x y)) (ranks_by nat_list_cmp_total (λ (x : Spelled). x.name)) all up i j a low within in
      not_falling a.name b.name
      (ap (λ x. is_lt (spelled_cmp x a)) (sym (get_or_from_slice_get all j b a at_b)) ∙ ap (λ x. is_lt (spelled_cmp (get_or all j a) x)) (sym (get_or_from_slice_get all i a a at_a)) ∙ no)

  record IsFar (a b : Spelled) (r q : Ranked) : Type 0 where
    low : r.rank ≤ q.rank
    to : r.rank < q.rank → name_cmp a.name b.name ≡ Less
    from : name_cmp a.name b.name ≡ Less → r.rank < q.rank

  there : (i : ℕ) (d : Spelled) → i < length all → slice_get all i ≡ Some (get_or all i d)
  there i d within = slice_get-get_or all i d within

  ranked_there : (i : ℕ) (d : Ranked) → i < length all → slice_get order i ≡ Some (get_or order i d)
  ranked_there i d within = slice_get-get_or order i d (omega (arith, within, first.count_is))

  far : (i k : ℕ) (a b : Spelled) (r q : Ranked) → slice_get all i ≡ Some a → slice_get all (i + k) ≡ Some b → slice_get order i ≡ Some r → slice_get order (i + k) ≡ Some q
      → IsFar a b r q
  far i zero a b r q at_a at_b at_r at_q =
      let place : i + 0 ≡ i = omega arith in
      let same : a ≡ b = same_Some a b (sym at_a ∙ ap (slice_get all) (sym place) ∙ at_b) in
      let ranks : r ≡ q = same_Some r q (sym at_r ∙ ap (slice_get order) (sym place) ∙ at_q) in
      let numbers : r.rank ≡ q.rank = ap (λ (x : Ranked). x.rank) ranks in
      record {
        low = omega (arith, numbers);
        to = λ less. absurd (omega (arith, numbers, less));
        from = λ less. absurd (not_before_itself name_cmp nat_list_cmp_total b.name (ap (λ (x : Spelled). name_cmp x.name b.name) (sym same) ∙ less));
      }
  far i (suc k) a b r q at_a at_b at_r at_q =
      let place : i + suc k ≡ i + k + 1 = omega arith in
      let inside : i + suc k < length all = slice_get_within all (i + suc k) b at_b in
      let c : Spelled = get_or all (i + k) a in
      let at_c : slice_get all (i + k) ≡ Some c = there (i + k) a (omega (arith, inside)) in
      let t : Ranked = get_or order (i + k) r in
      let at_t : slice_get order (i + k) ≡ Some t = ranked_there (i + k) r (omega (arith, inside)) in
      let before = far i k a c r t at_a at_c at_r at_t in
      let step = first.step (i + k) c b t q at_c (ap (slice_get all) (sym place) ∙ at_b) at_t (ap (slice_get order) (sym place) ∙ at_q) in
      by c t before step (far_names (i + k) (i + suc k) c b (omega arith) at_c at_b) (far_names i (i + k) a c (omega arith) at_a at_c) (same_or_other_name c.name b.name)
    where
      by : (c : Spelled) (t : Ranked) → IsFar a c r t → IsNextRank c.name b.name t.rank q.rank → name_cmp b.name c.name ≢ Less → name_cmp c.name a.name ≢ Less
          → (c.name ≡ b.name) ⊎ (c.name ≢ b.name) → IsFar a b r q
      by c t before step up_b up_c (inl same) =
          let rank_is : q.rank ≡ t.rank = step.same same in
          record {
            low = omega (arith, before.low, rank_is);
            to = λ less. ap (name_cmp a.name) (sym same) ∙ before.to (omega (arith, less, rank_is));
            from = λ less. let small = before.from (ap (name_cmp a.name) same ∙ less) in omega (arith, small, rank_is);
          }
      by c t before step up_b up_c (inr other) =
          let rank_is : q.rank ≡ t.rank + 1 = step.other other in
          record {
            low = omega (arith, before.low, rank_is);
            to = λ less. before_both a.name c.name b.name up_c (before_other c.name b.name up_b other);
            from = λ less. omega (arith, before.low, rank_is);
          }

  far_at : (i j : ℕ) (a b : Spelled) (r q : Ranked) → i ≤ j → slice_get all i ≡ Some a → slice_get all j ≡ Some b → slice_get order i ≡ Some r → slice_get order j ≡ Some q → IsFar a b r q
  far_at i j a b r q low at_a at_b at_r at_q =
      let place : i + (j - i) ≡ j = omega (arith, low) in
      far i (j - i) a b r q at_a (ap (slice_get all) place ∙ at_b) at_r (ap (slice_get order) place ∙ at_q)

  pub ranked_so : AreRankedSo all order
  ranked_so = record {
    count = first.count_is;
    bits = first.bits;
    less = λ i j a b r q at_a at_b at_r at_q. less i j a b r q at_a at_b at_r at_q (cases_lt i j);
    rise = λ i j r q low at_r at_q.
        let inside : j < length all = omega (arith, slice_get_within order j q at_q, first.count_is) in
        (far_at i j (get_or all i none) (get_or all j none) r q low (there i none (omega (arith, low, inside))) (there j none inside) at_r at_q).low;
  }
    where
      none : Spelled
      none = record { bit = 0; name = [] }

      less : (i j : ℕ) (a b : Spelled) (r q : Ranked) → slice_get all i ≡ Some a → slice_get all j ≡ Some b → slice_get order i ≡ Some r → slice_get order j ≡ Some q
          → (i < j) ⊎ (j ≤ i) → (r.rank < q.rank) ↔ (name_cmp a.name b.name ≡ Less)
      less i j a b r q at_a at_b at_r at_q (inl small) = let is = far_at i j a b r q (omega (arith, small)) at_a at_b at_r at_q in (is.to, is.from)
      less i j a b r q at_a at_b at_r at_q (inr large) =
          let is = far_at j i b a q r large at_b at_a at_q at_r in (
            λ small. absurd (omega (arith, small, is.low)),
            λ small. absurd (far_names j i b a large at_b at_a small),
          )
