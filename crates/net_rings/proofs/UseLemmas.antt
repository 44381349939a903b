-- Uses that are counted, and bits that are taken away.
use Rattle.std.proofs.Common.{◌≡◌, ◌≢◌, ◌↔◌, ℕ, zero, suc, ◌+◌, ◌<◌, ◌≤◌, ◌⊎◌, inl, inr, Bool, true, false, cond, List, [], ◌∷◌, ◌++◌, Option, Some, None, length, map, take, drop, get_or, set, nat_eq, eq-eqb, refl, sym, ap, ◌∙◌, subst, arith}
use Rattle.std.specs.List.{count_by, slice_get, sum_by}
use Rattle.std.proofs.lemmas.List.{get_or-map, length-set, take-append-le, take_all}
use Rattle.std.proofs.Math.Seq.{map-set_same}
use Rattle.std.proofs.lemmas.Option.{get_or_from_slice_get, same_Some, slice_get_within}
use Rattle.std.proofs.lemmas.Bool.{cases_eq, cases_lt, false≢true}
use Rattle.std.proofs.lemmas.List.Sums.{sum_by-cons, sum_by-set}
use Rattle.list_defs.specs.Members.{IsIn}
use Rattle.list_defs.proofs.Longer.{slice_get-set_other, slice_get-set_same}
use Rattle.list_defs.proofs.Members.{IsIn-append_cases, IsIn-append_left, IsIn-append_right}
use Rattle.net_rings.specs.Fed.{AreRows, AreThere, IsFedBy, IsRow, IsThere, sources_at, sources_of}
use Rattle.net_rings.specs.Peeled.{AreCounted, IsCore, IsGone, IsWithout, uses_in, uses_of}
use Rattle.net_rings.specs.declared.cores.Core.{Core}
use Rattle.net_rings.specs.declared.graphs.BitRow.{BitRow}
use Rattle.net_rings.specs.declared.graphs.Rows.{Rows}
use Rattle.net_rings.proofs.RingLaws.{gone_more}

-- what is in a list is counted
counted_in : (n : ℕ) (xs : List ℕ) → IsIn n xs → 0 < count_by (nat_eq n) xs
counted_in n [] inside = absurd inside
counted_in n (x ∷ xs) (inl same) = omega (arith, sum_by-cons (λ y. cond (nat_eq n y) 1 0) x xs, ap {B = ℕ} (λ b. cond b 1 0) (eq-eqb n x same))
counted_in n (x ∷ xs) (inr later) =
    let rest = counted_in n xs later in
    omega (arith, sum_by-cons (λ y. cond (nat_eq n y) 1 0) x xs, rest)

-- a part of a sum isn't more than the sum
part_of_sum : {X : Type 0} (f : X → ℕ) (xs : List X) (k : ℕ) (x : X) → slice_get xs k ≡ Some x → f x ≤ sum_by f xs
part_of_sum f [] k x is = cc
part_of_sum f (y ∷ xs) zero x is = let same : y ≡ x = cc in omega (arith, sum_by-cons f y xs, ap f same)
part_of_sum f (y ∷ xs) (suc k) x is = let rest = part_of_sum f xs k x is in omega (arith, sum_by-cons f y xs, rest)

-- the sources of the bit of a row
pub source_row : (r : Rows) (n : ℕ) (row : BitRow) → slice_get r.bits.items n ≡ Some row → get_or (sources_of r) n [] ≡ sources_at r.sources.items row
source_row r n row is =
    get_or-map (sources_at r.sources.items) r.bits.items n row [] (slice_get_within r.bits.items n row is)
    ∙ ap (sources_at r.sources.items) (get_or_from_slice_get r.bits.items n row row is)

-- a number behind all bits has no sources
pub none_row : (r : Rows) (n : ℕ) → slice_get r.bits.items n ≡ None → get_or (sources_of r) n [] ≡ []
none_row r n none = past r.bits.items n none
  where
    past : (bits : List BitRow) (k : ℕ) → slice_get bits k ≡ None → get_or (map (sources_at r.sources.items) bits) k [] ≡ []
    past [] k none = refl
    past (b ∷ bits) zero none = cc
    past (b ∷ bits) (suc k) none = past bits k none

-- a bit that feeds one that is there has a use
pub used : (r : Rows) (fed n : ℕ) → IsFedBy (sources_of r) fed n → IsThere r.bits.items fed → 0 < uses_of r.sources.items r.bits.items n
used r fed n feeds (row, is, there) =
    let here = source_row r fed row is in
    let many = counted_in n (sources_at r.sources.items row) (subst (IsIn n) here feeds) in
    let part = part_of_sum (uses_in r.sources.items n) r.bits.items fed row is in
    let whole : uses_in r.sources.items n row ≡ count_by (nat_eq n) (sources_at r.sources.items row) = ap (λ b. cond b (count_by (nat_eq n) (sources_at r.sources.items row)) 0) there in
    omega (arith, many, part, whole)

-- the row of a bit that is taken away
abbrev taken_row : BitRow → BitRow
taken_row row = record { first = row.first; end = row.end; there = false }

module _ (old new : Core) (n : ℕ) (w : IsWithout old new n) where
  -- the same bits have the same sources
  pub without_sources : sources_of new.rows ≡ sources_of old.rows
  without_sources =
      ap (λ all. map (sources_at all) new.rows.bits.items) w.sources
      ∙ ap (map (sources_at old.rows.sources.items)) w.bits
      ∙ map-set_same (sources_at old.rows.sources.items) old.rows.bits.items n (taken_row w.row) w.row same
    where
      same : sources_at old.rows.sources.items (taken_row w.row) ≡ sources_at old.rows.sources.items (get_or old.rows.bits.items n w.row)
      same = ap (sources_at old.rows.sources.items) (sym (get_or_from_slice_get old.rows.bits.items n w.row w.row w.was_there))

  -- the rows of all others are as they were
  pub without_other : (k : ℕ) → k ≢ n → slice_get new.rows.bits.items k ≡ slice_get old.rows.bits.items k
  without_other k other = ap (λ bits. slice_get bits k) w.bits ∙ slice_get-set_other old.rows.bits.items n k (taken_row w.row) other

  -- the row of the bit
  pub without_here : slice_get new.rows.bits.items n ≡ Some (taken_row w.row)
  without_here = ap (λ bits. slice_get bits n) w.bits ∙ slice_get-set_same old.rows.bits.items n (taken_row w.row) (slice_get_within old.rows.bits.items n w.row w.was_there)

  -- what is there was there
  pub without_there : (k : ℕ) → IsThere new.rows.bits.items k → IsThere old.rows.bits.items k
  without_there k (row, is, there) = by (cases_eq k n)
    where
      by : (k ≡ n) ⊎ (k ≢ n) → IsThere old.rows.bits.items k
      by (inl same) =
          let taken : Some row ≡ Some (taken_row w.row) = sym is ∙ ap (slice_get new.rows.bits.items) same ∙ without_here in
          absurd (false≢true (ap (λ (r : BitRow). r.there) (sym (same_Some row (taken_row w.row) taken)) ∙ there))
      by (inr other) = (row, sym (without_other k other) ∙ is, there)

  -- rows stay rows
  pub without_rows : AreRows old.rows → AreRows new.rows
  without_rows rows = record {
    each = λ k row is. each k row is (cases_eq k n);
    few = subst (λ all. length all ≤ 4294967295) (sym w.sources) rows.few;
    few_bits = subst (λ bits. length bits ≤ 4294967295) (sym w.bits) (subst (λ count. count ≤ 4294967295) (sym (length-set old.rows.bits.items n (taken_row w.row))) rows.few_bits);
  }
    where
      each : (k : ℕ) (row : BitRow) → slice_get new.rows.bits.items k ≡ Some row → (k ≡ n) ⊎ (k ≢ n) → IsRow new.rows.sources.items row
      each k row is (inl same) =
          let taken : row ≡ taken_row w.row = same_Some row (taken_row w.row) (sym is ∙ ap (slice_get new.rows.bits.items) same ∙ without_here) in
          subst (λ all. IsRow all row) (sym w.sources) (subst (IsRow old.rows.sources.items) (sym taken) (rows.each n w.row w.was_there))
      each k row is (inr other) =
          subst (λ all. IsRow all row) (sym w.sources) (rows.each k row (sym (without_other k other) ∙ is))

  -- What is left without the bit, where that is gone when some are taken, and these include those that were taken.
  pub without_core : (sources : List (List ℕ)) (taken more : List ℕ) → IsCore sources taken old → ((k : ℕ) → IsIn k taken → IsIn k more) → IsGone sources more n
      → ((k : ℕ) → IsIn k more → IsIn k taken ⊎ (k ≡ n)) → IsCore sources more new
  without_core sources taken more core covers gone only = record {
    peeled = record {
      rows = without_rows core.peeled.rows;
      same = without_sources ∙ core.peeled.same;
      gone = λ k row is away. gone_at k row is away (cases_eq k n);
      taken_away = λ k inside there. by k there (only k inside);
    };
    counted = w.counted;
  }
    where
      gone_at : (k : ℕ) (row : BitRow) → slice_get new.rows.bits.items k ≡ Some row → row.there ≡ false → (k ≡ n) ⊎ (k ≢ n) → IsGone sources more k
      gone_at k row is away (inl same) = subst (IsGone sources more) (sym same) gone
      gone_at k row is away (inr other) = gone_more sources taken more covers k (core.peeled.gone k row (sym (without_other k other) ∙ is) away)

      by : (k : ℕ) → IsThere new.rows.bits.items k → IsIn k taken ⊎ (k ≡ n) → ⊥
      by k there (inl was) = core.peeled.taken_away k was (without_there k there)
      by k (row, is, there) (inr same) =
          let taken_is : row ≡ taken_row w.row = same_Some row (taken_row w.row) (sym is ∙ ap (slice_get new.rows.bits.items) same ∙ without_here) in
          false≢true (ap (λ (r : BitRow). r.there) (sym taken_is) ∙ there)

-- a bit without uses feeds only what is gone
pub gone_unused : (sources : List (List ℕ)) (taken : List ℕ) (core : Core) (n : ℕ) → IsCore sources taken core → n < length core.uses.items → get_or core.uses.items n 0 ≡ 0
    → IsGone sources taken n
gone_unused sources taken core n is within none = IsGone.unused n gone
  where
    gone : (fed : ℕ) → IsFedBy sources fed n → IsGone sources taken fed
    gone fed feeds = at (slice_get core.rows.bits.items fed) refl
      where
        here : IsFedBy (sources_of core.rows) fed n
        here = subst (λ s. IsFedBy s fed n) (sym is.peeled.same) feeds

        at : (o : Option BitRow) → slice_get core.rows.bits.items fed ≡ o → IsGone sources taken fed
        at None past = absurd (subst (IsIn n) (none_row core.rows fed past) here)
        at (Some row) there = by row.there refl
          where
            by : (b : Bool) → row.there ≡ b → IsGone sources taken fed
            by true is_so =
                let some = used core.rows fed n here (row, there, is_so) in
                let counted = is.counted.each n within in
                absurd (omega (arith, some, counted, none))
            by false not_so = is.peeled.gone fed row there not_so

-- the counts that are left where the sources of a bit are taken off are enough without the bit
pub counted_without : (r : Rows) (bit : ℕ) (row : BitRow) → slice_get r.bits.items bit ≡ Some row → (old new : List ℕ) → AreCounted r.sources.items r.bits.items old → length new ≡ length old
    → ((n : ℕ) → n < length old → get_or old n 0 ≤ get_or new n 0 + count_by (nat_eq n) (sources_at r.sources.items row)) → row.there ≡ true
    → AreCounted r.sources.items (set r.bits.items bit (taken_row row)) new
counted_without r bit row is old new counted same dropped there = record {
  all_bits = same ∙ counted.all_bits ∙ sym (length-set r.bits.items bit (taken_row row));
  each = λ n within.
      let inside : n < length old = omega (arith, within, same) in
      let before = counted.each n inside in
      let after = dropped n inside in
      let sums = sum_by-set (uses_in r.sources.items n) r.bits.items bit (taken_row row) row (slice_get_within r.bits.items bit row is) in
      let own : uses_in r.sources.items n (get_or r.bits.items bit row) ≡ count_by (nat_eq n) (sources_at r.sources.items row) =
      ap (uses_in r.sources.items n) (get_or_from_slice_get r.bits.items bit row row is)
      ∙ ap (λ b. cond b (count_by (nat_eq n) (sources_at r.sources.items row)) 0) there in
      omega (arith, before, after, sums, own);
}

-- some of the numbers below one, with that one or without it
module _ (P : ℕ → Type 0) (xs : List ℕ) (bit : ℕ) (all : (n : ℕ) → IsIn n xs ↔ ((n < bit) × P n)) where
  pub all_with : P bit → (n : ℕ) → IsIn n (xs ++ bit ∷ []) ↔ ((n < bit + 1) × P n)
  all_with here n = (λ inside. forth (IsIn-append_cases n xs (bit ∷ []) inside), λ both. back both.0 both.1 (cases_lt n bit))
    where
      forth : IsIn n xs ⊎ IsIn n (bit ∷ []) → (n < bit + 1) × P n
      forth (inl early) = let old = (all n).0 early in (omega (arith, old.0), old.1)
      forth (inr (inl same)) = (omega (arith, same), subst P (sym same) here)
      forth (inr (inr none)) = absurd none

      back : n < bit + 1 → P n → (n < bit) ⊎ (bit ≤ n) → IsIn n (xs ++ bit ∷ [])
      back within is (inl early) = IsIn-append_left n xs (bit ∷ []) ((all n).1 (early, is))
      back within is (inr late) = IsIn-append_right n xs (bit ∷ []) (inl (omega (arith, within, late)))

  pub all_without : (P bit → ⊥) → (n : ℕ) → IsIn n xs ↔ ((n < bit + 1) × P n)
  all_without not_here n = (λ inside. let old = (all n).0 inside in (omega (arith, old.0), old.1), λ both. back both.0 both.1 (cases_lt n bit))
    where
      back : n < bit + 1 → P n → (n < bit) ⊎ (bit ≤ n) → IsIn n xs
      back within is (inl early) = (all n).1 (early, is)
      back within is (inr late) =
          let last : n ≡ bit = omega (arith, within, late) in
          absurd (not_here (subst P last is))

-- the uses in a row are at most those among its sources
pub uses_at_most : (all : List ℕ) (n : ℕ) (row : BitRow) → uses_in all n row ≤ count_by (nat_eq n) (sources_at all row)
uses_at_most all n row = by row.there
  where
    by : (b : Bool) → cond b (count_by (nat_eq n) (sources_at all row)) 0 ≤ count_by (nat_eq n) (sources_at all row)
    by true = omega arith
    by false = omega arith

-- where all bits are there, they are a core
pub core_begun : (core : Core) → AreRows core.rows → AreThere core.rows.bits.items → AreCounted core.rows.sources.items core.rows.bits.items core.uses.items
    → IsCore (sources_of core.rows) [] core
core_begun core rows there counted = record {
  peeled = record {
    rows = rows;
    same = refl;
    gone = λ n b is away. absurd (false≢true (sym away ∙ there n b is));
    taken_away = λ n inside here. absurd inside;
  };
  counted = counted;
}

-- one of the taken bits with one more
pub taken_cases : (k : ℕ) (taken : List ℕ) (n : ℕ) → IsIn k (taken ++ n ∷ []) → IsIn k taken ⊎ (k ≡ n)
taken_cases k taken n inside = by (IsIn-append_cases k taken (n ∷ []) inside)
  where
    by : IsIn k taken ⊎ IsIn k (n ∷ []) → IsIn k taken ⊎ (k ≡ n)
    by (inl early) = inl early
    by (inr (inl same)) = inr same
    by (inr (inr none)) = absurd none

-- taking a bit that isn't there changes nothing
pub core_absent : (sources : List (List ℕ)) (taken : List ℕ) (core : Core) (n : ℕ) → IsCore sources taken core → (IsThere core.rows.bits.items n → ⊥)
    → IsCore sources (taken ++ n ∷ []) core
core_absent sources taken core n is absent = record {
  peeled = record {
    rows = is.peeled.rows;
    same = is.peeled.same;
    gone = λ k b here away. gone_more sources taken (taken ++ n ∷ []) (λ j inside. IsIn-append_left j taken (n ∷ []) inside) k (is.peeled.gone k b here away);
    taken_away = λ k inside there. by k there (taken_cases k taken n inside);
  };
  counted = is.counted;
}
  where
    by : (k : ℕ) → IsThere core.rows.bits.items k → IsIn k taken ⊎ (k ≡ n) → ⊥
    by k there (inl was) = is.peeled.taken_away k was there
    by k there (inr same) = absent (subst (IsThere core.rows.bits.items) same there)

-- what is written back of a list as long is the new list
pub refilled : {X : Type 0} (n : ℕ) (xs ws : List X) → n ≡ length ws → take n (ws ++ drop (length ws) xs) ≡ ws
refilled n xs ws same = take-append-le n ws (drop (length ws) xs) (omega (arith, same)) ∙ take_all n ws (omega (arith, same))
