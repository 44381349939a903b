-- A search is taken one source further.
use Rattle.std.proofs.Common.{◌≡◌, ◌≢◌, ℕ, ◌+◌, ◌<◌, ◌≤◌, ◌⊎◌, inl, inr, List, [], ◌∷◌, ◌++◌, Some, length, get_or, refl, sym, ap, ◌∙◌, subst, arith}
use Rattle.std.specs.List.{slice_get}
use Rattle.std.proofs.lemmas.Bool.{cases_lt}
use Rattle.std.proofs.lemmas.Option.{same_Some, slice_get_within}
use Rattle.list_defs.specs.Members.{IsIn}
use Rattle.list_defs.proofs.Few.{place_of_member}
use Rattle.list_defs.proofs.Members.{IsIn-append_cases, IsIn-append_left, IsIn-append_right, IsIn-slice_get}
use Rattle.list_defs.proofs.Longer.{slice_get-append, slice_get_front}
use Rattle.list_defs.specs.Rings.{IsReached}
use Rattle.net_rings.specs.Fed.{IsFedBy, IsFedByThere, IsThere, sources_of}
use Rattle.net_rings.specs.Search.{IsLooking, IsSearch}
use Rattle.net_rings.specs.declared.graphs.Rows.{Rows}
use Rattle.net_rings.proofs.RingLaws.{reached_last}

module _ (r : Rows) (from mark bit : ℕ) (marks row seen : List ℕ) (done source : ℕ) (looking : IsLooking r from mark bit marks row seen done) where
  -- a search is at a bit that it came to
  at_reached : (bit ≡ from) ⊎ IsReached (IsFedByThere r) from bit
  at_reached = looking.search.reached bit (IsIn-slice_get row done bit looking.here)

  -- a source that is there is reached
  reached_source : IsFedByThere r bit source → IsReached (IsFedByThere r) from source
  reached_source step = by at_reached
    where
      by : (bit ≡ from) ⊎ IsReached (IsFedByThere r) from bit → IsReached (IsFedByThere r) from source
      by (inl same) = subst (λ n. IsReached (IsFedByThere r) n source) same (IsReached.one bit source step)
      by (inr way) = reached_last (IsFedByThere r) from bit source way step

  -- the first bit is a source that is there
  pub looking_back : IsFedBy (sources_of r) bit source → IsThere r.bits.items source → source ≡ from → IsReached (IsFedByThere r) from from
  looking_back feeds there same = subst (λ n. IsReached (IsFedByThere r) from n) same (reached_source (feeds, there))

  -- what is there of the sources so far, with one more of which something is known where it is there
  more_seen : (IsThere r.bits.items source → IsIn source row × (source ≢ from)) → (n : ℕ) → IsIn n (seen ++ source ∷ []) → IsThere r.bits.items n → IsIn n row × (n ≢ from)
  more_seen known n inside there = by (IsIn-append_cases n seen (source ∷ []) inside)
    where
      by : IsIn n seen ⊎ IsIn n (source ∷ []) → IsIn n row × (n ≢ from)
      by (inl early) = looking.so_far n early there
      by (inr (inl same)) = subst (λ k. IsIn k row × (k ≢ from)) (sym same) (known (subst (IsThere r.bits.items) same there))
      by (inr (inr none)) = absurd none

  -- the source isn't there
  pub looking_absent : (IsThere r.bits.items source → ⊥) → IsLooking r from mark bit marks row (seen ++ source ∷ []) done
  looking_absent absent = record { search = looking.search; here = looking.here; so_far = more_seen (λ there. absurd (absent there)) }

  -- the source is marked
  pub looking_known : source ≢ from → slice_get marks source ≡ Some mark → IsLooking r from mark bit marks row (seen ++ source ∷ []) done
  looking_known other marked =
      record { search = looking.search; here = looking.here; so_far = more_seen (λ there. (looking.search.marked source marked, other)) }

  -- the source is put into the row, with marks that are in it
  pub looking_new : (new : List ℕ) → IsFedBy (sources_of r) bit source → IsThere r.bits.items source → source ≢ from
      → ((n : ℕ) → slice_get new n ≡ Some mark → (n ≡ source) ⊎ (slice_get marks n ≡ Some mark))
      → IsLooking r from mark bit new (row ++ source ∷ []) (seen ++ source ∷ []) done
  looking_new new feeds there other marked = record {
    search = record {
      first = slice_get-append row (source ∷ []) 0 from looking.search.first;
      reached = λ n inside. reached_all n (IsIn-append_cases n row (source ∷ []) inside);
      marked = λ n is. marked_all n (marked n is);
      looked = λ k n s before is step.
          let old = looking.search.looked k n s before (slice_front k n (omega (arith, before, within)) is) step in
          (IsIn-append_left s row (source ∷ []) old.0, old.1);
    };
    here = slice_get-append row (source ∷ []) done bit looking.here;
    so_far = λ n inside is. seen_all n is (IsIn-append_cases n seen (source ∷ []) inside);
  }
    where
      within : done < length row
      within = slice_get_within row done bit looking.here

      slice_front : (k n : ℕ) → k < length row → slice_get (row ++ source ∷ []) k ≡ Some n → slice_get row k ≡ Some n
      slice_front k n inside is = slice_get_front row (source ∷ []) k n inside is

      reached_all : (n : ℕ) → IsIn n row ⊎ IsIn n (source ∷ []) → (n ≡ from) ⊎ IsReached (IsFedByThere r) from n
      reached_all n (inl early) = looking.search.reached n early
      reached_all n (inr (inl same)) = inr (subst (IsReached (IsFedByThere r) from) (sym same) (reached_source (feeds, there)))
      reached_all n (inr (inr none)) = absurd none

      marked_all : (n : ℕ) → (n ≡ source) ⊎ (slice_get marks n ≡ Some mark) → IsIn n (row ++ source ∷ [])
      marked_all n (inl same) = IsIn-append_right n row (source ∷ []) (inl same)
      marked_all n (inr old) = IsIn-append_left n row (source ∷ []) (looking.search.marked n old)

      seen_all : (n : ℕ) → IsThere r.bits.items n → IsIn n seen ⊎ IsIn n (source ∷ []) → IsIn n (row ++ source ∷ []) × (n ≢ from)
      seen_all n is (inl early) =
          let old = looking.so_far n early is in
          (IsIn-append_left n row (source ∷ []) old.0, old.1)
      seen_all n is (inr (inl same)) = (IsIn-append_right n row (source ∷ []) (inl same), λ first. other (sym same ∙ first))
      seen_all n is (inr (inr none)) = absurd none

module _ (r : Rows) (from mark : ℕ) (marks row : List ℕ) where
  -- a search begins with its first bit alone
  pub search_begun : ((n : ℕ) → slice_get marks n ≡ Some mark → ⊥) → IsSearch r from mark marks (from ∷ []) 0
  search_begun unmarked = record {
    first = refl;
    reached = λ n inside. only n inside;
    marked = λ n is. absurd (unmarked n is);
    looked = λ k n source before is step. absurd (omega (arith, before));
  }
    where
      only : (n : ℕ) → IsIn n (from ∷ []) → (n ≡ from) ⊎ IsReached (IsFedByThere r) from n
      only n (inl same) = inl same
      only n (inr none) = absurd none

  -- a search is at its next bit
  pub looking_begun : (done bit : ℕ) → IsSearch r from mark marks row done → slice_get row done ≡ Some bit → IsLooking r from mark bit marks row [] done
  looking_begun done bit search here = record { search = search; here = here; so_far = λ source none there. absurd none }

  -- a search has looked at all sources of its next bit
  pub looking_ended : (done bit : ℕ) (seen : List ℕ) → seen ≡ get_or (sources_of r) bit [] → IsLooking r from mark bit marks row seen done → IsSearch r from mark marks row (done + 1)
  looking_ended done bit seen all looking = record {
    first = looking.search.first;
    reached = looking.search.reached;
    marked = looking.search.marked;
    looked = λ k n source before is step. by k n source before is step (cases_lt k done);
  }
    where
      by : (k n source : ℕ) → k < done + 1 → slice_get row k ≡ Some n → IsFedByThere r n source → (k < done) ⊎ (done ≤ k) → IsIn source row × (source ≢ from)
      by k n source before is step (inl early) = looking.search.looked k n source early is step
      by k n source before is step (inr late) =
          let last : k ≡ done = omega (arith, before, late) in
          let same : n ≡ bit = same_Some n bit (sym is ∙ ap (slice_get row) last ∙ looking.here) in
          looking.so_far source (subst (IsIn source) (sym all) (subst (λ m. IsIn source (get_or (sources_of r) m [])) same step.0)) step.1

  -- where all was looked at, the search doesn't come back
  module _ (done : ℕ) (search : IsSearch r from mark marks row done) (all : length row ≤ done) where
    kept : (n source : ℕ) → IsIn n row → IsFedByThere r n source → IsIn source row × (source ≢ from)
    kept n source inside step =
        let at = place_of_member n row inside in
        search.looked at.0 n source (omega (arith, slice_get_within row at.0 n at.1, all)) at.1 step

    never : (n source : ℕ) → IsIn n row → IsReached (IsFedByThere r) n source → source ≢ from
    never _ _ inside (IsReached.one n source step) = (kept n source inside step).1
    never _ _ inside (IsReached.more n next source step rest) = never next source (kept n next inside step).0 rest

    pub search_ended : IsReached (IsFedByThere r) from from → ⊥
    search_ended ring = never from from (IsIn-slice_get row 0 from search.first) ring refl
