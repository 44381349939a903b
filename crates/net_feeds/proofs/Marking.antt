-- Marks of the bits that links feed, one link after the other.
use Rattle.std.proofs.Common.{◌≡◌, ◌≢◌, ℕ, ◌+◌, ◌<◌, ◌⊎◌, inl, inr, Bool, true, false, List, [], ◌∷◌, ◌++◌, Some, None, get_or, length, take, append_assoc, refl, sym, ap, ◌∙◌, subst}
use Rattle.std.specs.List.{slice_get}
use Rattle.std.proofs.lemmas.List.{length-set, take_more}
use Rattle.std.proofs.lemmas.Option.{same_Some, slice_get_within}
use Rattle.design_rows.specs.declared.tables.Feed.{Feed}
use Rattle.list_defs.specs.Members.{IsIn}
use Rattle.list_defs.proofs.Longer.{slice_get-set_other, slice_get-set_same}
use Rattle.list_defs.proofs.Members.{IsIn-append_cases, IsIn-append_left, IsIn-append_right, IsIn-slice_get}
use Rattle.net_hierarchy.proofs.Places.{get_pushed, same_or_not}
use Rattle.net_feeds.specs.declared.links.LinkAt.{LinkAt}
use Rattle.net_feeds.specs.declared.marks.Marks.{Marks}
use Rattle.net_feeds.specs.Marked.{AreFed, IsFedByOne, IsMarked, IsTaken, feed_of}

module _ (links : List LinkAt) (l : LinkAt) where
  last_or_before : (a : LinkAt) → IsIn a (links ++ l ∷ []) → IsIn a links ⊎ (a ≡ l)
  last_or_before a there = by (IsIn-append_cases a links (l ∷ []) there)
    where
      by : IsIn a links ⊎ IsIn a (l ∷ []) → IsIn a links ⊎ (a ≡ l)
      by (inl early) = inl early
      by (inr (inl same)) = inr same
      by (inr (inr never)) = absurd never

  last_there : IsIn l (links ++ l ∷ [])
  last_there = IsIn-append_right l links (l ∷ []) (inl refl)

  fed_still : (bit : ℕ) → IsFedByOne links bit → IsFedByOne (links ++ l ∷ []) bit
  fed_still bit by = record { one = by.one; listed = IsIn-append_left by.one links (l ∷ []) by.listed; fed = by.fed }

-- a link that feeds no bit changes nothing
pub unfed_more : (given : List Bool) (links : List LinkAt) (l : LinkAt) (m : Marks) → l.fed ≡ None → AreFed given links m → AreFed given (links ++ l ∷ []) m
unfed_more given links l m none are = record {
  marks_are = record {
    all_feeds = are.marks_are.all_feeds;
    all_taken = are.marks_are.all_taken;
    feed = λ a bit there fed. are.marks_are.feed a bit (early a bit fed (last_or_before links l a there)) fed;
    nothing = λ bit within missing. are.marks_are.nothing bit within (λ by. missing (fed_still links l bit by));
    kept = are.marks_are.kept;
    marked = λ a bit there fed. are.marks_are.marked a bit (early a bit fed (last_or_before links l a there)) fed;
    cause = λ bit is. cause bit (are.marks_are.cause bit is);
  };
  apart = record {
    once = λ i j bit a b at_i at_j fed_a fed_b. are.apart.once i j bit a b (early_at i a bit fed_a (get_pushed links l i a at_i)) (early_at j b bit fed_b (get_pushed links l j b at_j)) fed_a fed_b;
    free = λ a bit there fed. are.apart.free a bit (early a bit fed (last_or_before links l a there)) fed;
  };
}
  where
    last_feeds_not : (a : LinkAt) (bit : ℕ) → a.fed ≡ Some bit → a ≡ l → ⊥
    last_feeds_not a bit fed same = let never : None ≡ Some bit = sym none ∙ ap (λ (x : LinkAt). x.fed) (sym same) ∙ fed in cc

    early : (a : LinkAt) (bit : ℕ) → a.fed ≡ Some bit → IsIn a links ⊎ (a ≡ l) → IsIn a links
    early a bit fed (inl there) = there
    early a bit fed (inr same) = absurd (last_feeds_not a bit fed same)

    early_at : (i : ℕ) (a : LinkAt) (bit : ℕ) → a.fed ≡ Some bit → (slice_get links i ≡ Some a) ⊎ ((i ≡ length links) × (a ≡ l)) → slice_get links i ≡ Some a
    early_at i a bit fed (inl there) = there
    early_at i a bit fed (inr last) = absurd (last_feeds_not a bit fed last.1)

    cause : (bit : ℕ) → IsMarked given bit ⊎ IsFedByOne links bit → IsMarked given bit ⊎ IsFedByOne (links ++ l ∷ []) bit
    cause bit (inl g) = inl g
    cause bit (inr by) = inr (fed_still links l bit by)

-- a link whose bit had no mark
pub fed_more : (given : List Bool) (links : List LinkAt) (l : LinkAt) (n : ℕ) (old new : Marks) → l.fed ≡ Some n → IsTaken n (feed_of l.source) old new
    → AreFed given links old → AreFed given (links ++ l ∷ []) new
fed_more given links l n old new feeds is are = record {
  marks_are = record {
    all_feeds = ap length is.feeds ∙ length-set old.feeds.items n (feed_of l.source) ∙ are.marks_are.all_feeds;
    all_taken = ap length is.taken ∙ length-set old.taken.items n true ∙ are.marks_are.all_taken;
    feed = λ a bit there fed. feed a bit fed (last_or_before links l a there);
    nothing = λ bit within missing. other_feed bit (λ same. missing (fed_here bit same)) ∙ are.marks_are.nothing bit within (λ by. missing (fed_still links l bit by));
    kept = λ bit is_given. still bit (are.marks_are.kept bit is_given);
    marked = λ a bit there fed. marked a bit fed (last_or_before links l a there);
    cause = λ bit now. cause bit now (same_or_not bit n);
  };
  apart = record {
    once = λ i j bit a b at_i at_j fed_a fed_b. once i j bit a b fed_a fed_b (get_pushed links l i a at_i) (get_pushed links l j b at_j);
    free = λ a bit there fed is_given. free a bit fed is_given (last_or_before links l a there);
  };
}
  where
    bit_of_last : (a : LinkAt) (bit : ℕ) → a.fed ≡ Some bit → a ≡ l → bit ≡ n
    bit_of_last a bit fed same = same_Some bit n (sym fed ∙ ap (λ (x : LinkAt). x.fed) same ∙ feeds)

    not_marked : (bit : ℕ) → bit ≡ n → IsMarked old.taken.items bit → ⊥
    not_marked bit same is_marked = let never : Some true ≡ Some false = sym is_marked ∙ ap (slice_get old.taken.items) same ∙ is.free in cc

    now_marked : (bit : ℕ) → bit ≡ n → IsMarked new.taken.items bit
    now_marked bit same =
        ap (slice_get new.taken.items) same ∙ ap (λ (ts : List Bool). slice_get ts n) is.taken
        ∙ slice_get-set_same old.taken.items n true (slice_get_within old.taken.items n false is.free)

    other_mark : (bit : ℕ) → bit ≢ n → slice_get new.taken.items bit ≡ slice_get old.taken.items bit
    other_mark bit differ = ap (λ (ts : List Bool). slice_get ts bit) is.taken ∙ slice_get-set_other old.taken.items n bit true differ

    other_feed : (bit : ℕ) → bit ≢ n → slice_get new.feeds.items bit ≡ slice_get old.feeds.items bit
    other_feed bit differ = ap (λ (fs : List Feed). slice_get fs bit) is.feeds ∙ slice_get-set_other old.feeds.items n bit (feed_of l.source) differ

    still : (bit : ℕ) → IsMarked old.taken.items bit → IsMarked new.taken.items bit
    still bit was = other_mark bit (λ same. not_marked bit same was) ∙ was

    fed_here : (bit : ℕ) → bit ≡ n → IsFedByOne (links ++ l ∷ []) bit
    fed_here bit same = record { one = l; listed = last_there links l; fed = feeds ∙ ap Some (sym same) }

    feed : (a : LinkAt) (bit : ℕ) → a.fed ≡ Some bit → IsIn a links ⊎ (a ≡ l) → slice_get new.feeds.items bit ≡ Some (feed_of a.source)
    feed a bit fed (inl early) =
        other_feed bit (λ same. not_marked bit same (are.marks_are.marked a bit early fed)) ∙ are.marks_are.feed a bit early fed
    feed a bit fed (inr same) =
        ap (slice_get new.feeds.items) (bit_of_last a bit fed same) ∙ ap (λ (fs : List Feed). slice_get fs n) is.feeds
        ∙ slice_get-set_same old.feeds.items n (feed_of l.source) is.within ∙ ap (λ (x : LinkAt). Some (feed_of x.source)) (sym same)

    marked : (a : LinkAt) (bit : ℕ) → a.fed ≡ Some bit → IsIn a links ⊎ (a ≡ l) → IsMarked new.taken.items bit
    marked a bit fed (inl early) = still bit (are.marks_are.marked a bit early fed)
    marked a bit fed (inr same) = now_marked bit (bit_of_last a bit fed same)

    cause : (bit : ℕ) → IsMarked new.taken.items bit → (bit ≡ n) ⊎ (bit ≢ n) → IsMarked given bit ⊎ IsFedByOne (links ++ l ∷ []) bit
    cause bit now (inl same) = inr (fed_here bit same)
    cause bit now (inr differ) = by (are.marks_are.cause bit (sym (other_mark bit differ) ∙ now))
      where
        by : IsMarked given bit ⊎ IsFedByOne links bit → IsMarked given bit ⊎ IsFedByOne (links ++ l ∷ []) bit
        by (inl g) = inl g
        by (inr fed) = inr (fed_still links l bit fed)

    once : (i j bit : ℕ) (a b : LinkAt) → a.fed ≡ Some bit → b.fed ≡ Some bit → (slice_get links i ≡ Some a) ⊎ ((i ≡ length links) × (a ≡ l))
        → (slice_get links j ≡ Some b) ⊎ ((j ≡ length links) × (b ≡ l)) → i ≡ j
    once i j bit a b fed_a fed_b (inl at_i) (inl at_j) = are.apart.once i j bit a b at_i at_j fed_a fed_b
    once i j bit a b fed_a fed_b (inl at_i) (inr last) =
        absurd (not_marked bit (bit_of_last b bit fed_b last.1) (are.marks_are.marked a bit (IsIn-slice_get links i a at_i) fed_a))
    once i j bit a b fed_a fed_b (inr last) (inl at_j) =
        absurd (not_marked bit (bit_of_last a bit fed_a last.1) (are.marks_are.marked b bit (IsIn-slice_get links j b at_j) fed_b))
    once i j bit a b fed_a fed_b (inr last) (inr last') = last.0 ∙ sym last'.0

    free : (a : LinkAt) (bit : ℕ) → a.fed ≡ Some bit → IsMarked given bit → IsIn a links ⊎ (a ≡ l) → ⊥
    free a bit fed is_given (inl early) = are.apart.free a bit early fed is_given
    free a bit fed is_given (inr same) = not_marked bit (bit_of_last a bit fed same) (are.marks_are.kept bit is_given)

-- one more of some links
pub fed_next : (given : List Bool) (before links : List LinkAt) (i : ℕ) (d : LinkAt) (m : Marks) → i < length links → AreFed given ((before ++ take i links) ++ get_or links i d ∷ []) m
    → AreFed given (before ++ take (i + 1) links) m
fed_next given before links i d m within are =
    subst (λ (ls : List LinkAt). AreFed given ls m)
    (append_assoc before (take i links) (get_or links i d ∷ []) ∙ ap (λ rest. before ++ rest) (sym (take_more links i d within))) are
