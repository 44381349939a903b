-- Links to bits that are fed already, one link after the other.
use Rattle.std.proofs.Common.{◌≡◌, ◌≢◌, ℕ, ◌<◌, ◌≤◌, ◌⊎◌, inl, inr, Bool, true, false, List, [], ◌∷◌, ◌++◌, Some, None, IsSome, length, max, min, refl, sym, ap, ◌∙◌, subst, arith}
use Rattle.std.specs.List.{slice_get}
use Rattle.std.specs.Prelude.{Option}
use Rattle.std.proofs.lemmas.Bool.{cases_lt}
use Rattle.std.proofs.lemmas.Option.{same_Some, slice_get_within}
use Rattle.list_defs.specs.Members.{IsIn}
use Rattle.list_defs.proofs.Members.{IsIn-append_cases, IsIn-append_left, IsIn-append_right}
use Rattle.list_defs.proofs.Longer.{slice_get-append, slice_get-set_other, slice_get-set_same, slice_get_last}
use Rattle.net_hierarchy.proofs.Places.{get_pushed, same_or_not}
use Rattle.net_feeds.specs.declared.links.LinkAt.{LinkAt}
use Rattle.net_feeds.specs.declared.seconds.Found.{Found}
use Rattle.net_feeds.specs.declared.seconds.Seen.{Seen}
use Rattle.net_feeds.specs.Marked.{IsMarked}
use Rattle.net_feeds.specs.Seconds.{AreSeen, IsFound, IsFoundAlso, IsFoundIf, IsKnown, IsOnLine, IsSecond, IsSeenOnce, earlier_line, later_line}

-- what is found on a line is found on all later ones
pub found_later : (found : Found) (line more bit : ℕ) → IsFound found line bit → line ≤ more → IsFound found more bit
found_later found line more bit is low = record {
  any = is.any;
  listed = is.listed;
  low = omega (arith, is.low, low);
  same = λ e. is.same (omega (arith, is.low, low, e));
}

-- what was found stays found
pub found_still : (P : Type 0) (line bit : ℕ) (old new : Found) → P ⊎ (P → ⊥) → IsFoundIf P line bit old new → (l b : ℕ) → IsFound old l b → IsFound new l b
found_still P line bit old new (inl p) is l b was = (is.held p).before l b was
found_still P line bit old new (inr missing) is l b was = subst (λ f. IsFound f l b) (sym (is.otherwise missing)) was

-- what is found holds where it held of what was found, and of what was found besides
pub each_found : (Q : ℕ → ℕ → Type 0) (P : Type 0) (line bit : ℕ) (old new : Found) → P ⊎ (P → ⊥) → IsFoundIf P line bit old new → ((b : ℕ) → IsIn b old.bits.items → Q old.line b)
    → (P → Q line bit) → (b : ℕ) → IsIn b new.bits.items → Q new.line b
each_found Q P line bit old new (inl p) is each besides b there = by ((is.held p).only b there)
  where
    by : ((new.line ≡ line) × (b ≡ bit)) ⊎ ((new.line ≡ old.line) × IsIn b old.bits.items) → Q new.line b
    by (inl now) = subst (λ n. Q n b) (sym now.0) (subst (Q line) (sym now.1) (besides p))
    by (inr early) = subst (λ n. Q n b) (sym early.0) (each b early.1)
each_found Q P line bit old new (inr missing) is each besides b there =
    let same = is.otherwise missing in
    subst (λ (f : Found). Q f.line b) (sym same) (each b (subst (λ (f : Found). IsIn b f.bits.items) same there))

some_or_none : (o : Option ℕ) → IsSome o ⊎ (IsSome o → ⊥)
some_or_none None = inr (λ is. cc)
some_or_none (Some n) = inl refl

marked_or_not : (marks : List Bool) (bit : ℕ) → IsMarked marks bit ⊎ (IsMarked marks bit → ⊥)
marked_or_not marks bit = by (slice_get marks bit) refl
  where
    by : (o : Option Bool) → slice_get marks bit ≡ o → IsMarked marks bit ⊎ (IsMarked marks bit → ⊥)
    by None e = inr (λ is. let never : None ≡ Some true = sym e ∙ is in cc)
    by (Some true) e = inl e
    by (Some false) e = inr (λ is. let never : Some false ≡ Some true = sym e ∙ is in cc)

module _ (taken : List Bool) (links : List LinkAt) (l : LinkAt) where
  -- a link is second among more links too
  second_still : (line bit : ℕ) → IsSecond taken links line bit → IsSecond taken (links ++ l ∷ []) line bit
  second_still line bit (IsSecond.before i a there fed on is) = IsSecond.before i a (slice_get-append links (l ∷ []) i a there) fed on is
  second_still line bit (IsSecond.again i j a b at_i at_j fed_a fed_b differ on low) =
      IsSecond.again i j a b (slice_get-append links (l ∷ []) i a at_i) (slice_get-append links (l ∷ []) j b at_j) fed_a fed_b differ on low

  last_at : slice_get (links ++ l ∷ []) (length links) ≡ Some l
  last_at = slice_get_last links l (length links) refl

  -- a link that feeds nothing is no second
  module _ (none : l.fed ≡ None) where
    last_feeds_not : (a : LinkAt) (bit : ℕ) → a.fed ≡ Some bit → a ≡ l → ⊥
    last_feeds_not a bit fed same = let never : None ≡ Some bit = sym none ∙ ap (λ (x : LinkAt). x.fed) (sym same) ∙ fed in cc

    early_at : (i : ℕ) (a : LinkAt) (bit : ℕ) → a.fed ≡ Some bit → (slice_get links i ≡ Some a) ⊎ ((i ≡ length links) × (a ≡ l)) → slice_get links i ≡ Some a
    early_at i a bit fed (inl there) = there
    early_at i a bit fed (inr last) = absurd (last_feeds_not a bit fed last.1)

    second_before : (line bit : ℕ) → IsSecond taken (links ++ l ∷ []) line bit → IsSecond taken links line bit
    second_before line bit (IsSecond.before i a there fed on is) = IsSecond.before i a (early_at i a bit fed (get_pushed links l i a there)) fed on is
    second_before line bit (IsSecond.again i j a b at_i at_j fed_a fed_b differ on low) =
        IsSecond.again i j a b (early_at i a bit fed_a (get_pushed links l i a at_i)) (early_at j b bit fed_b (get_pushed links l j b at_j)) fed_a fed_b differ on low

    pub seen_unfed : (seen : Seen) → AreSeen taken links seen → AreSeen taken (links ++ l ∷ []) seen
    seen_unfed seen are = record {
      found = record {
        each = λ bit there. second_still seen.found.line bit (are.found.each bit there);
        first = λ line bit is. are.found.first line bit (second_before line bit is);
      };
      lines = λ bit line known. let on = are.lines bit line known in
          record { i = on.i; a = on.a; there = slice_get-append links (l ∷ []) on.i on.a on.there; fed = on.fed; same = on.same };
      lows = λ i bit a there fed. are.lows i bit a (early_at i a bit fed (get_pushed links l i a there)) fed;
    }

  -- a link that feeds a bit
  module _ (n : ℕ) (feeds : l.fed ≡ Some n) (old new : Seen) (is : IsSeenOnce taken l.line n old new) (are : AreSeen taken links old) where
    bit_of_last : (a : LinkAt) (bit : ℕ) → a.fed ≡ Some bit → a ≡ l → bit ≡ n
    bit_of_last a bit fed same = same_Some bit n (sym fed ∙ ap (λ (x : LinkAt). x.fed) same ∙ feeds)

    last_line : (a : LinkAt) → a ≡ l → a.line ≡ l.line
    last_line a same = ap (λ (x : LinkAt). x.line) same

    -- the link itself, where its bit had a mark
    marked_second : IsMarked taken n → IsSecond taken (links ++ l ∷ []) l.line n
    marked_second marked = IsSecond.before (length links) l last_at feeds refl marked

    -- the link itself or the one before it, where one was before it
    again_second : (o : Option ℕ) → slice_get old.lows.items n ≡ Some o → IsSome o → IsSecond taken (links ++ l ∷ []) (later_line o l.line) n
    again_second None known some = cc
    again_second (Some low) known some = by (cases_lt l.line low)
      where
        on : IsOnLine links low n
        on = are.lines n low known

        there : slice_get (links ++ l ∷ []) on.i ≡ Some on.a
        there = slice_get-append links (l ∷ []) on.i on.a on.there

        early : on.i < length links
        early = slice_get_within links on.i on.a on.there

        by : (l.line < low) ⊎ (low ≤ l.line) → IsSecond taken (links ++ l ∷ []) (max low l.line) n
        by (inl behind) = IsSecond.again on.i (length links) on.a l there last_at on.fed feeds (λ e. omega (arith, early, e)) (omega (arith, on.same, behind)) (omega (arith, behind))
        by (inr before) = IsSecond.again (length links) on.i l on.a last_at there feeds on.fed (λ e. omega (arith, early, e)) (omega (arith, before)) (omega (arith, on.same, before))

    between_each : (bit : ℕ) → IsIn bit is.between.bits.items → IsSecond taken (links ++ l ∷ []) is.between.line bit
    between_each =
        each_found (IsSecond taken (links ++ l ∷ [])) (IsMarked taken n) l.line n old.found is.between (marked_or_not taken n) is.marked
        (λ b there. second_still old.found.line b (are.found.each b there)) marked_second

    each : (bit : ℕ) → IsIn bit new.found.bits.items → IsSecond taken (links ++ l ∷ []) new.found.line bit
    each =
        each_found (IsSecond taken (links ++ l ∷ [])) (IsSome is.low) (later_line is.low l.line) n is.between new.found (some_or_none is.low) is.again between_each
        (again_second is.low is.known)

    -- what was found, and what is marked
    kept : (line bit : ℕ) → IsFound old.found line bit → IsFound new.found line bit
    kept line bit was =
        found_still (IsSome is.low) (later_line is.low l.line) n is.between new.found (some_or_none is.low) is.again line bit
        (found_still (IsMarked taken n) l.line n old.found is.between (marked_or_not taken n) is.marked line bit was)

    found_marked : IsMarked taken n → IsFound new.found l.line n
    found_marked marked =
        found_still (IsSome is.low) (later_line is.low l.line) n is.between new.found (some_or_none is.low) is.again l.line n ((is.marked.held marked).here)

    -- one more link besides an earlier one
    found_again : (i : ℕ) (a : LinkAt) → slice_get links i ≡ Some a → a.fed ≡ Some n → (line : ℕ) → a.line ≤ line → l.line ≤ line → IsFound new.found line n
    found_again i a there fed line low_a low_l = by is.low is.known is.again
      where
        k : IsKnown old.lows.items a.line n
        k = are.lows i n a there fed

        by : (o : Option ℕ) → slice_get old.lows.items n ≡ Some o → IsFoundIf (IsSome o) (later_line o l.line) n is.between new.found → IsFound new.found line n
        by None known again = let never : Some None ≡ Some (Some k.low) = sym known ∙ k.known in cc
        by (Some low) known again =
            let same : Some low ≡ Some k.low = same_Some (Some low) (Some k.low) (sym known ∙ k.known) in
            let same_low : low ≡ k.low = same_Some low k.low same in
            found_later new.found (max low l.line) line n ((again.held refl).here) (omega (arith, same_low, k.before, low_a, low_l))

    first_before : (line bit i : ℕ) (a : LinkAt) → a.fed ≡ Some bit → a.line ≡ line → IsMarked taken bit → (slice_get links i ≡ Some a) ⊎ ((i ≡ length links) × (a ≡ l))
        → IsFound new.found line bit
    first_before line bit i a fed on marked (inl there) = kept line bit (are.found.first line bit (IsSecond.before i a there fed on marked))
    first_before line bit i a fed on marked (inr last) =
        let same = bit_of_last a bit fed last.1 in
        subst (λ (x : ℕ). IsFound new.found x bit) (sym (last_line a last.1) ∙ on)
        (subst (IsFound new.found l.line) (sym same) (found_marked (subst (IsMarked taken) same marked)))

    first_again : (line bit i j : ℕ) (a b : LinkAt) → a.fed ≡ Some bit → b.fed ≡ Some bit → j ≢ i → a.line ≡ line → b.line ≤ line
        → (slice_get links i ≡ Some a) ⊎ ((i ≡ length links) × (a ≡ l)) → (slice_get links j ≡ Some b) ⊎ ((j ≡ length links) × (b ≡ l)) → IsFound new.found line bit
    first_again line bit i j a b fed_a fed_b differ on low (inl at_i) (inl at_j) =
        kept line bit (are.found.first line bit (IsSecond.again i j a b at_i at_j fed_a fed_b differ on low))
    first_again line bit i j a b fed_a fed_b differ on low (inl at_i) (inr last) =
        let same = bit_of_last b bit fed_b last.1 in
        subst (IsFound new.found line) (sym same)
        (found_again i a at_i (fed_a ∙ ap Some same) line (omega (arith, on)) (omega (arith, last_line b last.1, low)))
    first_again line bit i j a b fed_a fed_b differ on low (inr last) (inl at_j) =
        let same = bit_of_last a bit fed_a last.1 in
        subst (IsFound new.found line) (sym same)
        (found_again j b at_j (fed_b ∙ ap Some same) line low (omega (arith, last_line a last.1, on)))
    first_again line bit i j a b fed_a fed_b differ on low (inr last) (inr last') = absurd (differ (last'.0 ∙ sym last.0))

    first : (line bit : ℕ) → IsSecond taken (links ++ l ∷ []) line bit → IsFound new.found line bit
    first line bit (IsSecond.before i a there fed on marked) = first_before line bit i a fed on marked (get_pushed links l i a there)
    first line bit (IsSecond.again i j a b at_i at_j fed_a fed_b differ on low) =
        first_again line bit i j a b fed_a fed_b differ on low (get_pushed links l i a at_i) (get_pushed links l j b at_j)

    -- the first lines of bits
    now_low : slice_get new.lows.items n ≡ Some (Some (earlier_line is.low l.line))
    now_low =
        ap (λ (ls : List (Option ℕ)). slice_get ls n) is.lows
        ∙ slice_get-set_same old.lows.items n (Some (earlier_line is.low l.line)) (slice_get_within old.lows.items n is.low is.known)

    other_low : (bit : ℕ) → bit ≢ n → slice_get new.lows.items bit ≡ slice_get old.lows.items bit
    other_low bit differ =
        ap (λ (ls : List (Option ℕ)). slice_get ls bit) is.lows ∙ slice_get-set_other old.lows.items n bit (Some (earlier_line is.low l.line)) differ

    on_still : (line bit : ℕ) → IsOnLine links line bit → IsOnLine (links ++ l ∷ []) line bit
    on_still line bit on = record { i = on.i; a = on.a; there = slice_get-append links (l ∷ []) on.i on.a on.there; fed = on.fed; same = on.same }

    on_last : IsOnLine (links ++ l ∷ []) l.line n
    on_last = record { i = length links; a = l; there = last_at; fed = feeds; same = refl }

    line_here : (o : Option ℕ) → slice_get old.lows.items n ≡ Some o → IsOnLine (links ++ l ∷ []) (earlier_line o l.line) n
    line_here None known = on_last
    line_here (Some low) known = by (cases_lt l.line low)
      where
        by : (l.line < low) ⊎ (low ≤ l.line) → IsOnLine (links ++ l ∷ []) (min low l.line) n
        by (inl behind) = subst (λ (x : ℕ). IsOnLine (links ++ l ∷ []) x n) (omega (arith, behind)) on_last
        by (inr before) = subst (λ (x : ℕ). IsOnLine (links ++ l ∷ []) x n) (omega (arith, before)) (on_still low n (are.lines n low known))

    lines : (bit line : ℕ) → slice_get new.lows.items bit ≡ Some (Some line) → (bit ≡ n) ⊎ (bit ≢ n) → IsOnLine (links ++ l ∷ []) line bit
    lines bit line known (inl same) =
        let here : Some (Some (earlier_line is.low l.line)) ≡ Some (Some line) = sym now_low ∙ ap (slice_get new.lows.items) (sym same) ∙ known in
        let line_is : earlier_line is.low l.line ≡ line = same_Some (earlier_line is.low l.line) line (same_Some (Some (earlier_line is.low l.line)) (Some line) here) in
        subst (λ (x : ℕ). IsOnLine (links ++ l ∷ []) x bit) line_is (subst (IsOnLine (links ++ l ∷ []) (earlier_line is.low l.line)) (sym same) (line_here is.low is.known))
    lines bit line known (inr differ) = on_still line bit (are.lines bit line (sym (other_low bit differ) ∙ known))

    earlier_than : (o : Option ℕ) (line : ℕ) → earlier_line o line ≤ line
    earlier_than None line = omega arith
    earlier_than (Some low) line = omega arith

    earlier_than_low : (o : Option ℕ) (low line : ℕ) → o ≡ Some low → earlier_line o line ≤ low
    earlier_than_low None low line e = cc
    earlier_than_low (Some m) low line e = omega (arith, same_Some m low e)

    lows_early : (bit i : ℕ) (a : LinkAt) → slice_get links i ≡ Some a → a.fed ≡ Some bit → (bit ≡ n) ⊎ (bit ≢ n) → IsKnown new.lows.items a.line bit
    lows_early bit i a there fed (inl same) =
        let k : IsKnown old.lows.items a.line bit = are.lows i bit a there fed in
        let is_low : is.low ≡ Some k.low = same_Some is.low (Some k.low) (sym is.known ∙ ap (slice_get old.lows.items) (sym same) ∙ k.known) in
        record { low = earlier_line is.low l.line; known = ap (slice_get new.lows.items) same ∙ now_low; before = omega (arith, earlier_than_low is.low k.low l.line is_low, k.before) }
    lows_early bit i a there fed (inr differ) =
        let k : IsKnown old.lows.items a.line bit = are.lows i bit a there fed in
        record { low = k.low; known = other_low bit differ ∙ k.known; before = k.before }

    lows : (bit i : ℕ) (a : LinkAt) → a.fed ≡ Some bit → (slice_get links i ≡ Some a) ⊎ ((i ≡ length links) × (a ≡ l)) → IsKnown new.lows.items a.line bit
    lows bit i a fed (inl there) = lows_early bit i a there fed (same_or_not bit n)
    lows bit i a fed (inr last) =
        record {
          low = earlier_line is.low l.line;
          known = ap (slice_get new.lows.items) (bit_of_last a bit fed last.1) ∙ now_low;
          before = omega (arith, earlier_than is.low l.line, last_line a last.1);
        }

    pub seen_more : AreSeen taken (links ++ l ∷ []) new
    seen_more = record {
      found = record { each = each; first = first };
      lines = λ bit line known. lines bit line known (same_or_not bit n);
      lows = λ i bit a there fed. lows bit i a fed (get_pushed links l i a there);
    }

-- what was found is on a line before this one, or nothing was found
module _ (line bit : ℕ) (old new : Found) where
  -- the first of all, or one on an earlier line than those before
  pub found_first : new.line ≡ line → new.bits.items ≡ bit ∷ [] → (length old.bits.items ≡ 0) ⊎ (line < old.line) → IsFoundAlso line bit old new
  found_first on are first = record {
    here = record { any = bit; listed = subst (IsIn bit) (sym are) (inl refl); low = omega (arith, on); same = λ e. subst (IsIn bit) (sym are) (inl refl) };
    before = λ l b was. by first l b was;
    only = λ b there. inl (on, only_one b (subst (IsIn b) are there));
  }
    where
      only_one : (b : ℕ) → IsIn b (bit ∷ []) → b ≡ bit
      only_one b (inl same) = same
      only_one b (inr never) = absurd never

      by : (length old.bits.items ≡ 0) ⊎ (line < old.line) → (l b : ℕ) → IsFound old l b → IsFound new l b
      by (inl none) l b was = absurd (nothing old.bits.items none was.any was.listed)
        where
          nothing : (xs : List ℕ) → length xs ≡ 0 → (x : ℕ) → IsIn x xs → ⊥
          nothing [] is x there = absurd there
          nothing (y ∷ ys) is x there = absurd (omega (arith, is))
      by (inr less) l b was = record {
        any = bit;
        listed = subst (IsIn bit) (sym are) (inl refl);
        low = omega (arith, on, less, was.low);
        same = λ e. absurd (omega (arith, on, less, was.low, e));
      }

  -- one more on the same line
  pub found_same : new.line ≡ old.line → line ≡ old.line → new.bits.items ≡ old.bits.items ++ bit ∷ [] → IsFoundAlso line bit old new
  found_same kept same are = record {
    here = record { any = bit; listed = here; low = omega (arith, kept, same); same = λ e. here };
    before = λ l b was. record {
      any = was.any;
      listed = subst (IsIn was.any) (sym are) (IsIn-append_left was.any old.bits.items (bit ∷ []) was.listed);
      low = omega (arith, kept, was.low);
      same = λ e. subst (IsIn b) (sym are) (IsIn-append_left b old.bits.items (bit ∷ []) (was.same (omega (arith, e, kept))));
    };
    only = λ b there. by b (IsIn-append_cases b old.bits.items (bit ∷ []) (subst (IsIn b) are there));
  }
    where
      here : IsIn bit new.bits.items
      here = subst (IsIn bit) (sym are) (IsIn-append_right bit old.bits.items (bit ∷ []) (inl refl))

      by : (b : ℕ) → IsIn b old.bits.items ⊎ IsIn b (bit ∷ []) → ((new.line ≡ line) × (b ≡ bit)) ⊎ ((new.line ≡ old.line) × IsIn b old.bits.items)
      by b (inl early) = inr (kept, early)
      by b (inr (inl last)) = inl (omega (arith, kept, same), last)
      by b (inr (inr never)) = absurd never

-- one on a later line
pub found_behind : (line bit : ℕ) (found : Found) → (length found.bits.items ≡ 0 → ⊥) → found.line < line → IsFoundAlso line bit found found
found_behind line bit found some late = record {
  here = record { any = one.0; listed = one.1; low = omega (arith, late); same = λ e. absurd (omega (arith, late, e)) };
  before = λ l b was. was;
  only = λ b there. inr (refl, there);
}
  where
    first : (xs : List ℕ) → (length xs ≡ 0 → ⊥) → (x : ℕ) × IsIn x xs
    first [] never = absurd (never refl)
    first (x ∷ xs) never = (x, inl refl)

    one : (x : ℕ) × IsIn x found.bits.items
    one = first found.bits.items some
