-- Bits that are fed one after the other.
use Rattle.std.proofs.Common.{◌≡◌, ◌≢◌, ℕ, ◌+◌, ◌<◌, ◌≤◌, ◌⊎◌, inl, inr, List, length, set, take, refl, sym, ap, ◌∙◌, subst, arith}
use Rattle.std.specs.List.{sum_by}
use Rattle.std.proofs.lemmas.Bool.{cases_lt}
use Rattle.std.proofs.lemmas.Grind.{get_or-set_at}
use Rattle.std.proofs.lemmas.List.{get_or-set_other, length-set, take_all}
use Rattle.std.proofs.lemmas.List.Sums.{sum_by_more}
use Rattle.design_rows.specs.declared.tables.Feed.{Feed}
use Rattle.design_rows.specs.declared.tables.Rows.{Rows}
use Rattle.design_rows.specs.Sound.{AreRows}
use Rattle.design_rows.specs.View.{inst_at, no_feed, no_instance, size}
use Rattle.net_frames.specs.Feeding.{AreFedBetween, IsBitFeed, IsFeed, feed_of}

module _ (r : Rows) where
  pub none_fed : (low : ℕ) (feeds : List Feed) → AreFedBetween r low low feeds feeds
  none_fed low feeds = record { count = refl; inside = λ n from to. absurd (omega arith); outside = λ n out. refl }

  -- bits up to one, and the bits from there on
  pub fed_joined : (low middle high : ℕ) (a b c : List Feed) → low ≤ middle → middle ≤ high → AreFedBetween r low middle a b → AreFedBetween r middle high b c
      → AreFedBetween r low high a c
  fed_joined low middle high a b c one two first second = record {
    count = second.count ∙ first.count;
    inside = λ n from to. by n from to (cases_lt n middle);
    outside = λ n out. other n out;
  }
    where
      by : (n : ℕ) → low ≤ n → n < high → (n < middle) ⊎ (middle ≤ n) → IsBitFeed r n (feed_of a n) (feed_of c n)
      by n from to (inl early) = subst (IsBitFeed r n (feed_of a n)) (sym (second.outside n (inl early))) (first.inside n from early)
      by n from to (inr late) =
          let P : Feed → Type 0 = λ feed. IsBitFeed r n feed (feed_of c n) in
          subst P (first.outside n (inr late)) (second.inside n late to)

      other : (n : ℕ) → (n < low) ⊎ (high ≤ n) → feed_of c n ≡ feed_of a n
      other n (inl less) = second.outside n (inl (omega arith)) ∙ first.outside n (inl less)
      other n (inr more) = second.outside n (inr more) ∙ first.outside n (inr (omega arith))

  -- one bit
  pub one_fed : (inst at n : ℕ) (old new : List Feed) (feed : Feed) → inst < length r.insts → at < size r (inst_at r inst) → (inst_at r inst).first_bit + at ≡ n
      → n < length old → IsFeed r inst at (feed_of old n) feed → new ≡ set old n feed → AreFedBetween r n (n + 1) old new
  one_fed inst at n old new feed there within number inside fed is = record {
    count = ap length is ∙ length-set old n feed;
    inside = λ k from to.
        let same : n ≡ k = omega arith in
        let Q : ℕ → Type 0 = λ m. IsBitFeed r m (feed_of old m) (feed_of new m) in
        subst Q same here;
    outside = λ k out. ap (λ (feeds : List Feed). feed_of feeds k) is ∙ get_or-set_other old n k feed no_feed (apart k out);
  }
    where
      made : feed ≡ feed_of new n
      made = sym (ap (λ (feeds : List Feed). feed_of feeds n) is ∙ get_or-set_at old n n feed no_feed refl inside)

      here : IsBitFeed r n (feed_of old n) (feed_of new n)
      here = record { inst = inst; at = at; there = there; within = within; number = number; fed = subst (IsFeed r inst at (feed_of old n)) made fed }

      apart : (k : ℕ) → (k < n) ⊎ (n + 1 ≤ k) → k ≢ n
      apart k (inl less) same = absurd (omega arith)
      apart k (inr more) same = absurd (omega arith)

  -- where the bits of the next instance begin
  pub next_begins : AreRows r → (inst : ℕ) → inst + 1 ≤ length r.insts
      → sum_by (size r) (take (inst + 1) r.insts) ≡ (inst_at r inst).first_bit + size r (inst_at r inst)
  next_begins rows inst within =
      let first = rows.firsts inst (omega arith) in
      let more = sum_by_more (size r) r.insts inst no_instance (omega arith) in
      omega (arith, first, more)

  -- one bit of an instance more
  pub bits_more : (first at : ℕ) (a b c : List Feed) → AreFedBetween r first (first + at) a b → AreFedBetween r (first + at) (first + at + 1) b c
      → AreFedBetween r first (first + (at + 1)) a c
  bits_more first at a b c one two =
      let P : ℕ → Type 0 = λ high. AreFedBetween r first high a c in
      let same : first + at + 1 ≡ first + (at + 1) = omega arith in
      subst P same (fed_joined first (first + at) (first + at + 1) a b c (omega arith) (omega arith) one two)

  -- no bit of an instance yet
  pub no_bits : (first : ℕ) (feeds : List Feed) → AreFedBetween r first (first + 0) feeds feeds
  no_bits first feeds =
      let P : ℕ → Type 0 = λ high. AreFedBetween r first high feeds feeds in
      let same : first ≡ first + 0 = omega arith in
      subst P same (none_fed first feeds)

  -- the bits of one instance more
  pub insts_more : AreRows r → (inst : ℕ) → inst < length r.insts → (a b c : List Feed) → AreFedBetween r 0 (sum_by (size r) (take inst r.insts)) a b
      → AreFedBetween r (inst_at r inst).first_bit ((inst_at r inst).first_bit + size r (inst_at r inst)) b c
      → AreFedBetween r 0 (sum_by (size r) (take (inst + 1) r.insts)) a c
  insts_more rows inst within a b c one two =
      let first = (inst_at r inst).first_bit in
      let P : ℕ → Type 0 = λ high. AreFedBetween r 0 high a c in
      let Q : ℕ → Type 0 = λ high. AreFedBetween r 0 high a b in
      subst P (sym (next_begins rows inst (omega arith)))
      (fed_joined 0 first (first + size r (inst_at r inst)) a b c (omega arith) (omega arith) (subst Q (sym (rows.firsts inst within)) one) two)

  -- the bits of all instances
  pub all_bits : AreRows r → (inst : ℕ) → length r.insts ≤ inst → (a b : List Feed) → AreFedBetween r 0 (sum_by (size r) (take inst r.insts)) a b
      → AreFedBetween r 0 (length r.feeds.items) a b
  all_bits rows inst past a b fed =
      let P : ℕ → Type 0 = λ high. AreFedBetween r 0 high a b in
      subst P (ap (sum_by (size r)) (take_all inst r.insts past) ∙ sym rows.all) fed
