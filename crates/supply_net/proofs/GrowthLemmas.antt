-- One supply more: feeders lead as before, and make no ring where the new supply is fed by one that was there.
use Rattle.std.proofs.Common.{◌≡◌, ℕ, ◌+◌, ◌<◌, List, [], ◌∷◌, ◌++◌, length, Option, Some, None, option_map, slice_get, ◌⊎◌, inl, inr, refl, sym, ap, ◌∙◌, subst, arith}
use Rattle.std.proofs.lemmas.List.{length-append}
use Rattle.std.proofs.lemmas.Option.{slice_get_within}
use Rattle.pw_defs.specs.declared.supplies.Supply.{Supply}
use Rattle.list_defs.specs.Rings.{IsReached}
use Rattle.list_defs.proofs.Longer.{slice_get-append, slice_get_front, slice_get_last}
use Rattle.supply_defs.specs.Network.{feeder_at, FeedersLead}
use Rattle.supply_net.specs.Feeders.{IsAbove, AreAbove, AreFeeders, IsFitting}
use Rattle.supply_net.proofs.FeederLemmas.{led_there}

-- a list of supplies and one more, which has this feeder
pub record IsLonger (old new : List Supply) (feeder : Option ℕ) : Type 0 where
  pub count : length new ≡ length old + 1
  pub same : (a : ℕ) (f : Option ℕ) → feeder_at old a ≡ Some f → feeder_at new a ≡ Some f
  pub last : feeder_at new (length old) ≡ Some feeder
  pub back : (a : ℕ) (f : Option ℕ) → feeder_at new a ≡ Some f → (feeder_at old a ≡ Some f) ⊎ ((a ≡ length old) × (f ≡ feeder))

abbrev feeder_in : Option Supply → Option (Option ℕ)
feeder_in o = option_map (λ s. s.feeder) o

pub is_longer : (old : List Supply) (s : Supply) → IsLonger old (old ++ s ∷ []) s.feeder
is_longer old s = record {
  count = let k = length-append old (s ∷ []) in omega arith;
  same = λ a f e. same_at a f (slice_get old a) refl e;
  last = ap feeder_in (slice_get_last old s (length old) refl);
  back = λ a f e. back_at a f (slice_get (old ++ s ∷ []) a) refl e;
}
  where
    same_at : (a : ℕ) (f : Option ℕ) (o : Option Supply) → slice_get old a ≡ o → feeder_in o ≡ Some f → feeder_at (old ++ s ∷ []) a ≡ Some f
    same_at a f None e h = cc
    same_at a f (Some t) e h = ap feeder_in (slice_get-append old (s ∷ []) a t e) ∙ h

    at_last : (a : ℕ) (f : Option ℕ) (t : Supply) → slice_get (old ++ s ∷ []) a ≡ Some t → t.feeder ≡ f → a ≡ length old → f ≡ s.feeder
    at_last a f t e h same =
        let one : slice_get (old ++ s ∷ []) a ≡ Some s = slice_get_last old s a same in
        let equal : Some t ≡ Some s = sym e ∙ one in
        let feeders : Some t.feeder ≡ Some s.feeder = ap feeder_in equal in
        cc

    back_at : (a : ℕ) (f : Option ℕ) (o : Option Supply) → slice_get (old ++ s ∷ []) a ≡ o → feeder_in o ≡ Some f
        → (feeder_at old a ≡ Some f) ⊎ ((a ≡ length old) × (f ≡ s.feeder))
    back_at a f None e h = cc
    back_at a f (Some t) e h =
        let within : a < length old + 1 = let w = slice_get_within (old ++ s ∷ []) a t e in let k = length-append old (s ∷ []) in omega arith in
        let split : (a < length old) ⊎ (a ≡ length old) = grind arith in
        elim split [
          | inl before ↦ inl (ap feeder_in (slice_get_front old (s ∷ []) a t before e) ∙ h)
          | inr same ↦ inr (same, at_last a f t e (cc) same)
        ]

lead_longer : (old new : List Supply) (feeder : Option ℕ) → IsLonger old new feeder → (a b : ℕ) → FeedersLead old a b → FeedersLead new a b
lead_longer old new feeder l _ _ (IsReached.one a b step) = IsReached.one a b (l.same a (Some b) step)
lead_longer old new feeder l _ _ (IsReached.more a b c step rest) =
    IsReached.more a b c (l.same a (Some b) step) (lead_longer old new feeder l b c rest)

lead_shorter : (old new : List Supply) (feeder : Option ℕ) → IsLonger old new feeder → IsFitting old feeder → AreFeeders old → (a b : ℕ) → FeedersLead new a b
    → FeedersLead old a b ⊎ ((a ≡ length old) × (b < length old))
lead_shorter old new feeder l fits h _ _ (IsReached.one a b step) =
    elim (l.back a (Some b) step) [
      | inl before ↦ inl (IsReached.one a b before)
      | inr last ↦ inr (last.0, fits b (sym last.1))
    ]
lead_shorter old new feeder l fits h _ _ (IsReached.more a c b step rest) =
    elim (l.back a (Some c) step) [
      | inl before ↦ (elim (lead_shorter old new feeder l fits h c b rest) [
        | inl lead ↦ inl (IsReached.more a c b before lead)
        | inr last ↦ (let w = h.in_range a c before in let s = last.0 in absurd (omega arith))
      ])
      | inr last ↦ (elim (lead_shorter old new feeder l fits h c b rest) [
        | inl lead ↦ inr (last.0, led_there old h.in_range c b lead)
        | inr further ↦ (let w = fits c (sym last.1) in let s = further.0 in absurd (omega arith))
      ])
    ]

pub longer_feeders : (old new : List Supply) (feeder : Option ℕ) → IsLonger old new feeder → IsFitting old feeder → AreFeeders old → AreFeeders new
longer_feeders old new feeder l fits h = record {
  in_range = λ a b step. elim (l.back a (Some b) step) [
    | inl before ↦ (let w = h.in_range a b before in let n = l.count in omega arith)
    | inr last ↦ (let w = fits b (sym last.1) in let n = l.count in omega arith)
  ];
  ringless = λ x ring. elim (lead_shorter old new feeder l fits h x x ring) [
    | inl before ↦ h.ringless x before
    | inr last ↦ (let s = last.0 in let w = last.1 in omega arith)
  ];
}

-- what is above the last supply: itself where it has no feeder, or its feeder
pub longer_above : (old new : List Supply) (feeder : Option ℕ) → IsLonger old new feeder → (above : List ℕ) (m : ℕ)
    → ((m ≡ length old) × (feeder ≡ None)) ⊎ (feeder ≡ Some m) → AreAbove old above → AreAbove new (above ++ m ∷ [])
longer_above old new feeder l above m tip h = record {
  count = let k = length-append above (m ∷ []) in let n = l.count in let c = h.count in omega arith;
  each = λ a b there.
      let within : a < length above + 1 = let w = slice_get_within (above ++ m ∷ []) a b there in let k = length-append above (m ∷ []) in omega arith in
      let split : (a < length above) ⊎ (a ≡ length above) = grind arith in
      elim split [
        | inl before ↦ moved a b (h.each a b (slice_get_front above (m ∷ []) a b before there))
        | inr same ↦ (let one : slice_get (above ++ m ∷ []) a ≡ Some m = slice_get_last above m a same in
            let equal : m ≡ b = cc in
            at_last a b (same ∙ h.count) equal)
      ];
}
  where
    moved : (a b : ℕ) → IsAbove old a b → IsAbove new a b
    moved a b (inl end) = inl (end.0, l.same a None end.1)
    moved a b (inr lead) = inr (lead_longer old new feeder l a b lead)

    at_tip : ((m ≡ length old) × (feeder ≡ None)) ⊎ (feeder ≡ Some m) → IsAbove new (length old) m
    at_tip (inl end) = inl (sym end.0, l.last ∙ ap Some end.1)
    at_tip (inr fed) = inr (IsReached.one (length old) m (l.last ∙ ap Some fed))

    at_last : (a b : ℕ) → a ≡ length old → m ≡ b → IsAbove new a b
    at_last a b here equal =
        let P : ℕ → Type 0 = λ n. IsAbove new n b in
        let Q : ℕ → Type 0 = λ n. IsAbove new (length old) n in
        subst P (sym here) (subst Q equal (at_tip tip))
