-- What a network holds once a supply is new, of another kind or fed.
use Rattle.std.proofs.Common.{◌≡◌, ◌≢◌, ℕ, ◌<◌, Bool, true, false, eqb, List, [], ◌∷◌, ◌++◌, length, Option, Some, None, option_map, slice_get, set, ◌⊎◌, inl, inr, refl, sym, ap, ◌∙◌, subst, arith}
use Rattle.std.specs.Option.{unwrap_or}
use Rattle.std.proofs.lemmas.Bool.{eqb-true, eqb-false}
use Rattle.std.proofs.lemmas.List.{length-set}
use Rattle.std.proofs.lemmas.Option.{slice_get_within}
use Rattle.pw_defs.specs.declared.supplies.Supply.{Supply}
use Rattle.pw_defs.specs.declared.supplies.SupplyKind.{SupplyKind}
use Rattle.list_defs.specs.Rings.{IsReached}
use Rattle.list_defs.proofs.Longer.{slice_get-set_same, slice_get-set_other}
use Rattle.supply_defs.specs.Network.{feeder_at, IsUnfed, FeedersLead}
use Rattle.supply_net.specs.Feeders.{IsAbove, AreAbove, AreFeeders, IsFitting}
use Rattle.supply_net.specs.Networks.{with_feeder, with_kind, of_kind, changed_at}
use Rattle.supply_net.specs.Parts.{IsHeld}
use Rattle.supply_net.proofs.FeederLemmas.{is_link, still_feeders, still_above}
use Rattle.supply_net.proofs.GrowthLemmas.{is_longer, longer_feeders, longer_above}

-- what is above a supply that is new: itself, or its feeder
above_new : (feeder : Option ℕ) (n m : ℕ) → m ≡ unwrap_or feeder n → ((m ≡ n) × (feeder ≡ None)) ⊎ (feeder ≡ Some m)
above_new None n m is = inl (is, refl)
above_new (Some f) n m is = inr (ap Some (sym is))

-- a supply is pushed
pub pushed_held : (supplies new : List Supply) (above up : List ℕ) (s : Supply) (m : ℕ) → IsHeld supplies above → new ≡ supplies ++ s ∷ []
    → up ≡ above ++ m ∷ [] → IsFitting supplies s.feeder → m ≡ unwrap_or s.feeder (length supplies) → IsHeld new up
pushed_held supplies new above up s m h n u fits last =
    subst (λ (xs : List Supply). IsHeld xs up) (sym n) (subst (λ (ys : List ℕ). IsHeld (supplies ++ s ∷ []) ys) (sym u) (record {
      feeders = longer_feeders supplies (supplies ++ s ∷ []) s.feeder (is_longer supplies s) fits h.feeders;
      up = longer_above supplies (supplies ++ s ∷ []) s.feeder (is_longer supplies s) above m (above_new s.feeder (length supplies) m last) h.up;
    }))

-- the same feeders, and as many supplies
record HasSameFeeders (old new : List Supply) : Type 0 where
  count : length new ≡ length old
  same : (a : ℕ) → feeder_at new a ≡ feeder_at old a

lead_same : (old new : List Supply) → HasSameFeeders old new → (a b : ℕ) → FeedersLead new a b → FeedersLead old a b
lead_same old new h _ _ (IsReached.one a b step) = IsReached.one a b (sym (h.same a) ∙ step)
lead_same old new h _ _ (IsReached.more a b c step rest) = IsReached.more a b c (sym (h.same a) ∙ step) (lead_same old new h b c rest)

lead_back : (old new : List Supply) → HasSameFeeders old new → (a b : ℕ) → FeedersLead old a b → FeedersLead new a b
lead_back old new h _ _ (IsReached.one a b step) = IsReached.one a b (h.same a ∙ step)
lead_back old new h _ _ (IsReached.more a b c step rest) = IsReached.more a b c (h.same a ∙ step) (lead_back old new h b c rest)

same_held : (old new : List Supply) (above : List ℕ) → HasSameFeeders old new → IsHeld old above → IsHeld new above
same_held old new above h k = record {
  feeders = record {
    in_range = λ a b step. (let w = k.feeders.in_range a b (sym (h.same a) ∙ step) in let n = h.count in omega arith);
    ringless = λ x ring. k.feeders.ringless x (lead_same old new h x x ring);
  };
  up = record {
    count = k.up.count ∙ sym h.count;
    each = λ a b there. moved a b (k.up.each a b there);
  };
}
  where
    moved : (a b : ℕ) → IsAbove old a b → IsAbove new a b
    moved a b (inl end) = inl (end.0, h.same a ∙ end.1)
    moved a b (inr lead) = inr (lead_back old new h a b lead)

same_kind_feeders : (old : List Supply) (n : ℕ) (kind : SupplyKind) (o : Option Supply) → slice_get old n ≡ o
    → HasSameFeeders old (changed_at old n (of_kind kind) o)
same_kind_feeders old n kind None e = record { count = refl; same = λ a. refl }
same_kind_feeders old n kind (Some s) e = record {
  count = length-set old n (of_kind kind s);
  same = λ a. at a (eqb a n) refl;
}
  where
    at : (a : ℕ) (t : Bool) → eqb a n ≡ t → feeder_at (set old n (of_kind kind s)) a ≡ feeder_at old a
    at a true i =
        let same : a ≡ n = eqb-true a n i in
        let F : ℕ → Type 0 = λ k. feeder_at (set old n (of_kind kind s)) k ≡ feeder_at old k in
        let new : feeder_at (set old n (of_kind kind s)) n ≡ Some s.feeder =
        ap (option_map (λ (t : Supply). t.feeder)) (slice_get-set_same old n (of_kind kind s) (slice_get_within old n s e)) in
        let before : feeder_at old n ≡ Some s.feeder = ap (option_map (λ (t : Supply). t.feeder)) e in
        subst F (sym same) (new ∙ sym before)
    at a false i = ap (option_map (λ (t : Supply). t.feeder)) (slice_get-set_other old n a (of_kind kind s) (eqb-false a n i))

-- a supply is of another kind
pub turned_held : (supplies new : List Supply) (above : List ℕ) (n : ℕ) (kind : SupplyKind) → IsHeld supplies above → new ≡ with_kind supplies n kind
    → IsHeld new above
turned_held supplies new above n kind h is =
    subst (λ (xs : List Supply). IsHeld xs above) (sym is)
    (same_held supplies (with_kind supplies n kind) above (same_kind_feeders supplies n kind (slice_get supplies n) refl) h)

-- a supply is fed
pub fed_held : (supplies new : List Supply) (above : List ℕ) (fed by : ℕ) → AreFeeders supplies → AreAbove supplies above → new ≡ with_feeder supplies fed by
    → IsUnfed supplies fed → fed ≢ by → by < length supplies → ¬ FeedersLead supplies by fed → IsHeld new (set above fed by)
fed_held supplies new above fed by f h is none apart there ringless =
    subst (λ (xs : List Supply). IsHeld xs (set above fed by)) (sym is) (record {
      feeders = still_feeders supplies (with_feeder supplies fed by) fed by (is_link supplies fed by none) apart there ringless f;
      up = still_above supplies (with_feeder supplies fed by) fed by (is_link supplies fed by none) above h;
    })
