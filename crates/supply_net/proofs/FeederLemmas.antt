-- Feeders that lead on, and what a new feeder changes.
use Rattle.std.proofs.Common.{◌≡◌, ◌≢◌, ℕ, ◌<◌, Bool, true, false, eqb, List, length, Option, Some, None, option_map, slice_get, slice_index, set, ◌⊎◌, inl, inr, refl, sym, ap, ◌∙◌, subst, arith}
use Rattle.std.proofs.lemmas.Bool.{eqb-true, eqb-false}
use Rattle.std.proofs.lemmas.List.{length-set}
use Rattle.std.proofs.lemmas.Option.{slice_get_within, slice_get-get_or}
use Rattle.pw_defs.specs.declared.supplies.Supply.{Supply}
use Rattle.list_defs.specs.Rings.{IsReached}
use Rattle.list_defs.proofs.Longer.{slice_get-set_same, slice_get-set_other}
use Rattle.supply_defs.specs.Network.{feeder_at, IsFedBy, IsUnfed, FeedersLead, HasFeedersInRange}
use Rattle.supply_net.specs.Feeders.{LeadsTo, IsAbove, AreAbove, IsTop, AreFeeders}
use Rattle.supply_net.specs.Networks.{with_feeder, fed_by, changed_at}

-- ways by feeders go on
pub lead_on : (supplies : List Supply) (a b c : ℕ) → FeedersLead supplies a b → FeedersLead supplies b c → FeedersLead supplies a c
lead_on supplies _ _ c (IsReached.one a b step) next = IsReached.more a b c step next
lead_on supplies _ _ c (IsReached.more a b d step rest) next = IsReached.more a b c step (lead_on supplies b d c rest next)

pub leads_on : (supplies : List Supply) (a b c : ℕ) → LeadsTo supplies a b → FeedersLead supplies b c → FeedersLead supplies a c
leads_on supplies a b c (inl same) next = let L : ℕ → Type 0 = λ n. FeedersLead supplies n c in subst L (sym same) next
leads_on supplies a b c (inr lead) next = lead_on supplies a b c lead next

pub lead_then : (supplies : List Supply) (a b c : ℕ) → FeedersLead supplies a b → LeadsTo supplies b c → FeedersLead supplies a c
lead_then supplies a b c lead (inl same) = let L : ℕ → Type 0 = λ n. FeedersLead supplies a n in subst L same lead
lead_then supplies a b c lead (inr next) = lead_on supplies a b c lead next

-- a supply to which feeders lead is there
pub led_there : (supplies : List Supply) → HasFeedersInRange supplies → (a b : ℕ) → FeedersLead supplies a b → b < length supplies
led_there supplies within _ _ (IsReached.one a b step) = within a b step
led_there supplies within _ _ (IsReached.more a b c step rest) = led_there supplies within b c rest

-- no feeders lead from a supply that has none
pub no_lead : (supplies : List Supply) (a b : ℕ) → IsUnfed supplies a → ¬ FeedersLead supplies a b
no_lead supplies _ _ end (IsReached.one a b step) = cc
no_lead supplies _ _ end (IsReached.more a b c step rest) = cc

same_ends : (supplies : List Supply) (a b c d : ℕ) → a ≡ b → FeedersLead supplies a c → IsUnfed supplies c → FeedersLead supplies b d → IsUnfed supplies d → c ≡ d
same_ends supplies _ _ _ _ same (IsReached.one a c step) end (IsReached.one b d step') end' = cc
same_ends supplies _ _ _ _ same (IsReached.one a c step) end (IsReached.more b e d step' rest') end' =
    let one : c ≡ e = cc in
    let U : ℕ → Type 0 = λ n. IsUnfed supplies n in
    absurd (no_lead supplies e d (subst U one end) rest')
same_ends supplies _ _ _ _ same (IsReached.more a e c step rest) end (IsReached.one b d step') end' =
    let one : d ≡ e = cc in
    let U : ℕ → Type 0 = λ n. IsUnfed supplies n in
    absurd (no_lead supplies e c (subst U one end') rest)
same_ends supplies _ _ _ _ same (IsReached.more a e c step rest) end (IsReached.more b f d step' rest') end' =
    same_ends supplies e f c d (cc) rest end rest' end'

-- two ends of the feeders of a supply are one
pub one_end : (supplies : List Supply) (a b c : ℕ) → LeadsTo supplies a b → IsUnfed supplies b → LeadsTo supplies a c → IsUnfed supplies c → b ≡ c
one_end supplies a b c (inl same) end (inl same') end' = sym same ∙ same'
one_end supplies a b c (inl same) end (inr lead') end' =
    let U : ℕ → Type 0 = λ n. IsUnfed supplies n in absurd (no_lead supplies a c (subst U (sym same) end) lead')
one_end supplies a b c (inr lead) end (inl same') end' =
    let U : ℕ → Type 0 = λ n. IsUnfed supplies n in absurd (no_lead supplies a b (subst U (sym same') end') lead)
one_end supplies a b c (inr lead) end (inr lead') end' = same_ends supplies a a b c refl lead end lead' end'

-- the end that was found tells whether feeders lead to a supply without feeder
pub leads_to_top : (supplies : List Supply) (by fed top : ℕ) → IsTop supplies by top → top ≡ fed → fed ≢ by → FeedersLead supplies by fed
leads_to_top supplies by fed top is same apart =
    elim is.leads [
      | inl here ↦ absurd (apart (sym (here ∙ same)))
      | inr lead ↦ (let L : ℕ → Type 0 = λ n. FeedersLead supplies by n in subst L same lead)
    ]

pub no_way : (supplies : List Supply) (by fed top : ℕ) → IsTop supplies by top → top ≢ fed → IsUnfed supplies fed → ¬ FeedersLead supplies by fed
no_way supplies by fed top is other end lead = other (one_end supplies by top fed is.leads is.unfed (inr lead) end)

-- A supply without feeder has got one, and nothing else has changed.
pub record IsLink (old new : List Supply) (fed by : ℕ) : Type 0 where
  pub count : length new ≡ length old
  pub was : IsUnfed old fed
  pub here : IsFedBy new fed by
  pub others : (a : ℕ) → a ≢ fed → feeder_at new a ≡ feeder_at old a

pub is_link : (old : List Supply) (fed by : ℕ) → IsUnfed old fed → IsLink old (with_feeder old fed by) fed by
is_link old fed by none = found (slice_get old fed) refl none
  where
    found : (o : Option Supply) → slice_get old fed ≡ o → option_map (λ (s : Supply). s.feeder) o ≡ Some None → IsLink old (changed_at old fed (fed_by by) o) fed by
    found None e h = cc
    found (Some s) e h = record {
      count = length-set old fed (fed_by by s);
      was = none;
      here = ap (option_map (λ (t : Supply). t.feeder)) (slice_get-set_same old fed (fed_by by s) (slice_get_within old fed s e));
      others = λ a other. ap (option_map (λ (t : Supply). t.feeder)) (slice_get-set_other old fed a (fed_by by s) other);
    }

-- feeders that led somewhere lead there still
pub still_leads : (old new : List Supply) (fed by : ℕ) → IsLink old new fed by → (a b : ℕ) → FeedersLead old a b → FeedersLead new a b
still_leads old new fed by l _ _ (IsReached.one a b step) =
    let other : a ≢ fed = λ same. let U : ℕ → Type 0 = λ n. IsUnfed old n in let u = subst U (sym same) l.was in cc in
    IsReached.one a b (l.others a other ∙ step)
still_leads old new fed by l _ _ (IsReached.more a b c step rest) =
    let other : a ≢ fed = λ same. let U : ℕ → Type 0 = λ n. IsUnfed old n in let u = subst U (sym same) l.was in cc in
    IsReached.more a b c (l.others a other ∙ step) (still_leads old new fed by l b c rest)

-- a feeder is the new one, or was there before
step_before : (old new : List Supply) (fed by : ℕ) → IsLink old new fed by → (a b : ℕ) → IsFedBy new a b → ((a ≡ fed) × (b ≡ by)) ⊎ IsFedBy old a b
step_before old new fed by l a b step = at (eqb a fed) refl
  where
    at : (t : Bool) → eqb a fed ≡ t → ((a ≡ fed) × (b ≡ by)) ⊎ IsFedBy old a b
    at true e =
        let same : a ≡ fed = eqb-true a fed e in
        let F : ℕ → Type 0 = λ n. IsFedBy new n b in
        let h : IsFedBy new fed b = subst F same step in
        let k = l.here in
        inl (same, cc)
    at false e = inr (sym (l.others a (eqb-false a fed e)) ∙ step)

-- feeders lead as before, or through the new one
lead_before : (old new : List Supply) (fed by : ℕ) → IsLink old new fed by → (a b : ℕ) → FeedersLead new a b
    → FeedersLead old a b ⊎ (LeadsTo old a fed × LeadsTo old by b)
lead_before old new fed by l _ _ (IsReached.one a b step) =
    elim (step_before old new fed by l a b step) [ inl new_one ↦ inr (inl new_one.0, inl (sym new_one.1)) | inr before ↦ inl (IsReached.one a b before) ]
lead_before old new fed by l _ _ (IsReached.more a c b step rest) =
    elim (step_before old new fed by l a c step) [
      | inl new_one ↦ (elim (lead_before old new fed by l c b rest) [
        | inl lead ↦ inr (inl new_one.0, inr (let L : ℕ → Type 0 = λ n. FeedersLead old n b in subst L new_one.1 lead))
        | inr ends ↦ inr (inl new_one.0, ends.1)
      ])
      | inr before ↦ (elim (lead_before old new fed by l c b rest) [
        | inl lead ↦ inl (IsReached.more a c b before lead)
        | inr ends ↦ inr (inr (lead_then old a c fed (IsReached.one a c before) ends.0), ends.1)
      ])
    ]

-- where no feeders lead from the one supply to the other, the new feeder makes no ring
pub still_feeders : (old new : List Supply) (fed by : ℕ) → IsLink old new fed by → fed ≢ by → by < length old → ¬ FeedersLead old by fed
    → AreFeeders old → AreFeeders new
still_feeders old new fed by l apart there none f = record {
  in_range = λ a b step. elim (step_before old new fed by l a b step) [
    | inl new_one ↦ (let s = new_one.1 in let n = l.count in omega arith)
    | inr before ↦ (let w = f.in_range a b before in let n = l.count in omega arith)
  ];
  ringless = λ x ring. elim (lead_before old new fed by l x x ring) [
    | inl before ↦ f.ringless x before
    | inr ends ↦ back x ends.1 ends.0
  ];
}
  where
    back : (x : ℕ) → LeadsTo old by x → LeadsTo old x fed → ⊥
    back x (inl here) (inl there) = apart (sym (here ∙ there))
    back x (inl here) (inr lead) = none (let L : ℕ → Type 0 = λ n. FeedersLead old n fed in subst L (sym here) lead)
    back x (inr lead) next = none (lead_then old by x fed lead next)

-- what is above a supply is above it still
pub still_above : (old new : List Supply) (fed by : ℕ) → IsLink old new fed by → (above : List ℕ) → AreAbove old above → AreAbove new (set above fed by)
still_above old new fed by l above h = record {
  count = length-set above fed by ∙ h.count ∙ sym l.count;
  each = λ a b there. at a b (eqb a fed) refl there;
}
  where
    at : (a b : ℕ) (t : Bool) → eqb a fed ≡ t → slice_get (set above fed by) a ≡ Some b → IsAbove new a b
    at a b true e there =
        let same : a ≡ fed = eqb-true a fed e in
        let F : ℕ → Type 0 = λ n. slice_get (set above fed by) n ≡ Some b in
        let here : slice_get (set above fed by) fed ≡ Some b = subst F same there in
        let within : fed < length above = let k = slice_get_within (set above fed by) fed b here in let n = length-set above fed by in omega arith in
        let written : slice_get (set above fed by) fed ≡ Some by = slice_get-set_same above fed by within in
        let one : b ≡ by = cc in
        let way : FeedersLead new fed by = IsReached.one fed by l.here in
        let L : ℕ → Type 0 = λ n. FeedersLead new n by in
        let M : ℕ → Type 0 = λ n. FeedersLead new a n in
        inr (subst M (sym one) (subst L (sym same) way))
    at a b false e there =
        let other : a ≢ fed = eqb-false a fed e in
        elim (h.each a b (sym (slice_get-set_other above fed a by other) ∙ there)) [
          | inl end ↦ inl (end.0, l.others a other ∙ end.1)
          | inr lead ↦ inr (still_leads old new fed by l a b lead)
        ]

there_above : (supplies : List Supply) (above : List ℕ) → AreAbove supplies above → (a : ℕ) → a < length supplies → slice_get above a ≡ Some (slice_index above a)
there_above supplies above h a within = slice_get-get_or above a 0 (let c = h.count in omega arith)

-- what is above a supply is a supply
pub above_there : (supplies : List Supply) (above : List ℕ) → AreFeeders supplies → AreAbove supplies above → (a : ℕ) → a < length supplies
    → slice_index above a < length supplies
above_there supplies above f h a within =
    elim (h.each a (slice_index above a) (there_above supplies above h a within)) [
      | inl end ↦ (let B : ℕ → Type 0 = λ n. n < length supplies in subst B end.0 within)
      | inr lead ↦ led_there supplies f.in_range a (slice_index above a) lead
    ]

-- a supply with nothing above it is the end
pub top_here : (supplies : List Supply) (above : List ℕ) → AreFeeders supplies → AreAbove supplies above → (from a : ℕ) → a < length supplies
    → slice_index above a ≡ a → LeadsTo supplies from a → IsTop supplies from a
top_here supplies above f h from a within same way =
    elim (h.each a (slice_index above a) (there_above supplies above h a within)) [
      | inl end ↦ record { unfed = end.1; leads = way }
      | inr lead ↦ absurd (f.ringless a (let L : ℕ → Type 0 = λ n. FeedersLead supplies a n in subst L same lead))
    ]

-- two steps up from a supply that isn't the end
pub two_up : (supplies : List Supply) (above : List ℕ) → AreFeeders supplies → AreAbove supplies above → (a next : ℕ) → a < length supplies
    → next ≡ slice_index above a → next ≢ a → FeedersLead supplies a (slice_index above next)
two_up supplies above f h a next within is other =
    elim (h.each a next (there_above supplies above h a within ∙ ap Some (sym is))) [
      | inl end ↦ absurd (other (sym end.0))
      | inr lead ↦ (elim (h.each next (slice_index above next) (there_above supplies above h next (led_there supplies f.in_range a next lead))) [
        | inl end ↦ (let L : ℕ → Type 0 = λ n. FeedersLead supplies a n in subst L end.0 lead)
        | inr further ↦ lead_on supplies a next (slice_index above next) lead further
      ])
    ]

-- one that feeders lead to may be kept as the one above
pub kept_above : (supplies : List Supply) (above : List ℕ) → AreAbove supplies above → (a b : ℕ) → FeedersLead supplies a b → AreAbove supplies (set above a b)
kept_above supplies above h a b lead = record {
  count = length-set above a b ∙ h.count;
  each = λ n m there. at n m (eqb n a) refl there;
}
  where
    at : (n m : ℕ) (t : Bool) → eqb n a ≡ t → slice_get (set above a b) n ≡ Some m → IsAbove supplies n m
    at n m true e there =
        let same : n ≡ a = eqb-true n a e in
        let F : ℕ → Type 0 = λ k. slice_get (set above a b) k ≡ Some m in
        let here : slice_get (set above a b) a ≡ Some m = subst F same there in
        let within : a < length above = let k = slice_get_within (set above a b) a m here in let c = length-set above a b in omega arith in
        let written : slice_get (set above a b) a ≡ Some b = slice_get-set_same above a b within in
        let one : b ≡ m = cc in
        let L : ℕ → Type 0 = λ k. FeedersLead supplies a k in
        let M : ℕ → Type 0 = λ k. FeedersLead supplies k m in
        inr (subst M (sym same) (subst L one lead))
    at n m false e there = h.each n m (sym (slice_get-set_other above a n b (eqb-false n a e)) ∙ there)
