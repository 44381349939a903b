-- A supply has one root, and where feeders make no ring it has a root.
use Rattle.std.proofs.Common.{◌≡◌, ℕ, zero, suc, ◌+◌, ◌<◌, ◌≤◌, Bool, true, false, ◌||◌, eqb, List, [], ◌∷◌, length, Option, Some, None, option_map, ◌⊎◌, inl, inr, refl, sym, subst, arith}
use Rattle.std.specs.List.{AllByRecursion, IsDistinct, list_any, slice_get}
use Rattle.std.proofs.lemmas.Bool.{eqb-true, eqb-false, or_cases}
use Rattle.std.proofs.lemmas.Map.Steps.{length-le_from_distinct_below}
use Rattle.std.proofs.lemmas.Option.{slice_get_within, slice_get_cases}
use Rattle.pw_defs.specs.declared.supplies.Supply.{Supply}
use Rattle.list_defs.specs.Members.{IsIn}
use Rattle.list_defs.specs.Rings.{IsReached}
use Rattle.supply_defs.specs.Network.{feeder_at, IsFedBy, IsUnfed, FeedersLead, HasNoFeederRing, HasFeedersInRange, IsRoot}

same_supply_root : (supplies : List Supply) (stop : List ℕ) (a b r s : ℕ) → a ≡ b → IsRoot supplies stop a r → IsRoot supplies stop b s → r ≡ s
same_supply_root supplies stop _ _ _ _ same (IsRoot.stopped a here) (IsRoot.stopped b there) = same
same_supply_root supplies stop _ _ _ _ same (IsRoot.stopped a here) (IsRoot.unfed b none) = same
same_supply_root supplies stop _ _ _ _ same (IsRoot.stopped a here) (IsRoot.fed b c s off step rest) =
    absurd (off (let P : ℕ → Type 0 = λ n. IsIn n stop in subst P same here))
same_supply_root supplies stop _ _ _ _ same (IsRoot.unfed a none) (IsRoot.stopped b there) = same
same_supply_root supplies stop _ _ _ _ same (IsRoot.unfed a none) (IsRoot.unfed b none') = same
same_supply_root supplies stop _ _ _ _ same (IsRoot.unfed a none) (IsRoot.fed b c s off step rest) = cc
same_supply_root supplies stop _ _ _ _ same (IsRoot.fed a c r off step rest) (IsRoot.stopped b there) =
    absurd (off (let P : ℕ → Type 0 = λ n. IsIn n stop in subst P (sym same) there))
same_supply_root supplies stop _ _ _ _ same (IsRoot.fed a c r off step rest) (IsRoot.unfed b none) = cc
same_supply_root supplies stop _ _ _ _ same (IsRoot.fed a c r off step rest) (IsRoot.fed b d s off' step' rest') =
    same_supply_root supplies stop c d r s (cc) rest rest'

-- a supply has at most one root
pub one_root : (supplies : List Supply) (stop : List ℕ) (a r s : ℕ) → IsRoot supplies stop a r → IsRoot supplies stop a s → r ≡ s
one_root supplies stop a r s h k = same_supply_root supplies stop a a r s refl h k

-- a supply with a feeder, or known to have none, is there
fed_there : (supplies : List Supply) (a : ℕ) (feeder : Option ℕ) → feeder_at supplies a ≡ Some feeder → a < length supplies
fed_there supplies a feeder e = found (slice_get supplies a) refl e
  where
    found : (o : Option Supply) → slice_get supplies a ≡ o → option_map (λ (s : Supply). s.feeder) o ≡ Some feeder → a < length supplies
    found None e h = cc
    found (Some s) e h = slice_get_within supplies a s e

-- a supply that is there either has a feeder or has none
fed_or_unfed : (supplies : List Supply) (a : ℕ) → a < length supplies → ((b : ℕ) × IsFedBy supplies a b) ⊎ IsUnfed supplies a
fed_or_unfed supplies a within =
    elim (slice_get_cases supplies a).1 [ inl found ↦ by found.0 found.0.feeder refl found.2 | inr past ↦ absurd (omega (arith, past.0)) ]
  where
    by : (s : Supply) (f : Option ℕ) → s.feeder ≡ f → slice_get supplies a ≡ Some s → ((b : ℕ) × IsFedBy supplies a b) ⊎ IsUnfed supplies a
    by s None e there = inr (cc)
    by s (Some b) e there = inl (b, cc)

in_or_out : (n : ℕ) (xs : List ℕ) → IsIn n xs ⊎ ¬ IsIn n xs
in_or_out n [] = inr (λ h. h)
in_or_out n (x ∷ xs) = by (eqb n x) refl (in_or_out n xs)
  where
    by : (b : Bool) → eqb n x ≡ b → IsIn n xs ⊎ ¬ IsIn n xs → IsIn n (x ∷ xs) ⊎ ¬ IsIn n (x ∷ xs)
    by true e rest = inl (inl (eqb-true n x e))
    by false e (inl later) = inl (inr later)
    by false e (inr none) = inr (λ h. elim h [ inl same ↦ absurd (eqb-false n x e same) | inr later ↦ none later ])

-- feeders that lead to a supply lead on to its feeder
lead_on : (supplies : List Supply) (a b c : ℕ) → FeedersLead supplies a b → IsFedBy supplies b c → FeedersLead supplies a c
lead_on supplies _ _ c (IsReached.one a b step) next = IsReached.more a b c step (IsReached.one b c next)
lead_on supplies _ _ c (IsReached.more a b d step rest) next = IsReached.more a b c step (lead_on supplies b d c rest next)

-- a supply from which feeders lead is there
leads_there : (supplies : List Supply) (a b : ℕ) → FeedersLead supplies a b → a < length supplies
leads_there supplies _ _ (IsReached.one a b step) = fed_there supplies a (Some b) step
leads_there supplies _ _ (IsReached.more a b c step rest) = fed_there supplies a (Some b) step

-- a number that isn't in a list differs from each of it
off_list : (a : ℕ) (xs : List ℕ) → ¬ (list_any (eqb a) xs ≡ true) → AllByRecursion (λ x. eqb a x ≡ false) xs
off_list a [] off = tt
off_list a (x ∷ xs) off = by (eqb a x) refl off (off_list a xs)
  where
    by : (b : Bool) → eqb a x ≡ b → ¬ ((b || list_any (eqb a) xs) ≡ true) → (¬ (list_any (eqb a) xs ≡ true) → AllByRecursion (λ y. eqb a y ≡ false) xs)
        → (eqb a x ≡ false) × AllByRecursion (λ y. eqb a y ≡ false) xs
    by true e off rest = absurd (off refl)
    by false e off rest = (e, rest off)

-- supplies that have been passed on the way to a, no two the same
record Passed (supplies : List Supply) (a : ℕ) (passed : List ℕ) : Type 0 where
  distinct : IsDistinct eqb passed
  leads : (q : ℕ) → list_any (eqb q) passed ≡ true → FeedersLead supplies q a

passed_on : (supplies : List Supply) → HasNoFeederRing supplies → (a b : ℕ) (passed : List ℕ) → IsFedBy supplies a b → Passed supplies a passed
    → Passed supplies b (a ∷ passed)
unfolding IsDistinct
passed_on supplies ringless a b passed step p = record {
  distinct = (off_list a passed (λ there. ringless a (p.leads a there)), p.distinct);
  leads = λ q there. elim (or_cases (eqb q a) (list_any (eqb q) passed) there) [
    | inl here ↦ (let F : ℕ → Type 0 = λ n. FeedersLead supplies n b in subst F (sym (eqb-true q a here)) (IsReached.one a b step))
    | inr later ↦ lead_on supplies q a b (p.leads q later) step
  ];
}

root_behind : (supplies : List Supply) → HasNoFeederRing supplies → HasFeedersInRange supplies → (stop : List ℕ) (left a : ℕ) (passed : List ℕ)
    → length passed + left ≡ length supplies → a < length supplies → Passed supplies a passed → (r : ℕ) × IsRoot supplies stop a r
root_behind supplies ringless within stop zero a passed count there p =
    elim (fed_or_unfed supplies a there) [
      | inl step ↦ (let q : Passed supplies step.0 (a ∷ passed) = passed_on supplies ringless a step.0 passed step.1 p in
          let few : length (a ∷ passed) ≤ length supplies =
          length-le_from_distinct_below (a ∷ passed) (length supplies) q.distinct (λ n i. leads_there supplies n step.0 (q.leads n i)) in
          absurd (omega arith))
      | inr none ↦ (a, IsRoot.unfed a none)
    ]
root_behind supplies ringless within stop (suc left) a passed count there p =
    elim (in_or_out a stop) [
      | inl here ↦ (a, IsRoot.stopped a here)
      | inr off ↦ elim (fed_or_unfed supplies a there) [
        | inl step ↦ (let q : Passed supplies step.0 (a ∷ passed) = passed_on supplies ringless a step.0 passed step.1 p in
            let more : length (a ∷ passed) + left ≡ length supplies = omega arith in
            let rest : (r : ℕ) × IsRoot supplies stop step.0 r =
            root_behind supplies ringless within stop left step.0 (a ∷ passed) more (within a step.0 step.1) q in
            (rest.0, IsRoot.fed a step.0 rest.0 off step.1 rest.1))
        | inr none ↦ (a, IsRoot.unfed a none)
      ]
    ]

-- where feeders are supplies and make no ring, each supply has a root
pub some_root : (supplies : List Supply) → HasNoFeederRing supplies → HasFeedersInRange supplies → (stop : List ℕ) (a : ℕ) → a < length supplies
    → (r : ℕ) × IsRoot supplies stop a r
unfolding IsDistinct
some_root supplies ringless within stop a there =
    root_behind supplies ringless within stop (length supplies) a [] (omega arith) there (record { distinct = tt; leads = λ q none. cc })

-- a root is its own root
pub root_of_root : (supplies : List Supply) (stop : List ℕ) (a r : ℕ) → IsRoot supplies stop a r → IsRoot supplies stop r r
root_of_root supplies stop _ _ (IsRoot.stopped a here) = IsRoot.stopped a here
root_of_root supplies stop _ _ (IsRoot.unfed a none) = IsRoot.unfed a none
root_of_root supplies stop _ _ (IsRoot.fed a b r off step rest) = root_of_root supplies stop b r rest

-- a supply and its feeder have one root, unless the list of feeders ends there
pub root_of_feeder : (supplies : List Supply) (stop : List ℕ) (a b r : ℕ) → ¬ IsIn a stop → IsFedBy supplies a b → IsRoot supplies stop a r
    → IsRoot supplies stop b r
root_of_feeder supplies stop _ b _ off step (IsRoot.stopped a here) = absurd (off here)
root_of_feeder supplies stop _ b _ off step (IsRoot.unfed a none) = cc
root_of_feeder supplies stop _ b _ off step (IsRoot.fed a c r off' step' rest) =
    let same : c ≡ b = cc in
    let R : ℕ → Type 0 = λ n. IsRoot supplies stop n r in
    subst R same rest
