-- A walk up the feeders ends after no more steps than there are supplies.
use Rattle.std.proofs.Common.{◌≡◌, ℕ, ◌+◌, ◌<◌, ◌≤◌, Bool, true, false, ◌||◌, eqb, nat_eq, List, [], ◌∷◌, length, get_or, Option, Some, option_map, ◌⊎◌, inl, inr, refl, sym, ap, ◌∙◌, subst, arith}
use Rattle.std.specs.List.{AllByRecursion, IsDistinct, list_any}
use Rattle.std.proofs.lemmas.Bool.{eqb-true, eqb-false, or_cases}
use Rattle.std.proofs.lemmas.Map.Steps.{length-le_from_distinct_below}
use Rattle.std.proofs.lemmas.Option.{slice_get-get_or}
use Rattle.pw_defs.specs.declared.supplies.Supply.{Supply}
use Rattle.list_defs.specs.Members.{IsIn}
use Rattle.list_defs.specs.Rings.{IsReached}
use Rattle.supply_defs.specs.Network.{feeder_at, IsFedBy, FeedersLead, HasNoFeederRing}
use Rattle.supply_net.proofs.FeederLemmas.{lead_on}

-- supplies that have been passed on the way to a, no two the same
pub record Passed (supplies : List Supply) (a steps : ℕ) : Type 0 where
  pub row : List ℕ
  pub count : length row ≡ steps
  pub distinct : IsDistinct eqb row
  pub there : (q : ℕ) → list_any (eqb q) row ≡ true → q < length supplies
  pub leads : (q : ℕ) → list_any (eqb q) row ≡ true → FeedersLead supplies q a

pub none_passed : (supplies : List Supply) (a : ℕ) → Passed supplies a 0
unfolding IsDistinct
none_passed supplies a = record { row = []; count = refl; distinct = tt; there = λ q none. cc; leads = λ q none. cc }

-- a number that isn't in a row differs from each of it
off_row : (a : ℕ) (xs : List ℕ) → ¬ (list_any (eqb a) xs ≡ true) → AllByRecursion (λ x. eqb a x ≡ false) xs
off_row a [] off = tt
off_row a (x ∷ xs) off = by (eqb a x) refl off (off_row a xs)
  where
    by : (b : Bool) → eqb a x ≡ b → ¬ ((b || list_any (eqb a) xs) ≡ true) → (¬ (list_any (eqb a) xs ≡ true) → AllByRecursion (λ y. eqb a y ≡ false) xs)
        → (eqb a x ≡ false) × AllByRecursion (λ y. eqb a y ≡ false) xs
    by true e off rest = absurd (off refl)
    by false e off rest = (e, rest off)

with_last : (supplies : List Supply) → HasNoFeederRing supplies → (a steps : ℕ) (p : Passed supplies a steps) → IsDistinct eqb (a ∷ p.row)
unfolding IsDistinct
with_last supplies ringless a steps p = (off_row a p.row (λ there. ringless a (p.leads a there)), p.distinct)

-- one step more
pub passed_on : (supplies : List Supply) → HasNoFeederRing supplies → (a b steps : ℕ) → a < length supplies → IsFedBy supplies a b → Passed supplies a steps
    → Passed supplies b (steps + 1)
passed_on supplies ringless a b steps within step p = record {
  row = a ∷ p.row;
  count = let k = p.count in omega arith;
  distinct = with_last supplies ringless a steps p;
  there = λ q there. elim (or_cases (eqb q a) (list_any (eqb q) p.row) there) [
    | inl here ↦ (let B : ℕ → Type 0 = λ n. n < length supplies in subst B (sym (eqb-true q a here)) within)
    | inr later ↦ p.there q later
  ];
  leads = λ q there. elim (or_cases (eqb q a) (list_any (eqb q) p.row) there) [
    | inl here ↦ (let F : ℕ → Type 0 = λ n. FeedersLead supplies n b in subst F (sym (eqb-true q a here)) (IsReached.one a b step))
    | inr later ↦ lead_on supplies q a b (p.leads q later) (IsReached.one a b step)
  ];
}

-- not as many steps as there are supplies
pub few_steps : (supplies : List Supply) → HasNoFeederRing supplies → (a steps : ℕ) → a < length supplies → Passed supplies a steps → steps < length supplies
few_steps supplies ringless a steps within p =
    let few : length (a ∷ p.row) ≤ length supplies = length-le_from_distinct_below (a ∷ p.row) (length supplies) (with_last supplies ringless a steps p)
    (λ q there. elim (or_cases (eqb q a) (list_any (eqb q) p.row) there) [
      | inl here ↦ (let B : ℕ → Type 0 = λ n. n < length supplies in subst B (sym (eqb-true q a here)) within)
      | inr later ↦ p.there q later
    ]) in
    let k = p.count in
    omega arith

first_in : (a x : ℕ) (xs : List ℕ) (b : Bool) → nat_eq x a ≡ b → (list_any (λ y. nat_eq y a) xs ≡ true → IsIn a xs)
    → (b || list_any (λ y. nat_eq y a) xs) ≡ true → IsIn a (x ∷ xs)
first_in a x xs true same later h = inl (sym (eqb-true x a same))
first_in a x xs false other later h = inr (later h)

first_off : (a x : ℕ) (xs : List ℕ) (b : Bool) → nat_eq x a ≡ b → (list_any (λ y. nat_eq y a) xs ≡ false → ¬ IsIn a xs)
    → (b || list_any (λ y. nat_eq y a) xs) ≡ false → (a ≡ x) ⊎ IsIn a xs → ⊥
first_off a x xs true same later h there = cc
first_off a x xs false other later h (inl here) = eqb-false x a other (sym here)
first_off a x xs false other later h (inr there) = later h there

-- a number is in a list exactly where a look through the list finds it
pub in_stop : (a : ℕ) (stop : List ℕ) → list_any (λ y. nat_eq y a) stop ≡ true → IsIn a stop
in_stop a [] e = cc
in_stop a (x ∷ xs) e = first_in a x xs (nat_eq x a) refl (in_stop a xs) e

pub off_stop : (a : ℕ) (stop : List ℕ) → list_any (λ y. nat_eq y a) stop ≡ false → ¬ IsIn a stop
off_stop a [] e = λ there. there
off_stop a (x ∷ xs) e = first_off a x xs (nat_eq x a) refl (off_stop a xs) e

-- what feeds a supply of the list
pub feeder_there : (supplies items : List Supply) (a : ℕ) (d : Supply) (f : Option ℕ) → items ≡ supplies → a < length supplies
    → (get_or items a d).feeder ≡ f → feeder_at supplies a ≡ Some f
feeder_there supplies items a d f same within feeds =
    ap (λ (o : Option Supply). option_map (λ (t : Supply). t.feeder) o) (slice_get-get_or supplies a d within)
    ∙ ap (λ (xs : List Supply). Some (get_or xs a d).feeder) (sym same) ∙ ap Some feeds
