-- Where no list of feeders comes back to a bit, each bit has a walk; so it is in a sound design.
use Rattle.std.proofs.Common.{◌≡◌, ℕ, zero, suc, ◌+◌, ◌<◌, ◌≤◌, Bool, true, false, ◌||◌, eqb, List, [], ◌∷◌, length, Option, Some, None, option_map, inl, inr, refl, sym, ap, subst, arith}
use Rattle.std.specs.List.{AllByRecursion, IsDistinct, list_any, slice_get}
use Rattle.std.proofs.lemmas.Bool.{eqb-true, or_cases}
use Rattle.std.proofs.lemmas.Map.Steps.{length-le_from_distinct_below}
use Rattle.pw_defs.specs.declared.design.Bit.{Bit}
use Rattle.pw_defs.specs.declared.design.Design.{Design}
use Rattle.pw_defs.specs.declared.design.Feeder.{Feeder}
use Rattle.pw_defs.specs.declared.design.Feeder.TheVariants.{Bit as BitFeeder, Through, Driver, Constant, Nothing}
use Rattle.list_defs.specs.Rings.{HasNoRing, IsReached}
use Rattle.design_defs.specs.Sound.{IsBitIn, IsFedBy, IsFeederIn, IsSoundDesign}
use Rattle.design_defs.specs.Walks.{IsWalk, WalksEnd, feeder_at, next_of}

-- one step more at the end
pub step_on : {X : Type 0} (Step : X → X → Type 0) (x y z : X) → IsReached Step x y → Step y z → IsReached Step x z
step_on Step _ _ z (IsReached.one x y s) last = IsReached.more x y z s (IsReached.one y z last)
step_on Step _ _ z (IsReached.more x y w s rest) last = IsReached.more x y z s (step_on Step y w z rest last)

none_of : (n : ℕ) (ys : List ℕ) → list_any (eqb n) ys ≡ false → AllByRecursion (λ y. eqb n y ≡ false) ys
none_of n [] e = tt
none_of n (y ∷ ys) e = each (eqb n y) refl e (none_of n ys)
  where
    each : (b : Bool) → eqb n y ≡ b → b || list_any (eqb n) ys ≡ false → (list_any (eqb n) ys ≡ false → AllByRecursion (λ z. eqb n z ≡ false) ys)
        → (eqb n y ≡ false) × AllByRecursion (λ z. eqb n z ≡ false) ys
    each true test e rest = cc
    each false test e rest = (test, rest e)

-- what stands at a place within a list
pub there_within : {X : Type 0} (xs : List X) (n : ℕ) → n < length xs → (x : X) × (slice_get xs n ≡ Some x)
there_within [] n within = absurd (omega arith)
there_within (x ∷ xs) zero within = (x, refl)
there_within (x ∷ xs) (suc n) within = there_within xs n (omega arith)

abbrev HasWalk : List Bit → ℕ → Type 0
HasWalk bits n = (passed : List ℕ) × (end : Feeder) × IsWalk bits n passed end

-- Bits that were passed lead to the next one, so none comes again; and they are no more than there are.
follow : (bits : List Bit) (Step : ℕ → ℕ → Type 0) → HasNoRing Step
    → ((n next : ℕ) (f : Feeder) → feeder_at bits n ≡ Some f → next_of f ≡ Some next → Step n next × (next < length bits))
    → (fuel n : ℕ) (seen : List ℕ) → IsDistinct eqb seen → ((q : ℕ) → list_any (eqb q) seen ≡ true → q < length bits)
    → ((q : ℕ) → list_any (eqb q) seen ≡ true → IsReached Step q n) → length bits ≤ length seen + fuel → n < length bits → HasWalk bits n
unfolding IsDistinct
follow bits Step no_ring leads zero n seen distinct below reach enough within =
    absurd (
    let new : list_any (eqb n) seen ≡ false = fresh (list_any (eqb n) seen) refl in
    let fits = length-le_from_distinct_below (n ∷ seen) (length bits) (none_of n seen new, distinct) below_all in
    omega arith)
  where
    fresh : (b : Bool) → list_any (eqb n) seen ≡ b → b ≡ false
    fresh true there = absurd (no_ring n (reach n there))
    fresh false there = refl

    below_all : (q : ℕ) → list_any (eqb q) (n ∷ seen) ≡ true → q < length bits
    below_all q there =
        elim (or_cases (eqb q n) (list_any (eqb q) seen) there) [
          | inl here ↦
              (let same : q ≡ n = eqb-true q n here in omega arith)
          | inr later ↦ below q later
        ]
follow bits Step no_ring leads (suc fuel) n seen distinct below reach enough within =
    by_next (next_of found.0) refl (λ next leads_on room. follow bits Step no_ring leads fuel next (n ∷ seen)
    (none_of n seen new, distinct) below_all (reach_all next leads_on) (omega arith) room)
  where
    bit : (b : Bit) × (slice_get bits n ≡ Some b)
    bit = there_within bits n within

    found : (f : Feeder) × (feeder_at bits n ≡ Some f)
    found = (bit.0.feeder, ap (option_map (λ (b : Bit). b.feeder)) bit.1)

    fresh : (b : Bool) → list_any (eqb n) seen ≡ b → b ≡ false
    fresh true there = absurd (no_ring n (reach n there))
    fresh false there = refl

    new : list_any (eqb n) seen ≡ false
    new = fresh (list_any (eqb n) seen) refl

    below_all : (q : ℕ) → list_any (eqb q) (n ∷ seen) ≡ true → q < length bits
    below_all q there =
        elim (or_cases (eqb q n) (list_any (eqb q) seen) there) [
          | inl here ↦
              (let same : q ≡ n = eqb-true q n here in omega arith)
          | inr later ↦ below q later
        ]

    reach_all : (next : ℕ) → Step n next → (q : ℕ) → list_any (eqb q) (n ∷ seen) ≡ true → IsReached Step q next
    reach_all next s q there =
        elim (or_cases (eqb q n) (list_any (eqb q) seen) there) [
          | inl here ↦ subst (λ z. IsReached Step z next) (sym (eqb-true q n here)) (IsReached.one n next s)
          | inr later ↦ step_on Step q n next
              (reach q later) s
        ]

    by_next : (o : Option ℕ) → next_of found.0 ≡ o → ((next : ℕ) → Step n next → next < length bits → HasWalk bits next) → HasWalk bits n
    by_next None none rest = (n ∷ [], found.0, IsWalk.ends n found.0 found.1 none)
    by_next (Some next) some rest =
        let step = leads n next found.0 found.1 some in
        let walk = rest next step.0 step.1 in
        (n ∷ walk.0, walk.1, IsWalk.goes n next found.0 walk.1 walk.0 found.1 some walk.2)

-- the feeder of a bit that stands in a list
pub feeder_of_bit : (bits : List Bit) (n : ℕ) (f : Feeder) → feeder_at bits n ≡ Some f → (b : Bit) × (slice_get bits n ≡ Some b) × (b.feeder ≡ f)
feeder_of_bit bits n f e = found (slice_get bits n) refl e
  where
    found : (o : Option Bit) → slice_get bits n ≡ o → option_map (λ (b : Bit). b.feeder) o ≡ Some f → (b : Bit) × (slice_get bits n ≡ Some b) × (b.feeder ≡ f)
    found None at h = cc
    found (Some b) at h = (b, at, cc)

-- a feeder leads to a bit that there is
next_in : (d : Design) (f : Feeder) (next : ℕ) → IsFeederIn d f → next_of f ≡ Some next → next < length d.bits
next_in d (BitFeeder n) next within e = let same : n ≡ next = cc in subst (λ m. m < length d.bits) same within
next_in d (Through inst n) next within e = let same : n ≡ next = cc in subst (λ m. m < length d.bits) same within.1
next_in d (Driver p) next within e = cc
next_in d Constant next within e = cc
next_in d Nothing next within e = cc

-- In a sound design each bit has a walk.
pub walks_end : (d : Design) → IsSoundDesign d → WalksEnd d.bits
unfolding IsDistinct
walks_end d sound n within = follow d.bits (IsFedBy d) sound.no_ring leads (length d.bits) n [] tt (λ q nowhere. cc) (λ q nowhere. cc) (omega arith) within
  where
    leads : (m next : ℕ) (f : Feeder) → feeder_at d.bits m ≡ Some f → next_of f ≡ Some next → IsFedBy d m next × (next < length d.bits)
    leads m next f e more =
        let found = feeder_of_bit d.bits m f e in
        let inside : IsBitIn d found.0 = sound.numbers.each_bit m found.0 found.1 in
        (IsFedBy.feeder f e more, next_in d f next (subst (IsFeederIn d) found.2 inside.feeder_in) more)
