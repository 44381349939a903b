-- Networks of the same parts, a network of nothing, and a list whose last item is taken back.
use Rattle.std.proofs.Common.{◌≡◌, ℕ, List, [], ◌∷◌, ◌++◌, length, Option, Some, None, MatchOption, Err, refl, sym, ap, ◌∙◌, subst, arith}
use Rattle.std.proofs.lemmas.List.{length-append}
use Rattle.pw_defs.specs.declared.supplies.Supply.{Supply}
use Rattle.list_defs.specs.Rings.{IsReached}
use Rattle.supply_defs.specs.Network.{FeedersLead}
use Rattle.supply_net.specs.Networks.{Network, Makes, Joins, IsTaken, IsRefusalOf, IsRefused}
use Rattle.pw_defs.specs.declared.faults.SupplyFault.{SupplyFault}
use Rattle.pw_defs.specs.declared.faults.SupplyFault.TheVariants.{U5, U6, U7, Memory}
use Rattle.supply_net.specs.Parts.{IsHeld}

-- networks of the same parts are one
pub same_network : (a b : Network) → a.supplies ≡ b.supplies → a.sets ≡ b.sets → a.objects ≡ b.objects → a ≡ b
same_network a b supplies sets objects = λ i. record { supplies = supplies i; sets = sets i; objects = objects i }

-- what stands before the last items
pub same_front : {X : Type 0} (xs ys : List X) (x y : X) → xs ++ x ∷ [] ≡ ys ++ y ∷ [] → xs ≡ ys
same_front [] [] x y e = refl
same_front [] (z ∷ zs) x y e =
    let n = ap (λ l. length l) e in
    let k = length-append zs (y ∷ []) in
    absurd (omega arith)
same_front (z ∷ zs) [] x y e =
    let n = ap (λ l. length l) e in
    let k = length-append zs (x ∷ []) in
    absurd (omega arith)
same_front (z ∷ zs) (w ∷ ws) x y e =
    let behind : zs ++ x ∷ [] ≡ ws ++ y ∷ [] = cc in
    let front : zs ≡ ws = same_front zs ws x y behind in
    let first : z ≡ w = cc in
    cc

pub never_empty : {X : Type 0} (xs : List X) (x : X) → xs ++ x ∷ [] ≡ [] → ⊥
never_empty xs x e =
    let n = ap (λ l. length l) e in
    let k = length-append xs (x ∷ []) in
    omega arith

-- what is left of a list once its last item is taken back
pub popped : (xs pushed left : List Supply) (s : Supply) (last : Option Supply) → pushed ≡ xs ++ s ∷ []
    → MatchOption last ((pushed ≡ []) × (left ≡ [])) (λ y. pushed ≡ left ++ y ∷ []) → left ≡ xs
popped xs pushed left s None e h = absurd (never_empty xs s (sym e ∙ h.0))
popped xs pushed left s (Some last) e h = same_front left xs last s (sym h ∙ e)

none_lead : (a b : ℕ) → ¬ FeedersLead [] a b
none_lead _ _ (IsReached.one a b step) = cc
none_lead _ _ (IsReached.more a b c step rest) = cc

-- no supplies
pub none_held : (supplies : List Supply) (above : List ℕ) → supplies ≡ [] → above ≡ [] → IsHeld supplies above
none_held supplies above s a = subst (λ (xs : List Supply). IsHeld xs above) (sym s) (subst (λ (ys : List ℕ). IsHeld [] ys) (sym a) nothing)
  where
    nothing : IsHeld [] []
    nothing = record {
      feeders = record { in_range = λ n b step. cc; ringless = λ x ring. none_lead x x ring };
      up = record { count = refl; each = λ n b there. cc };
    }

-- the refusal of a name where nothing is made
pub refused : (made : Option (ℕ × Network)) (name : List ℕ) (net : Network) (e : SupplyFault) → made ≡ None → IsTaken name e → Makes made name net net (Err e)
refused made name net (U5 shown) none taken = (none, taken, refl)
refused made name net (U6 shown) none taken = absurd taken
refused made name net (U7 shown) none taken = absurd taken
refused made name net Memory none taken = refl

-- want of memory
pub starved : (made : Option (ℕ × Network)) (name : List ℕ) (old new : Network) (e : SupplyFault) → e ≡ Memory → new ≡ old → Makes made name old new (Err e)
starved made name old new (U5 shown) is same = absurd (cc)
starved made name old new (U6 shown) is same = absurd (cc)
starved made name old new (U7 shown) is same = absurd (cc)
starved made name old new Memory is same = same

-- the refusal of a joining
pub unjoined : (fed by : ℕ) (net : Network) (e : SupplyFault) → IsRefused net.supplies fed by → IsRefusalOf net.supplies fed e → Joins fed by net net (Err e)
unjoined fed by net (U5 shown) why is = absurd is
unjoined fed by net (U6 shown) why is = (why, is, refl)
unjoined fed by net (U7 shown) why is = absurd is
unjoined fed by net Memory why is = refl

-- want of memory at a joining
pub starved_joining : (fed by : ℕ) (old new : Network) (e : SupplyFault) → e ≡ Memory → new ≡ old → Joins fed by old new (Err e)
starved_joining fed by old new (U5 shown) is same = absurd (cc)
starved_joining fed by old new (U6 shown) is same = absurd (cc)
starved_joining fed by old new (U7 shown) is same = absurd (cc)
starved_joining fed by old new Memory is same = same
