-- What `holds` and `speaks_below` are at each form of a condition.
use Rattle.std.proofs.Common.{◌≡◌, ℕ, Bool, true, List, [], ◌∷◌, not, ◌&&◌, ◌||◌, map, nat_lt, sym, ap, ◌∙◌, refl}
use Rattle.std.specs.List.{list_all, list_any}
use Rattle.std.proofs.lemmas.List.Folds.{list_all-map}
use Rattle.pw_defs.specs.declared.values.Value.{Value}
use Rattle.pw_defs.specs.declared.conditions.Cond.{Cond}
use Rattle.pw_defs.specs.declared.conditions.Cond.TheOpen.{Cond-F}
use Rattle.pw_defs.specs.declared.conditions.Cond.TheFolds.{fold-roll-Cond}
use Rattle.pw_defs.specs.declared.conditions.Cond.TheVariants.{True, Is, On, Apart, Not, All, Any, rolls-True, rolls-Is, rolls-On, rolls-Apart, rolls-Not, rolls-All, rolls-Any}
use Rattle.supply_defs.specs.Conditions.{holds, holds_at, speaks_below, speaks_at}
use Rattle.pw_defs.specs.Values.{exceeds, is_on, same_value}

list_any-map : {X Y : Type 0} (p : X → Bool) (h : Y → X) (ys : List Y) → list_any p (map h ys) ≡ list_any (λ y. p (h y)) ys
list_any-map p h [] = refl
list_any-map p h (y ∷ ys) = ap (λ b. p (h y) || b) (list_any-map p h ys)

pub holds_true : (value : ℕ → Value) → holds value True ≡ true
unfolding holds
holds_true value = ap (holds value) (sym rolls-True) ∙ fold-roll-Cond Bool (holds_at value) Cond-F.True

pub holds_is : (value : ℕ → Value) (supply : ℕ) (v : Value) → holds value (Is supply v) ≡ same_value (value supply) v
unfolding holds
holds_is value supply v = ap (holds value) (sym (rolls-Is supply v)) ∙ fold-roll-Cond Bool (holds_at value) (Cond-F.Is supply v)

pub holds_on : (value : ℕ → Value) (supply : ℕ) → holds value (On supply) ≡ is_on (value supply)
unfolding holds
holds_on value supply = ap (holds value) (sym (rolls-On supply)) ∙ fold-roll-Cond Bool (holds_at value) (Cond-F.On supply)

pub holds_apart : (value : ℕ → Value) (low high above : ℕ) → holds value (Apart low high above) ≡ exceeds (value low) (value high) above
unfolding holds
holds_apart value low high above =
    ap (holds value) (sym (rolls-Apart low high above)) ∙ fold-roll-Cond Bool (holds_at value) (Cond-F.Apart low high above)

pub holds_not : (value : ℕ → Value) (part : Cond) → holds value (Not part) ≡ not (holds value part)
unfolding holds
holds_not value part = ap (holds value) (sym (rolls-Not part)) ∙ fold-roll-Cond Bool (holds_at value) (Cond-F.Not part)

pub holds_all : (value : ℕ → Value) (parts : List Cond) → holds value (All parts) ≡ list_all (holds value) parts
unfolding holds
holds_all value parts =
    ap (holds value) (sym (rolls-All parts)) ∙ fold-roll-Cond Bool (holds_at value) (Cond-F.All parts) ∙ list_all-map (λ b. b) (holds value) parts

pub holds_any : (value : ℕ → Value) (parts : List Cond) → holds value (Any parts) ≡ list_any (holds value) parts
unfolding holds
holds_any value parts =
    ap (holds value) (sym (rolls-Any parts)) ∙ fold-roll-Cond Bool (holds_at value) (Cond-F.Any parts) ∙ list_any-map (λ b. b) (holds value) parts

pub speaks_true : (n : ℕ) → speaks_below n True ≡ true
unfolding speaks_below
speaks_true n = ap (speaks_below n) (sym rolls-True) ∙ fold-roll-Cond Bool (speaks_at n) Cond-F.True

pub speaks_is : (n supply : ℕ) (v : Value) → speaks_below n (Is supply v) ≡ nat_lt supply n
unfolding speaks_below
speaks_is n supply v = ap (speaks_below n) (sym (rolls-Is supply v)) ∙ fold-roll-Cond Bool (speaks_at n) (Cond-F.Is supply v)

pub speaks_on : (n supply : ℕ) → speaks_below n (On supply) ≡ nat_lt supply n
unfolding speaks_below
speaks_on n supply = ap (speaks_below n) (sym (rolls-On supply)) ∙ fold-roll-Cond Bool (speaks_at n) (Cond-F.On supply)

pub speaks_apart : (n low high above : ℕ) → speaks_below n (Apart low high above) ≡ (nat_lt low n && nat_lt high n)
unfolding speaks_below
speaks_apart n low high above =
    ap (speaks_below n) (sym (rolls-Apart low high above)) ∙ fold-roll-Cond Bool (speaks_at n) (Cond-F.Apart low high above)

pub speaks_not : (n : ℕ) (part : Cond) → speaks_below n (Not part) ≡ speaks_below n part
unfolding speaks_below
speaks_not n part = ap (speaks_below n) (sym (rolls-Not part)) ∙ fold-roll-Cond Bool (speaks_at n) (Cond-F.Not part)

pub speaks_all : (n : ℕ) (parts : List Cond) → speaks_below n (All parts) ≡ list_all (speaks_below n) parts
unfolding speaks_below
speaks_all n parts =
    ap (speaks_below n) (sym (rolls-All parts)) ∙ fold-roll-Cond Bool (speaks_at n) (Cond-F.All parts) ∙ list_all-map (λ b. b) (speaks_below n) parts

pub speaks_any : (n : ℕ) (parts : List Cond) → speaks_below n (Any parts) ≡ list_all (speaks_below n) parts
unfolding speaks_below
speaks_any n parts =
    ap (speaks_below n) (sym (rolls-Any parts)) ∙ fold-roll-Cond Bool (speaks_at n) (Cond-F.Any parts) ∙ list_all-map (λ b. b) (speaks_below n) parts

-- whether a condition holds, form by form
pub ruleset holding = (holds_true, holds_is, holds_on, holds_apart, holds_not, holds_all, holds_any)

-- which supplies a condition speaks of, form by form
pub ruleset speaking = (speaks_true, speaks_is, speaks_on, speaks_apart, speaks_not, speaks_all, speaks_any)
