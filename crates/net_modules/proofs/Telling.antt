-- Tests that tell whether something holds.
use Rattle.std.proofs.Common.{◌≡◌, ℕ, Bool, true, false, not, ◌||◌, ◌&&◌, ◌==◌, List, [], ◌∷◌, Option, None, Some, ◌⊎◌, inl, inr, refl, sym, ap, ◌∙◌, subst, arith}
use Rattle.std.specs.List.{list_any}
use Rattle.std.proofs.lemmas.Bool.{false≢true}
use Rattle.list_defs.specs.Members.{IsIn, same_name}
use Rattle.list_defs.proofs.NameLemmas.{same_name-equal, same_name-itself}
use Rattle.net_text.specs.NetlistGrammar.{Range}
use Rattle.net_modules.specs.Sayings.{same_range}

-- P holds where the test passes, and else it doesn't
abbrev pub Tells : Bool → Type 0 → Type 0
Tells true P = P
Tells false P = ¬ P

pub tells_as : {P Q : Type 0} (b : Bool) → (P → Q) → (Q → P) → Tells b P → Tells b Q
tells_as true to from p = to p
tells_as false to from n = λ q. n (from q)

pub tells_not : (P : Type 0) (b : Bool) → Tells b P → Tells (not b) (¬ P)
tells_not P true p = λ n. n p
tells_not P false n = n

pub tells_or : (P Q : Type 0) (a b : Bool) → Tells a P → Tells b Q → Tells (a || b) (P ⊎ Q)
tells_or P Q true b p q = inl p
tells_or P Q false true n q = inr q
tells_or P Q false false n m = λ h. elim h [ inl p ↦ n p | inr q ↦ m q ]

pub tells_name : (a b : List ℕ) → Tells (same_name a b) (a ≡ b)
tells_name a b = by (same_name a b) refl
  where
    by : (t : Bool) → same_name a b ≡ t → Tells t (a ≡ b)
    by true e = same_name-equal a b e
    by false e = λ same. false≢true (sym e ∙ subst (λ c. same_name a c ≡ true) same (same_name-itself a))

pub tells_any : {X : Type 0} (test : X → Bool) (P : X → Type 0) → ((x : X) → Tells (test x) (P x)) → (xs : List X) → Tells (list_any test xs) ((x : X) × IsIn x xs × P x)
tells_any test P each [] = λ h. h.1
tells_any {X} test P each (x ∷ xs) =
    tells_as (test x || list_any test xs) to from (tells_or _ _ (test x) (list_any test xs) (each x) (tells_any test P each xs))
  where
    to : P x ⊎ ((y : X) × IsIn y xs × P y) → (y : X) × IsIn y (x ∷ xs) × P y
    to (inl p) = (x, inl refl, p)
    to (inr h) = (h.0, inr h.1, h.2)

    from : ((y : X) × IsIn y (x ∷ xs) × P y) → P x ⊎ ((y : X) × IsIn y xs × P y)
    from h = elim h.1 [ inl e ↦ inl (subst P e h.2) | inr i ↦ inr (h.0, i, h.2) ]

equal : (a b : ℕ) → (a == b) ≡ true → a ≡ b
equal a b e = grind arith

itself : (a : ℕ) → (a == a) ≡ true
itself a = grind arith

and_both : (a b : Bool) → (a && b) ≡ true → (a ≡ true) × (b ≡ true)
and_both true b e = (refl, e)
and_both false b e = absurd (false≢true e)

pub range-equal : (a b : Option Range) → same_range a b ≡ true → a ≡ b
range-equal None None e = refl
range-equal None (Some b) e = absurd (false≢true e)
range-equal (Some a) None e = absurd (false≢true e)
range-equal (Some a) (Some b) e =
    let both = and_both (a.0 == b.0) (a.1 == b.1) e in
    let left : a.0 ≡ b.0 = equal a.0 b.0 both.0 in
    let right : a.1 ≡ b.1 = equal a.1 b.1 both.1 in
    λ i. Some (left i, right i)

pub range-itself : (a : Option Range) → same_range a a ≡ true
range-itself None = refl
range-itself (Some a) = ap (λ b. b && (a.1 == a.1)) (itself a.0) ∙ itself a.1

pub tells_range : (a b : Option Range) → Tells (same_range a b) (a ≡ b)
tells_range a b = by (same_range a b) refl
  where
    by : (t : Bool) → same_range a b ≡ t → Tells t (a ≡ b)
    by true e = range-equal a b e
    by false e = λ same. false≢true (sym e ∙ subst (λ c. same_range a c ≡ true) same (range-itself a))
