-- Things at their first places by name, as further things come.
use Rattle.std.proofs.Common.{◌≡◌, ◌≢◌, ℕ, Bool, true, false, not, cond, List, [], ◌∷◌, ◌++◌, map, inl, inr, refl, sym, ap, ◌∙◌, subst}
use Rattle.std.specs.List.{filter, list_any}
use Rattle.std.proofs.lemmas.List.{append-nil}
use Rattle.std.proofs.lemmas.List.Elements.{filter-append}
use Rattle.list_defs.specs.Members.{IsIn, same_name}
use Rattle.list_defs.proofs.Members.{IsIn-filter, IsIn-filter_from, IsIn-map, IsIn-map_from}
use Rattle.list_defs.proofs.NameLemmas.{IsIn-list_any, list_any-IsIn, same_name-equal, same_name-itself}
use Rattle.std.proofs.lemmas.Bool.{true≢false}
use Rattle.text_defs.specs.FirstPlace.{firsts}

-- what stands at a first place stands in the list
pub from_firsts : {X : Type 0} (same : X → X → Bool) (xs : List X) (x : X) → IsIn x (firsts same xs) → IsIn x xs
unfolding firsts
from_firsts same [] x i = i
from_firsts same (y ∷ xs) x (inl e) = inl e
from_firsts same (y ∷ xs) x (inr i) = inr (from_firsts same xs x (IsIn-filter_from (λ z. not (same y z)) x (firsts same xs) i).0)

module _ {X : Type 0} (name : X → List ℕ) where
  -- whether two things have one name
  abbrev pub named_alike : X → X → Bool
  named_alike x y = same_name (name x) (name y)

  other_name : (x y : X) → name x ≢ name y → not (named_alike x y) ≡ true
  other_name x y differ = by (named_alike x y) refl
    where
      by : (b : Bool) → named_alike x y ≡ b → not b ≡ true
      by true e = absurd (differ (same_name-equal (name x) (name y) e))
      by false e = refl

  same_again : (x y : X) → name x ≡ name y → not (named_alike x y) ≡ false
  same_again x y same = ap (λ (n : List ℕ). not (same_name (name x) n)) (sym same) ∙ ap not (same_name-itself (name x))

  -- each name stands at a first place
  pub named_firsts : (xs : List X) (n : List ℕ) → IsIn n (map name xs) → IsIn n (map name (firsts named_alike xs))
  unfolding firsts
  named_firsts [] n i = i
  named_firsts (x ∷ xs) n (inl e) = inl e
  named_firsts (x ∷ xs) n (inr i) = by (same_name (name x) n) refl (IsIn-map_from name n (firsts named_alike xs) (named_firsts xs n i))
    where
      by : (b : Bool) → same_name (name x) n ≡ b → (y : X) × IsIn y (firsts named_alike xs) × (n ≡ name y) → IsIn n (map name (firsts named_alike (x ∷ xs)))
      by true e from = inl (sym (same_name-equal (name x) n e))
      by false e from =
          let passes : not (named_alike x from.0) ≡ true = ap (λ (m : List ℕ). not (same_name (name x) m)) (sym from.2) ∙ ap not e in
          inr (subst (λ m. IsIn m (map name (filter (λ y. not (named_alike x y)) (firsts named_alike xs)))) (sym from.2)
          (IsIn-map name from.0 (filter (λ y. not (named_alike x y)) (firsts named_alike xs)) (IsIn-filter (λ y. not (named_alike x y)) from.0 (firsts named_alike xs) from.1 passes)))

  -- a thing of a new name stands at the end
  pub firsts_new : (xs : List X) (x : X) → ¬ IsIn (name x) (map name xs) → firsts named_alike (xs ++ x ∷ []) ≡ firsts named_alike xs ++ x ∷ []
  unfolding firsts
  firsts_new [] x none = refl
  firsts_new (y ∷ xs) x none =
      let p : X → Bool = λ z. not (named_alike y z) in
      ap (λ (l : List X). y ∷ filter p l) (firsts_new xs x (λ i. none (inr i)))
      ∙ ap (λ (l : List X). y ∷ l) (filter-append p (firsts named_alike xs) (x ∷ []))
      ∙ ap (λ (b : Bool). y ∷ (filter p (firsts named_alike xs) ++ cond b (x ∷ []) [])) (other_name y x (λ e. none (inl (sym e))))

  -- a thing of a name that is there changes nothing
  pub firsts_old : (xs : List X) (x : X) → IsIn (name x) (map name xs) → firsts named_alike (xs ++ x ∷ []) ≡ firsts named_alike xs
  unfolding firsts
  firsts_old [] x i = absurd i
  firsts_old (y ∷ xs) x i = by (λ there. firsts_old xs x there) (list_any (same_name (name x)) (map name xs)) refl
    where
      p : X → Bool
      p z = not (named_alike y z)

      by : (IsIn (name x) (map name xs) → firsts named_alike (xs ++ x ∷ []) ≡ firsts named_alike xs) → (b : Bool) → list_any (same_name (name x)) (map name xs) ≡ b → firsts named_alike (y ∷ (xs ++ x ∷ [])) ≡ firsts named_alike (y ∷ xs)
      by again true e = ap (λ (l : List X). y ∷ filter p l) (again (IsIn-list_any (name x) (map name xs) e))
      by again false e =
          let none : ¬ IsIn (name x) (map name xs) = (λ there. true≢false (sym (list_any-IsIn (name x) (map name xs) there) ∙ e)) in
          let same : name y ≡ name x = elim i [ inl h ↦ sym h | inr there ↦ absurd (none there) ] in
          ap (λ (l : List X). y ∷ filter p l) (firsts_new xs x none)
          ∙ ap (λ (l : List X). y ∷ l) (filter-append p (firsts named_alike xs) (x ∷ []))
          ∙ ap (λ (b : Bool). y ∷ (filter p (firsts named_alike xs) ++ cond b (x ∷ []) [])) (same_again y x same)
          ∙ ap (λ (l : List X). y ∷ l) (append-nil (filter p (firsts named_alike xs)))

-- the same of names alone
pub names_new : (names : List (List ℕ)) (name : List ℕ) → ¬ IsIn name names → firsts same_name (names ++ name ∷ []) ≡ firsts same_name names ++ name ∷ []
names_new names name none = firsts_new (λ n. n) names name (λ i. none (let from = IsIn-map_from (λ n. n) name names i in subst (λ n. IsIn n names) (sym from.2) from.1))

pub names_old : (names : List (List ℕ)) (name : List ℕ) → IsIn name names → firsts same_name (names ++ name ∷ []) ≡ firsts same_name names
names_old names name i = firsts_old (λ n. n) names name (IsIn-map (λ n. n) name names i)

pub in_firsts : (names : List (List ℕ)) (name : List ℕ) → IsIn name names → IsIn name (firsts same_name names)
in_firsts names name i =
    let from = IsIn-map_from (λ n. n) name (firsts same_name names) (named_firsts (λ n. n) names name (IsIn-map (λ n. n) name names i)) in
    subst (λ n. IsIn n (firsts same_name names)) (sym from.2) from.1
