-- Names that stay apart where a list is thinned out or cut down to first places.
use Rattle.std.proofs.Common.{◌≡◌, ℕ, Bool, true, false, not, cond, List, [], ◌∷◌, ◌++◌, Option, None, Some, map}
use Rattle.std.proofs.Common.{inl, inr, refl, sym, ap, ◌∙◌, subst}
use Rattle.std.specs.List.{filter, filter_map, cons_option, list_any}
use Rattle.std.proofs.lemmas.Bool.{false≢true}
use Rattle.list_defs.specs.Members.{IsIn, all_differ, same_name}
use Rattle.list_defs.proofs.Members.{IsIn-append_cases, IsIn-filter_from, IsIn-map, IsIn-map_from}
use Rattle.list_defs.proofs.NameLemmas.{IsIn-list_any, same_name-itself}
use Rattle.text_defs.specs.FirstPlace.{firsts}

-- no name is among those behind it
abbrev pub AreApart : List (List ℕ) → Type 0
AreApart [] = Unit {0}
AreApart (n ∷ ns) = (¬ IsIn n ns) × AreApart ns

-- a name that isn't in a list is the same as none of it
not_any : (n : List ℕ) (ns : List (List ℕ)) → ¬ IsIn n ns → list_any (same_name n) ns ≡ false
not_any n ns none = by (list_any (same_name n) ns) refl
  where
    by : (b : Bool) → list_any (same_name n) ns ≡ b → b ≡ false
    by true e = absurd (none (IsIn-list_any n ns e))
    by false e = refl

pub differ_apart : (ns : List (List ℕ)) → AreApart ns → all_differ same_name ns ≡ true
differ_apart [] apart = refl
differ_apart (n ∷ ns) apart =
    let none : list_any (same_name n) ns ≡ false = not_any n ns apart.0 in
    let rest : all_differ same_name ns ≡ true = differ_apart ns apart.1 in
    cc

module _ {X : Type 0} (name : X → List ℕ) where
  name_in : (p : X → Bool) (xs : List X) (n : List ℕ) → IsIn n (map name (filter p xs)) → IsIn n (map name xs)
  name_in p xs n i =
      let from = IsIn-map_from name n (filter p xs) i in
      subst (λ m. IsIn m (map name xs)) (sym from.2) (IsIn-map name from.0 xs (IsIn-filter_from p from.0 xs from.1).0)

  apart_thinned : (p : X → Bool) (xs : List X) → AreApart (map name xs) → AreApart (map name (filter p xs))
  apart_thinned p [] apart = tt
  apart_thinned p (x ∷ xs) apart = by (p x) (apart_thinned p xs apart.1)
    where
      by : (b : Bool) → AreApart (map name (filter p xs)) → AreApart (map name (cond b (x ∷ filter p xs) (filter p xs)))
      by true rest = ((λ i. apart.0 (name_in p xs (name x) i)), rest)
      by false rest = rest

  -- each at its first place by name, the names are apart
  pub firsts_apart : (xs : List X) → AreApart (map name (firsts (λ x y. same_name (name x) (name y)) xs))
  unfolding firsts
  firsts_apart [] = tt
  firsts_apart (x ∷ xs) =
      (other, apart_thinned (λ y. not (same_name (name x) (name y))) (firsts (λ x y. same_name (name x) (name y)) xs) (firsts_apart xs))
    where
      other : ¬ IsIn (name x) (map name (filter (λ y. not (same_name (name x) (name y))) (firsts (λ x y. same_name (name x) (name y)) xs)))
      other i =
          let from = IsIn-map_from name (name x) (filter (λ y. not (same_name (name x) (name y))) (firsts (λ x y. same_name (name x) (name y)) xs)) i in
          let differs = (IsIn-filter_from (λ y. not (same_name (name x) (name y))) from.0 (firsts (λ x y. same_name (name x) (name y)) xs) from.1).1 in
          let same : same_name (name x) (name from.0) ≡ true = ap (same_name (name x)) (sym from.2) ∙ same_name-itself (name x) in
          false≢true (ap not (sym same) ∙ differs)

-- what stands at its first place stands in the list
pub firsts_in : {X : Type 0} (same : X → X → Bool) (xs : List X) (x : X) → IsIn x (firsts same xs) → IsIn x xs
unfolding firsts
firsts_in same [] x i = i
firsts_in same (y ∷ xs) x (inl e) = inl e
firsts_in same (y ∷ xs) x (inr i) = inr (firsts_in same xs x (IsIn-filter_from (λ z. not (same y z)) x (firsts same xs) i).0)

-- what is made of names and keeps them has names that are apart
module _ {X : Type 0} (name : X → List ℕ) (made : List ℕ → Option X) (keeps : (n : List ℕ) (x : X) → made n ≡ Some x → name x ≡ n) where
  made_in : (ns : List (List ℕ)) (n : List ℕ) → IsIn n (map name (filter_map made ns)) → IsIn n ns
  made_in [] n i = i
  made_in (m ∷ ns) n i = by (made m) refl i (made_in ns n)
    where
      by : (o : Option X) → made m ≡ o → IsIn n (map name (cons_option o (filter_map made ns))) → (IsIn n (map name (filter_map made ns)) → IsIn n ns)
          → IsIn n (m ∷ ns)
      by None e i rest = inr (rest i)
      by (Some x) e (inl same) rest = inl (same ∙ keeps m x e)
      by (Some x) e (inr i) rest = inr (rest i)

  pub made_apart : (ns : List (List ℕ)) → AreApart ns → AreApart (map name (filter_map made ns))
  made_apart [] apart = tt
  made_apart (m ∷ ns) apart = by (made m) refl (made_apart ns apart.1)
    where
      by : (o : Option X) → made m ≡ o → AreApart (map name (filter_map made ns)) → AreApart (map name (cons_option o (filter_map made ns)))
      by None e rest = rest
      by (Some x) e rest = ((λ i. apart.0 (made_in ns m (subst (λ n. IsIn n (map name (filter_map made ns))) (keeps m x e) i))), rest)

-- what stands in a list parts it
pub split_at : {X : Type 0} (x : X) (xs : List X) → IsIn x xs → (front : List X) × (rest : List X) × (xs ≡ front ++ x ∷ rest)
split_at x [] i = absurd i
split_at x (y ∷ xs) (inl e) = ([], xs, ap (λ z. z ∷ xs) (sym e))
split_at x (y ∷ xs) (inr i) = let split = split_at x xs i in (y ∷ split.0, split.1, ap (λ zs. y ∷ zs) split.2)

-- names of two lists that share none
pub apart_joined : (xs ys : List (List ℕ)) → AreApart xs → AreApart ys → ((n : List ℕ) → IsIn n xs → ¬ IsIn n ys) → AreApart (xs ++ ys)
apart_joined [] ys of_xs of_ys shared = of_ys
apart_joined (x ∷ xs) ys of_xs of_ys shared = (
  (λ i. elim (IsIn-append_cases x xs ys i) [ inl here ↦ of_xs.0 here | inr there ↦ shared x (inl refl) there ]),
  apart_joined xs ys of_xs.1 of_ys (λ n i. shared n (inr i)),
)

-- what is made of things of a list is made of one of them
pub made_from : {X Y : Type 0} (made : X → Option Y) (xs : List X) (y : Y) → IsIn y (filter_map made xs) → (x : X) × IsIn x xs × (made x ≡ Some y)
made_from made [] y i = absurd i
made_from {X} {Y} made (x ∷ xs) y i = by (made x) refl i (made_from made xs y)
  where
    by : (o : Option Y) → made x ≡ o → IsIn y (cons_option o (filter_map made xs)) → (IsIn y (filter_map made xs) → (z : X) × IsIn z xs × (made z ≡ Some y))
        → (z : X) × IsIn z (x ∷ xs) × (made z ≡ Some y)
    by None e i rest = let found = rest i in (found.0, inr found.1, found.2)
    by (Some z) e (inl same) rest = (x, inl refl, e ∙ ap Some (sym same))
    by (Some z) e (inr i) rest = let found = rest i in (found.0, inr found.1, found.2)
