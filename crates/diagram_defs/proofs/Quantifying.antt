-- All or any of some things, thing by thing.
use Rattle.std.proofs.Common.{◌≡◌, Bool, true, false, not, ◌&&◌, ◌||◌, List, [], ◌∷◌, ◌++◌, map, refl, sym, ap, ◌∙◌}
use Rattle.std.specs.List.{Contains, list_all, list_any}
use Rattle.std.proofs.Math.Bool.{and-true, or-false}
use Rattle.std.proofs.lemmas.List.Elements.{All-contains, All-contains_itself, All-weaker}
use Rattle.std.proofs.lemmas.List.Folds.{list_all-append, list_any-append, list_all-map}
use Rattle.std.proofs.lemmas.List.Sums.{AllPass-from_list_all, list_all-from_AllPass}
use Rattle.diagram_defs.specs.declared.quantifiers.Quantifier.{Quantifier}
use Rattle.diagram_defs.specs.declared.quantifiers.Quantifier.TheVariants as which
use Rattle.diagram_defs.specs.Quantified.{quantified, quantified_two, quantified_none, deciding}
use Rattle.diagram_defs.proofs.Listed.{same_truth, list_any-map}

-- a first thing, and the others
pub quantified_first : {X : Type 0} (q : Quantifier) (p : X → Bool) (x : X) (xs : List X) → quantified q p (x ∷ xs) ≡ quantified_two q (p x) (quantified q p xs)
quantified_first which.All p x xs = refl
quantified_first which.Any p x xs = refl

pub quantified_nothing : {X : Type 0} (q : Quantifier) (p : X → Bool) → quantified q p [] ≡ quantified_none q
quantified_nothing which.All p = refl
quantified_nothing which.Any p = refl

pub quantified_append : {X : Type 0} (q : Quantifier) (p : X → Bool) (xs ys : List X) → quantified q p (xs ++ ys) ≡ quantified_two q (quantified q p xs) (quantified q p ys)
quantified_append which.All p xs ys = list_all-append p xs ys
quantified_append which.Any p xs ys = list_any-append p xs ys

pub quantified_map : {X Y : Type 0} (q : Quantifier) (p : X → Bool) (f : Y → X) (ys : List Y) → quantified q p (map f ys) ≡ quantified q (λ y. p (f y)) ys
quantified_map which.All p f ys = list_all-map p f ys
quantified_map which.Any p f ys = list_any-map p f ys

-- the two answers, with nothing more, with one that decides, and in either order
pub two_none : (q : Quantifier) (x : Bool) → quantified_two q x (quantified_none q) ≡ x
two_none which.All x = and-true x
two_none which.Any x = or-false x

pub two_decided : (q : Quantifier) (x y : Bool) → y ≡ deciding q → quantified_two q x y ≡ deciding q
two_decided which.All true y e = e
two_decided which.All false y e = refl
two_decided which.Any true y e = refl
two_decided which.Any false y e = e

pub two_decides : (q : Quantifier) (x y : Bool) → x ≡ deciding q → quantified_two q x y ≡ deciding q
two_decides which.All x y e = ap (λ (b : Bool). b && y) e
two_decides which.Any x y e = ap (λ (b : Bool). b || y) e

pub two_grouped : (q : Quantifier) (x y z : Bool) → quantified_two q (quantified_two q x y) z ≡ quantified_two q x (quantified_two q y z)
two_grouped which.All true y z = refl
two_grouped which.All false y z = refl
two_grouped which.Any true y z = refl
two_grouped which.Any false y z = refl

pub two_moved : (q : Quantifier) (x y z : Bool) → quantified_two q (quantified_two q x y) z ≡ quantified_two q (quantified_two q x z) y
two_moved which.All true true z = sym (and-true z)
two_moved which.All true false true = refl
two_moved which.All true false false = refl
two_moved which.All false y z = refl
two_moved which.Any true y z = refl
two_moved which.Any false true true = refl
two_moved which.Any false true false = refl
two_moved which.Any false false z = sym (or-false z)

-- any of the items passes where not all of them fail
any_one : (b any : Bool) (all : Bool) → any ≡ not all → (b || any) ≡ not (not b && all)
any_one true any all e = refl
any_one false any all e = e

any_of_all : {X : Type 0} (p : X → Bool) (xs : List X) → list_any p xs ≡ not (list_all (λ x. not (p x)) xs)
any_of_all p [] = refl
any_of_all p (x ∷ xs) = any_one (p x) (list_any p xs) (list_all (λ y. not (p y)) xs) (any_of_all p xs)

all_members : {X : Type 0} (p : X → Bool) (xs ys : List X) → ((x : X) → Contains ys x → Contains xs x) → list_all p xs ≡ true → list_all p ys ≡ true
all_members p xs ys back e =
    list_all-from_AllPass p ys (All-weaker (Contains ys) (λ y. p y ≡ true) (λ y there. All-contains (λ x. p x ≡ true) xs y (AllPass-from_list_all p xs e) (back y there)) ys (All-contains_itself ys))

-- lists with the same members have the same answer
pub same_members : {X : Type 0} (q : Quantifier) (p : X → Bool) (xs ys : List X) → ((x : X) → Contains xs x → Contains ys x) → ((x : X) → Contains ys x → Contains xs x) → quantified q p xs ≡ quantified q p ys
same_members which.All p xs ys there back = same_truth _ _ (all_members p xs ys back) (all_members p ys xs there)
same_members which.Any p xs ys there back =
    any_of_all p xs
    ∙ ap not (same_truth _ _ (all_members (λ x. not (p x)) xs ys back) (all_members (λ x. not (p x)) ys xs there))
    ∙ sym (any_of_all p ys)
