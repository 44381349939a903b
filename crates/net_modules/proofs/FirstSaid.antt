-- The first that is said in a list.
use Rattle.std.proofs.Common.{◌≡◌, ◌||◌, List, [], ◌∷◌, ◌++◌, Option, None, Some, inl, inr, refl, sym, ap, ◌∙◌, is_some}
use Rattle.std.specs.List.{cons_option, filter_map, list_any}
use Rattle.std.specs.Option.{option_map}
use Rattle.std.proofs.lemmas.Option.{none-some}
use Rattle.list_defs.specs.Members.{IsIn}
use Rattle.text_defs.specs.Grammar.{next}
use Rattle.net_modules.specs.Sayings.{first_of}

pub first_none : {A : Type 0} (o : Option A) → first_of o None ≡ o
first_none None = refl
first_none (Some a) = refl

pub next_one : {A : Type 0} (o : Option A) → next (cons_option o []) ≡ o
next_one None = refl
next_one (Some a) = refl

module _ {X Y : Type 0} (f : X → Option Y) where
  pub first_append : (xs ys : List X) → next (filter_map f (xs ++ ys)) ≡ first_of (next (filter_map f xs)) (next (filter_map f ys))
  first_append [] ys = refl
  first_append (x ∷ xs) ys = by (first_append xs ys) (f x)
    where
      by : next (filter_map f (xs ++ ys)) ≡ first_of (next (filter_map f xs)) (next (filter_map f ys)) → (o : Option Y) → next (cons_option o (filter_map f (xs ++ ys))) ≡ first_of (next (cons_option o (filter_map f xs))) (next (filter_map f ys))
      by rest None = rest
      by rest (Some y) = refl

  pub first_push : (xs : List X) (x : X) → next (filter_map f (xs ++ x ∷ [])) ≡ first_of (next (filter_map f xs)) (f x)
  first_push xs x = first_append xs (x ∷ []) ∙ ap (first_of (next (filter_map f xs))) (next_one (f x))

  -- something is said exactly where one says something
  pub first_any : (xs : List X) → is_some (next (filter_map f xs)) ≡ list_any (λ x. is_some (f x)) xs
  first_any [] = refl
  first_any (x ∷ xs) = by (first_any xs) (f x)
    where
      by : is_some (next (filter_map f xs)) ≡ list_any (λ x. is_some (f x)) xs → (o : Option Y) → is_some (next (cons_option o (filter_map f xs))) ≡ (is_some o || list_any (λ x. is_some (f x)) xs)
      by rest None = rest
      by rest (Some y) = refl

  -- what is said first is said by one
  pub first_from : (xs : List X) (y : Y) → next (filter_map f xs) ≡ Some y → (x : X) × IsIn x xs × (f x ≡ Some y)
  first_from [] y e = absurd (none-some y e)
  first_from (x ∷ xs) y e = by (first_from xs y) (f x) refl e
    where
      by : (next (filter_map f xs) ≡ Some y → (z : X) × IsIn z xs × (f z ≡ Some y)) → (o : Option Y) → f x ≡ o → next (cons_option o (filter_map f xs)) ≡ Some y → (z : X) × IsIn z (x ∷ xs) × (f z ≡ Some y)
      by rest None is e = let found = rest e in (found.0, inr found.1, found.2)
      by rest (Some w) is e = (x, inl refl, is ∙ e)

-- the first of what is made of what is said
pub first_map : {X Y Z : Type 0} (g : Y → Z) (f : X → Option Y) (xs : List X) → next (filter_map (λ x. option_map g (f x)) xs) ≡ option_map g (next (filter_map f xs))
first_map g f [] = refl
first_map {X} {Y} {Z} g f (x ∷ xs) = by (first_map g f xs) (f x)
  where
    by : next (filter_map (λ x. option_map g (f x)) xs) ≡ option_map g (next (filter_map f xs)) → (o : Option Y) → next (cons_option (option_map g o) (filter_map (λ x. option_map g (f x)) xs)) ≡ option_map g (next (cons_option o (filter_map f xs)))
    by rest None = rest
    by rest (Some y) = refl

-- what a list has stands between two parts of it
pub parted : {X : Type 0} (x : X) (xs : List X) → IsIn x xs → (front : List X) × (rest : List X) × (xs ≡ front ++ x ∷ rest)
parted x [] i = absurd i
parted {X} x (y ∷ ys) (inl e) = ([], ys, ap (λ (z : X). z ∷ ys) (sym e))
parted {X} x (y ∷ ys) (inr i) = let p = parted x ys i in (y ∷ p.0, p.1, ap (λ (zs : List X). y ∷ zs) p.2)

-- where one that says something is the only one to, it is the first
pub said_first : {X Y : Type 0} (f : X → Option Y) (xs front rest : List X) (x : X) (y : Y) → xs ≡ front ++ x ∷ rest → f x ≡ Some y
    → ((z : X) (w : Y) → IsIn z front → f z ≡ Some w → ⊥) → next (filter_map f xs) ≡ Some y
said_first {X} {Y} f xs front rest x y split is none =
    ap (λ l. next (filter_map f l)) split ∙ first_append f front (x ∷ rest) ∙ by (next (filter_map f front)) refl
  where
    by : (o : Option Y) → next (filter_map f front) ≡ o → first_of o (next (cons_option (f x) (filter_map f rest))) ≡ Some y
    by None e = ap (λ o. next (cons_option o (filter_map f rest))) is
    by (Some w) e = let found = first_from f front w e in absurd (none found.0 w found.1 found.2)
