-- What is found along a list, or beside each of it, is one list, where each thing has at most one or none.
use Rattle.std.proofs.Common.{◌≡◌, ◌⊎◌, List, [], ◌∷◌, sym, ◌∙◌, refl, inl, inr}
use Rattle.std.specs.List.{AllZip}
use Rattle.list_defs.specs.Found.{AreFound, end, found, passed}

-- what is found, opened at the first thing
abbrev Opened : {X Y : Type 0} → (X → Y → Type 0) → (X → Type 0) → List X → List Y → Type 0
Opened Has HasNone [] ys = ys ≡ []
Opened {X} {Y} Has HasNone (x ∷ xs) ys = ((y : Y) × (more : List Y) × Has x y × AreFound Has HasNone xs more × (ys ≡ y ∷ more)) ⊎
    (HasNone x × AreFound Has HasNone xs ys)

opened : {X Y : Type 0} (Has : X → Y → Type 0) (HasNone : X → Type 0) (xs : List X) (ys : List Y) → AreFound Has HasNone xs ys → Opened Has HasNone xs ys
opened Has HasNone xs ys end = refl
opened Has HasNone xs ys (found x y more rest is are) = inl (y, rest, is, are, refl)
opened Has HasNone xs ys (passed x more rest is are) = inr (is, are)

pub found_once : {X Y : Type 0} (Has : X → Y → Type 0) (HasNone : X → Type 0) → ((x : X) (y z : Y) → Has x y → Has x z → y ≡ z)
    → ((x : X) (y : Y) → Has x y → HasNone x → ⊥) → (xs : List X) (ys zs : List Y) → AreFound Has HasNone xs ys → AreFound Has HasNone xs zs → ys ≡ zs
found_once Has HasNone one not_both [] ys zs a b = opened Has HasNone [] ys a ∙ sym (opened Has HasNone [] zs b)
found_once {X} {Y} Has HasNone one not_both (x ∷ xs) ys zs a b = by (opened Has HasNone (x ∷ xs) ys a) (opened Has HasNone (x ∷ xs) zs b)
    (found_once Has HasNone one not_both xs)
  where
    by : Opened Has HasNone (x ∷ xs) ys → Opened Has HasNone (x ∷ xs) zs
        → ((us vs : List Y) → AreFound Has HasNone xs us → AreFound Has HasNone xs vs → us ≡ vs) → ys ≡ zs
    by (inl p) (inl q) rest =
        let first : p.0 ≡ q.0 = one x p.0 q.0 p.2 q.2 in
        let more : p.1 ≡ q.1 = rest p.1 q.1 p.3 q.3 in
        let left : ys ≡ p.0 ∷ p.1 = p.4 in
        let right : zs ≡ q.0 ∷ q.1 = q.4 in
        cc
    by (inl p) (inr q) rest = absurd (not_both x p.0 p.2 q.0)
    by (inr p) (inl q) rest = absurd (not_both x q.0 q.2 p.0)
    by (inr p) (inr q) rest = rest ys zs p.1 q.1

-- a list is determined where each of its items is
pub zip_once : {A B : Type 0} (R : A → B → Type 0) → ((a : A) (x y : B) → R a x → R a y → x ≡ y) → (keys : List A) (xs ys : List B) → AllZip R keys xs
    → AllZip R keys ys → xs ≡ ys
zip_once R one [] [] [] p q = refl
zip_once R one [] [] (y ∷ ys) p q = absurd q
zip_once R one [] (x ∷ xs) ys p q = absurd p
zip_once R one (a ∷ keys) [] ys p q = absurd p
zip_once R one (a ∷ keys) (x ∷ xs) [] p q = absurd q
zip_once R one (a ∷ keys) (x ∷ xs) (y ∷ ys) p q =
    let first : x ≡ y = one a x y p.0 q.0 in
    let rest : xs ≡ ys = zip_once R one keys xs ys p.1 q.1 in
    cc
