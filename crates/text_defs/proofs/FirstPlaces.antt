-- There is one first place, or none.
use Rattle.std.proofs.Common.{◌≡◌, ℕ, ◌≤◌, ◌<◌, ◌+◌, ◌⊎◌, inl, inr, List, [], ◌∷◌, ◌++◌, length, refl, sym, ap, ◌∙◌, subst, arith}
use Rattle.std.proofs.lemmas.List.{append-nil, append_assoc, length-append}
use Rattle.text_defs.specs.FirstPlace.{IsFirstPlace, HasNoPlace}

-- two lists put together in one way, with fronts of one length, have the same parts
pub split_same : {X : Type 0} (a b xs ys : List X) → a ++ xs ≡ b ++ ys → length a ≡ length b → (a ≡ b) × (xs ≡ ys)
split_same [] [] xs ys e n = (refl, e)
split_same [] (z ∷ b) xs ys e n = absurd (omega arith)
split_same (z ∷ a) [] xs ys e n = absurd (omega arith)
split_same {X} (z ∷ a) (w ∷ b) xs ys e n =
    let head : z ≡ w = cc in
    let tail : a ++ xs ≡ b ++ ys = cc in
    let same : length a ≡ length b = omega arith in
    let rest = split_same a b xs ys tail same in
    let front : a ≡ b = rest.0 in
    ((let joined : z ∷ a ≡ w ∷ b = cc (head, front) in joined), rest.1)

pub one_first_place : {X : Type 0} (P : List X → X → List X → Type 0) (xs : List X) (x y : X) → IsFirstPlace P xs x → IsFirstPlace P xs y → x ≡ y
one_first_place P xs x y a b =
    let left : length a.before ≤ length b.before = a.first b.before y b.behind b.split b.holds in
    let right : length b.before ≤ length a.before = b.first a.before x a.behind a.split a.holds in
    let same : length a.before ≡ length b.before = omega arith in
    let parts = split_same a.before b.before (x ∷ a.behind) (y ∷ b.behind) (sym a.split ∙ b.split) same in
    let tails : x ∷ a.behind ≡ y ∷ b.behind = parts.1 in
    cc

pub no_first_place : {X : Type 0} (P : List X → X → List X → Type 0) (xs : List X) (x : X) → HasNoPlace P xs → ¬ IsFirstPlace P xs x
no_first_place P xs x none a = none a.before x a.behind a.split a.holds

-- what holds behind a front, and at no place of it, holds there first
pub first_behind : {X : Type 0} (P : List X → X → List X → Type 0) (before : List X) (x : X) (behind : List X) → P before x behind
    → ((front : List X) (y : X) (rest : List X) → before ++ x ∷ behind ≡ front ++ y ∷ rest → length front < length before → ¬ P front y rest)
    → IsFirstPlace P (before ++ x ∷ behind) x
first_behind P before x behind holds none =
    record {
      before = before;
      behind = behind;
      split = refl;
      holds = holds;
      first = λ front y rest split p. least (length before) (length front) (λ less. none front y rest split less p);
    }
  where
    least : (n m : ℕ) → ¬ (m < n) → n ≤ m
    least n m h = omega arith

-- where it can be told of each place whether it holds, there is a first place or none
unfoldable pub first_or_none : {X : Type 0} (P : List X → X → List X → Type 0)
    → ((front : List X) (y : X) (rest : List X) → P front y rest ⊎ (¬ P front y rest))
    → (xs : List X) → HasNoPlace P xs ⊎ ((x : X) × IsFirstPlace P xs x)
first_or_none {X} P told xs = go [] xs (λ front y rest split less. absurd (let none : ¬ (length front < 0) = omega arith in none less))
  where
    IsNotBefore : List X → List X → Type 0
    IsNotBefore before rest = (front : List X) (y : X) (more : List X) → before ++ rest ≡ front ++ y ∷ more → length front < length before → ¬ P front y more

    here : (before : List X) (x : X) (rest front : List X) (y : X) (more : List X) → before ++ x ∷ rest ≡ front ++ y ∷ more
        → (length front < length before → ⊥) → (¬ P before x rest) → P front y more → length front ≤ length before → ⊥
    here before x rest front y more split not_before q p upto =
        let same : length before ≡ length front = omega (arith, not_before) in
        let parts = split_same before front (x ∷ rest) (y ∷ more) split same in
        let head : x ≡ y = (let both : x ∷ rest ≡ y ∷ more = parts.1 in cc) in
        let tail : rest ≡ more = (let both : x ∷ rest ≡ y ∷ more = parts.1 in cc) in
        q (subst (λ l. P before x l) (sym tail) (subst (λ z. P before z more) (sym head) (subst (λ l. P l y more) (sym parts.0) p)))

    go : (before rest : List X) → IsNotBefore before rest → HasNoPlace P (before ++ rest) ⊎ ((x : X) × IsFirstPlace P (before ++ rest) x)
    go before [] none =
        inl (λ front y more split. none front y more split
        (let long : length before ≡ length (front ++ y ∷ more) = ap length (sym (append-nil before) ∙ split) in
        let sum : length (front ++ y ∷ more) ≡ length front + length (y ∷ more) = length-append front (y ∷ more) in
        omega arith))
    go before (x ∷ rest) none = elim (told before x rest) [
      | inl p ↦ inr (x, first_behind P before x rest p none)
      | inr q ↦
          (let longer : IsNotBefore (before ++ x ∷ []) rest = (λ front y more split less p.
          let whole : before ++ x ∷ rest ≡ front ++ y ∷ more = sym (append_assoc before (x ∷ []) rest) ∙ split in
          let sum : length (before ++ x ∷ []) ≡ length before + length (x ∷ []) = length-append before (x ∷ []) in
          here before x rest front y more whole (λ h. none front y more whole h p) q p (omega arith)) in
          subst (λ l. HasNoPlace P l ⊎ ((x : X) × IsFirstPlace P l x)) (append_assoc before (x ∷ []) rest) (go (before ++ x ∷ []) rest longer))
    ]
