-- Places up to some number, and places of a list with one more at its end.
use Rattle.std.proofs.Common.{◌≡◌, ℕ, None, ◌<◌, ◌≤◌, ◌+◌, ◌⊎◌, inl, inr, List, [], ◌∷◌, ◌++◌, length, map, take, drop, get_or, refl, sym, ap, ◌∙◌, subst, arith}
use Rattle.std.proofs.lemmas.Bool.{cases_lt}
use Rattle.std.proofs.lemmas.List.{append_assoc, drop_more, length-append, length-map, length-take-le, map-append, take-append-drop, take_more}
use Rattle.net_text.specs.declared.declarations.DeclarationAt.{DeclarationAt}
use Rattle.net_text.specs.declared.declarations.DeclarationAt.TheVariants as made
use Rattle.net_text.specs.declared.tokens.NameAt.{NameAt}
use Rattle.text_defs.specs.FirstPlace.{HasNoPlace, IsFirstPlace}
use Rattle.text_defs.proofs.FirstPlaces.{first_behind, split_same}

-- P holds at none of the first n places
abbrev pub AreClearTo : {X : Type 0} → (List X → X → List X → Type 0) → List X → ℕ → Type 0
AreClearTo {X} P xs n = (front : List X) (y : X) (rest : List X) → xs ≡ front ++ y ∷ rest → length front < n → ¬ P front y rest

module _ {X : Type 0} (P : List X → X → List X → Type 0) where
  pub clear_none : (xs : List X) → AreClearTo P xs 0
  clear_none xs front y rest split less = absurd (omega (arith, less))

  pub clear_step : (xs before : List X) (x : X) (behind : List X) (n : ℕ) → xs ≡ before ++ x ∷ behind → length before ≡ n → AreClearTo P xs n → ¬ P before x behind
      → AreClearTo P xs (n + 1)
  clear_step xs before x behind n split long clear not_here front y rest split' less p = by (cases_lt (length front) n)
    where
      by : (length front < n) ⊎ (n ≤ length front) → ⊥
      by (inl early) = clear front y rest split' early p
      by (inr late) =
          let same : length before ≡ length front = omega (arith, late, less, long) in
          let parts = split_same before front (x ∷ behind) (y ∷ rest) (sym split ∙ split') same in
          let both : x ∷ behind ≡ y ∷ rest = parts.1 in
          let head : x ≡ y = cc in
          let tail : behind ≡ rest = cc in
          not_here (subst (λ l. P before x l) (sym tail) (subst (λ z. P before z rest) (sym head) (subst (λ l. P l y rest) (sym parts.0) p)))

  pub clear_all : (xs : List X) (n : ℕ) → length xs ≤ n → AreClearTo P xs n → HasNoPlace P xs
  clear_all xs n all clear front y rest split p =
      let long : length xs ≡ length (front ++ y ∷ rest) = ap length split in
      let sum : length (front ++ y ∷ rest) ≡ length front + length (y ∷ rest) = length-append front (y ∷ rest) in
      clear front y rest split (omega (arith, all, long, sum)) p

  pub clear_here : (xs before : List X) (x : X) (behind : List X) (n : ℕ) → xs ≡ before ++ x ∷ behind → length before ≡ n → AreClearTo P xs n → P before x behind
      → IsFirstPlace P xs x
  clear_here xs before x behind n split long clear holds =
      subst (λ l. IsFirstPlace P l x) (sym split)
      (first_behind P before x behind holds (λ front y rest split' less. clear front y rest (split ∙ split') (omega (arith, less, long))))

  -- what stands in front has its places among the first
  pub clear_front : (xs before : List X) (x : X) (behind : List X) (n : ℕ) → xs ≡ before ++ x ∷ behind → length before ≡ n → AreClearTo P xs n
      → (front : List X) (y : X) (rest : List X) → before ≡ front ++ y ∷ rest → ¬ P front y (rest ++ x ∷ behind)
  clear_front xs before x behind n split long clear front y rest split' =
      let sum : length (front ++ y ∷ rest) ≡ length front + length (y ∷ rest) = length-append front (y ∷ rest) in
      let all : length before ≡ length (front ++ y ∷ rest) = ap length split' in
      clear front y (rest ++ x ∷ behind) (split ∙ ap (λ l. l ++ x ∷ behind) split' ∙ append_assoc front (y ∷ rest) (x ∷ behind)) (omega (arith, sum, all, long))

-- a place of a list with one more at its end is one of the list, or the last
pub place_push : {X : Type 0} (xs : List X) (x : X) (front : List X) (y : X) (rest : List X) → xs ++ x ∷ [] ≡ front ++ y ∷ rest
    → ((more : List X) × (xs ≡ front ++ y ∷ more)) ⊎ ((xs ≡ front) × (x ≡ y))
place_push [] x [] y rest e = inr (refl, let head : x ≡ y = cc in head)
place_push [] x (z ∷ front) y rest e =
    let tail : [] ≡ front ++ y ∷ rest = cc in
    let sum : length (front ++ y ∷ rest) ≡ length front + length (y ∷ rest) = length-append front (y ∷ rest) in
    let none : 0 ≡ length (front ++ y ∷ rest) = ap length tail in
    absurd (omega (arith, none, sum))
place_push (w ∷ xs) x [] y rest e = let head : w ≡ y = cc in inl (xs, ap (λ z. z ∷ xs) head)
place_push {X} (w ∷ xs) x (z ∷ front) y rest e =
    let head : w ≡ z = cc in
    let tail : xs ++ x ∷ [] ≡ front ++ y ∷ rest = cc in
    by head (place_push xs x front y rest tail)
  where
    by : w ≡ z → ((more : List X) × (xs ≡ front ++ y ∷ more)) ⊎ ((xs ≡ front) × (x ≡ y))
        → ((more : List X) × (w ∷ xs ≡ z ∷ (front ++ y ∷ more))) ⊎ ((w ∷ xs ≡ z ∷ front) × (x ≡ y))
    by head (inl early) = inl (early.0, λ i. head i ∷ early.1 i)
    by head (inr last) = inr ((λ i. head i ∷ last.0 i), last.1)

-- ---- what stands before a place of a list that is seen by a view

module _ {X Y : Type 0} (view : X → Y) (xs : List X) (i : ℕ) (x d : X) (lt : i < length xs) (is : x ≡ get_or xs i d) where
  pub seen_push : map view (take (i + 1) xs) ≡ map view (take i xs) ++ view x ∷ []
  seen_push =
      ap (map view) (take_more xs i d lt) ∙ map-append view (take i xs) (get_or xs i d ∷ []) ∙ ap (λ (y : X). map view (take i xs) ++ view y ∷ []) (sym is)

  pub seen_split : map view xs ≡ map view (take i xs) ++ view x ∷ map view (drop (i + 1) xs)
  seen_split =
      ap (map view) (sym (take-append-drop i xs)) ∙ map-append view (take i xs) (drop i xs)
      ∙ ap (λ (l : List X). map view (take i xs) ++ map view l) (drop_more xs i d lt) ∙ ap (λ (y : X). map view (take i xs) ++ view y ∷ map view (drop (i + 1) xs)) (sym is)

  pub seen_long : length (map view (take i xs)) ≡ i
  seen_long = length-map (take i xs) view ∙ length-take-le i xs (omega (arith, lt))

-- what stands past the end of a list of declarations
abbrev pub no_declaration : DeclarationAt
no_declaration = made.HeaderPort (let n : NameAt = record { text = record { ref_ptr = (0, 0); now = [] }; line = 0 } in n) None
