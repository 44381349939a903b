-- The first line that feeds a bit with a mark, among more and more lines.
use Rattle.std.proofs.Common.{◌≡◌, ℕ, zero, suc, ◌+◌, ◌<◌, ◌≤◌, ◌⊎◌, inl, inr, List, [], ◌∷◌, ◌++◌, Option, None, Some, get_or, length, take, refl, sym, ap, ◌∙◌, subst, arith, append_assoc}
use Rattle.std.specs.List.{flat_map, range_with_len}
use Rattle.std.proofs.lemmas.Bool.{cases_lt}
use Rattle.std.proofs.lemmas.Grind.{flat_map-append}
use Rattle.std.proofs.lemmas.List.{append-nil, take_more}
use Rattle.std.proofs.lemmas.Option.{none-some, same_Some}
use Rattle.list_defs.specs.Members.{IsIn}
use Rattle.list_defs.proofs.Members.{IsIn-append_cases, IsIn-append_left, IsIn-append_right}
use Rattle.net_loops.specs.Lines.{FindsFirst, IsFirst, IsFirstLine, IsLesser, IsNotBehind, LineBit, mark_at}
use Rattle.net_loops.specs.declared.lines.Candidate.{Candidate}

not_behind_both : (a b c d e f : ℕ) → IsNotBehind a b c d → IsNotBehind c d e f → IsNotBehind a b e f
not_behind_both a b c d e f (inl p) (inl q) = inl (omega (arith, p, q))
not_behind_both a b c d e f (inl p) (inr q) = inl (omega (arith, p, q.0))
not_behind_both a b c d e f (inr p) (inl q) = inl (omega (arith, p.0, q))
not_behind_both a b c d e f (inr p) (inr q) = inr (p.0 ∙ q.0, omega (arith, p.1, q.1))

module _ (marks : List (Option ℕ)) where
  pub finds_none : (first : Option Candidate) → FindsFirst marks [] first first
  finds_none first lines is = subst (λ ls. IsFirst marks ls first) (sym (append-nil lines)) is

  pub finds_then : (a b : List LineBit) (x y z : Option Candidate) → FindsFirst marks a x y → FindsFirst marks b y z → FindsFirst marks (a ++ b) x z
  finds_then a b x y z one two lines is = subst (λ ls. IsFirst marks ls z) (append_assoc lines a b) (two (lines ++ a) (one lines is))

  pub finds_same : (a b : List LineBit) (x y : Option Candidate) → a ≡ b → FindsFirst marks a x y → FindsFirst marks b x y
  finds_same a b x y same is = subst (λ ls. FindsFirst marks ls x y) same is

  -- one more thing of a list, each with some lines
  pub finds_more : {X : Type 0} (f : X → List LineBit) (xs : List X) (i : ℕ) (d : X) (first old new : Option Candidate) → i < length xs
      → FindsFirst marks (flat_map f (take i xs)) first old → FindsFirst marks (f (get_or xs i d)) old new → FindsFirst marks (flat_map f (take (i + 1) xs)) first new
  finds_more f xs i d first old new within before here =
      let x = get_or xs i d in
      let parts : flat_map f (take i xs) ++ f x ≡ flat_map f (take (i + 1) xs) =
      ap (λ ls. flat_map f (take i xs) ++ ls) (sym (append-nil (f x))) ∙ sym (flat_map-append f (take i xs) (x ∷ [])) ∙ ap (flat_map f) (sym (take_more xs i d within)) in
      finds_same (flat_map f (take i xs) ++ f x) (flat_map f (take (i + 1) xs)) first new parts (finds_then (flat_map f (take i xs)) (f x) first old new before here)

  next_number : (a n : ℕ) → range_with_len a (n + 1) ≡ range_with_len a n ++ (a + n) ∷ []
  next_number a zero = let one : zero + 1 ≡ suc zero = omega arith in let same : a + zero ≡ a = omega arith in ap (range_with_len a) one ∙ sym (ap (λ (k : ℕ). k ∷ []) same)
  next_number a (suc n) =
      let one : suc n + 1 ≡ suc (n + 1) = omega arith in
      let next : a + 1 + n ≡ a + suc n = omega arith in
      ap (range_with_len a) one ∙ ap (λ ks. a ∷ ks) (next_number (a + 1) n) ∙ ap (λ (k : ℕ). a ∷ (range_with_len (a + 1) n ++ k ∷ [])) next

  -- one more number, each with some lines
  pub finds_next : (f : ℕ → List LineBit) (k : ℕ) (first old new : Option Candidate) → FindsFirst marks (flat_map f (range_with_len 0 k)) first old → FindsFirst marks (f k) old new
      → FindsFirst marks (flat_map f (range_with_len 0 (k + 1))) first new
  finds_next f k first old new before here =
      let at : 0 + k ≡ k = omega arith in
      let parts : flat_map f (range_with_len 0 k) ++ f k ≡ flat_map f (range_with_len 0 (k + 1)) =
      ap (λ ls. flat_map f (range_with_len 0 k) ++ ls) (sym (append-nil (f k))) ∙ sym (flat_map-append f (range_with_len 0 k) (k ∷ []))
      ∙ ap (λ (n : ℕ). flat_map f (range_with_len 0 k ++ n ∷ [])) (sym at) ∙ ap (flat_map f) (sym (next_number 0 k)) in
      finds_same (flat_map f (range_with_len 0 k) ++ f k) (flat_map f (range_with_len 0 (k + 1))) first new parts (finds_then (flat_map f (range_with_len 0 k)) (f k) first old new before here)

  module _ (line bit : ℕ) where
    last_or_old : (l b : ℕ) (lines : List LineBit) → IsIn (l, b) (lines ++ (line, bit) ∷ []) → IsIn (l, b) lines ⊎ ((l ≡ line) × (b ≡ bit))
    last_or_old l b lines there =
        elim (IsIn-append_cases (l, b) lines ((line, bit) ∷ []) there)
        [ inl old ↦ inl old | inr new ↦ elim new [ inl same ↦ inr (ap (λ (q : LineBit). q.0) same, ap (λ (q : LineBit). q.1) same) | inr later ↦ absurd later ] ]

    -- a bit without a mark changes nothing
    pub finds_unmarked : (first : Option Candidate) → mark_at marks bit ≡ None → FindsFirst marks ((line, bit) ∷ []) first first
    finds_unmarked None none lines is = λ l b r there mark. by l b r mark (last_or_old l b lines there)
      where
        by : (l b r : ℕ) → mark_at marks b ≡ Some r → IsIn (l, b) lines ⊎ ((l ≡ line) × (b ≡ bit)) → ⊥
        by l b r mark (inl old) = is l b r old mark
        by l b r mark (inr new) = none-some r (sym none ∙ ap (mark_at marks) (sym new.1) ∙ mark)
    finds_unmarked (Some c) none lines is = record {
      there = IsIn-append_left (c.line, c.bit) lines ((line, bit) ∷ []) is.there;
      marked = is.marked;
      first = λ l b r there mark. by l b r mark (last_or_old l b lines there);
    }
      where
        by : (l b r : ℕ) → mark_at marks b ≡ Some r → IsIn (l, b) lines ⊎ ((l ≡ line) × (b ≡ bit)) → IsNotBehind c.line c.rank l r
        by l b r mark (inl old) = is.first l b r old mark
        by l b r mark (inr new) = absurd (none-some r (sym none ∙ ap (mark_at marks) (sym new.1) ∙ mark))

    module _ (rank : ℕ) (marked : mark_at marks bit ≡ Some rank) where
      abbrev pub new_one : Candidate
      new_one = record { line = line; rank = rank; bit = bit }

      last_in : (lines : List LineBit) → IsIn (line, bit) (lines ++ (line, bit) ∷ [])
      last_in lines = IsIn-append_right (line, bit) lines ((line, bit) ∷ []) (inl refl)

      -- the new line by itself
      at_new : (l b r : ℕ) → mark_at marks b ≡ Some r → (l ≡ line) × (b ≡ bit) → (line ≡ l) × (rank ≡ r)
      at_new l b r mark same = (sym same.0, same_Some rank r (sym marked ∙ ap (mark_at marks) (sym same.1) ∙ mark))

      pub finds_marked : (first : Option Candidate) (found : Candidate) → IsLesser first new_one found → FindsFirst marks ((line, bit) ∷ []) first (Some found)
      finds_marked None found same lines is = subst (IsFirstLine marks (lines ++ (line, bit) ∷ [])) (sym same) (record {
        there = last_in lines;
        marked = marked;
        first = λ l b r there mark. by l b r mark (last_or_old l b lines there);
      })
        where
          by : (l b r : ℕ) → mark_at marks b ≡ Some r → IsIn (l, b) lines ⊎ ((l ≡ line) × (b ≡ bit)) → IsNotBehind line rank l r
          by l b r mark (inl old) = absurd (is l b r old mark)
          by l b r mark (inr new) = let at = at_new l b r mark new in inr (at.0, omega (arith, at.1))
      finds_marked (Some c) found lesser lines is = record {
        there = there_is lesser.one;
        marked = marked_is lesser.one;
        first = λ l b r there mark. by l b r mark (last_or_old l b lines there);
      }
        where
          there_is : (found ≡ c) ⊎ (found ≡ new_one) → IsIn (found.line, found.bit) (lines ++ (line, bit) ∷ [])
          there_is (inl same) = subst (λ (x : Candidate). IsIn (x.line, x.bit) (lines ++ (line, bit) ∷ [])) (sym same) (IsIn-append_left (c.line, c.bit) lines ((line, bit) ∷ []) is.there)
          there_is (inr same) = subst (λ (x : Candidate). IsIn (x.line, x.bit) (lines ++ (line, bit) ∷ [])) (sym same) (last_in lines)

          marked_is : (found ≡ c) ⊎ (found ≡ new_one) → mark_at marks found.bit ≡ Some found.rank
          marked_is (inl same) = subst (λ (x : Candidate). mark_at marks x.bit ≡ Some x.rank) (sym same) is.marked
          marked_is (inr same) = subst (λ (x : Candidate). mark_at marks x.bit ≡ Some x.rank) (sym same) marked

          by : (l b r : ℕ) → mark_at marks b ≡ Some r → IsIn (l, b) lines ⊎ ((l ≡ line) × (b ≡ bit)) → IsNotBehind found.line found.rank l r
          by l b r mark (inl old) = not_behind_both found.line found.rank c.line c.rank l r lesser.old_behind (is.first l b r old mark)
          by l b r mark (inr new) =
              let at = at_new l b r mark new in
              not_behind_both found.line found.rank line rank l r lesser.new_behind (inr (at.0, omega (arith, at.1)))

-- no instance before one more has such a line
pub none_more : (P : ℕ → Type 0) (count : ℕ) → ((i : ℕ) → i < count → P i) → P count → (i : ℕ) → i < count + 1 → P i
none_more P count old here i less = by (cases_lt i count)
  where
    by : (i < count) ⊎ (count ≤ i) → P i
    by (inl early) = old i early
    by (inr late) = let same : count ≡ i = omega (arith, late, less) in subst P same here
