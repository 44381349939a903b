-- The walk from a bit is unique, passes no bit twice, and so is no longer than there are bits.
use Rattle.std.proofs.Common.{◌≡◌, ℕ, ◌<◌, ◌≤◌, Bool, true, false, eqb, List, [], ◌∷◌, length, Option, Some, None, option_map, inl, inr, refl, sym, ap, subst, arith}
use Rattle.std.specs.List.{AllByRecursion, IsDistinct, list_any, slice_get}
use Rattle.std.proofs.lemmas.Bool.{eqb-true, or_cases}
use Rattle.std.proofs.lemmas.Map.Steps.{length-le_from_distinct_below}
use Rattle.std.proofs.lemmas.Option.{slice_get_within}
use Rattle.pw_defs.specs.declared.design.Bit.{Bit}
use Rattle.pw_defs.specs.declared.design.Feeder.{Feeder}
use Rattle.design_defs.specs.Walks.{IsWalk, WalksEnd, feeder_at, next_of}

-- a bit that has a feeder is one of the bits
pub is_bit : (bits : List Bit) (n : ℕ) (f : Feeder) → feeder_at bits n ≡ Some f → n < length bits
is_bit bits n f e = found (slice_get bits n) refl e
  where
    found : (o : Option Bit) → slice_get bits n ≡ o → option_map (λ (b : Bit). b.feeder) o ≡ Some f → n < length bits
    found None e h = cc
    found (Some b) e h = slice_get_within bits n b e

-- the walk from a bit begins at one of the bits
first_is_bit : (bits : List Bit) (n : ℕ) (passed : List ℕ) (end : Feeder) → IsWalk bits n passed end → n < length bits
first_is_bit bits _ _ _ (IsWalk.ends n end e none) = is_bit bits n end e
first_is_bit bits _ _ _ (IsWalk.goes n next f end rest e more walk) = is_bit bits n f e

-- there is one walk from a bit
pub one_walk : (bits : List Bit) (n m : ℕ) (p q : List ℕ) (e f : Feeder) → n ≡ m → IsWalk bits n p e → IsWalk bits m q f → (p ≡ q) × (e ≡ f)
one_walk bits _ _ _ _ _ _ same (IsWalk.ends n end e none) (IsWalk.ends m other f none') = let ends : end ≡ other = cc in (cc, ends)
one_walk bits _ _ _ _ _ _ same (IsWalk.ends n end e none) (IsWalk.goes m next feeder other rest f more walk) = cc
one_walk bits _ _ _ _ _ _ same (IsWalk.goes n next feeder end rest e more walk) (IsWalk.ends m other f none) = cc
one_walk bits _ _ _ _ _ _ same (IsWalk.goes n next f end p e more walk) (IsWalk.goes m next' f' end' q e' more' walk') =
    let on : next ≡ next' = cc in
    let rest = one_walk bits next next' p q end end' on walk walk' in
    let ps : p ≡ q = rest.0 in
    (cc, rest.1)

-- each bit that a walk passes is one of the bits
passes_bits : (bits : List Bit) (n : ℕ) (p : List ℕ) (e : Feeder) → IsWalk bits n p e → (q : ℕ) → list_any (eqb q) p ≡ true → q < length bits
passes_bits bits _ _ _ (IsWalk.ends n end e none) q there =
    elim (or_cases (eqb q n) false there) [ inl here ↦ (let same : q ≡ n = eqb-true q n here in let within = is_bit bits n end e in omega arith) | inr nowhere ↦ cc ]
passes_bits bits _ _ _ (IsWalk.goes n next f end rest e more walk) q there =
    elim (or_cases (eqb q n) (list_any (eqb q) rest) there)
    [ inl here ↦ (let same : q ≡ n = eqb-true q n here in let within = is_bit bits n f e in omega arith) | inr later ↦ passes_bits bits next rest end walk q later ]

-- no walk is longer than itself
off_start : (bits : List Bit) (m n : ℕ) (p : List ℕ) (e : Feeder) → IsWalk bits n p e
    → ((q : List ℕ) (f : Feeder) → IsWalk bits m q f → length p < length q) → eqb m n ≡ false
off_start bits m n p e walk longer = different (eqb m n) refl
  where
    different : (b : Bool) → eqb m n ≡ b → b ≡ false
    different false test = refl
    different true test =
        let P : ℕ → Type 0 = λ k. IsWalk bits k p e in
        let same : n ≡ m = sym (eqb-true m n test) in
        absurd (omega (arith, longer p e (subst P same walk)))

-- a bit from which every walk is longer than this one isn't on it
off_walk : (bits : List Bit) (m : ℕ) (n : ℕ) (p : List ℕ) (e : Feeder) → IsWalk bits n p e
    → ((q : List ℕ) (f : Feeder) → IsWalk bits m q f → length p < length q) → AllByRecursion (λ y. eqb m y ≡ false) p
off_walk bits m _ _ _ (IsWalk.ends n end e none) longer = (off_start bits m n (n ∷ []) end (IsWalk.ends n end e none) longer, tt)
off_walk bits m _ _ _ (IsWalk.goes n next f end rest e more walk) longer = (
  off_start bits m n (n ∷ rest) end (IsWalk.goes n next f end rest e more walk) longer,
  off_walk bits m next rest end walk (λ q g w. omega (arith, longer q g w)),
)

-- a walk passes no bit twice
distinct : (bits : List Bit) (n : ℕ) (p : List ℕ) (e : Feeder) → IsWalk bits n p e → IsDistinct eqb p
unfolding IsDistinct
distinct bits _ _ _ (IsWalk.ends n end e none) = (tt, tt)
distinct bits _ _ _ (IsWalk.goes n next f end rest e more walk) = (
  off_walk bits n next rest end walk (λ q g w. omega (arith, ap length (one_walk bits n n (n ∷ rest) q end g refl (IsWalk.goes n next f end rest e more walk) w).0)),
  distinct bits next rest end walk,
)

-- a walk is no longer than there are bits
pub length_walk : (bits : List Bit) (n : ℕ) (p : List ℕ) (e : Feeder) → IsWalk bits n p e → length p ≤ length bits
length_walk bits n p e walk = length-le_from_distinct_below p (length bits) (distinct bits n p e walk) (passes_bits bits n p e walk)

-- a walk goes on at one of the bits
pub next_is_bit : (bits : List Bit) → WalksEnd bits → (n next : ℕ) (f : Feeder) → feeder_at bits n ≡ Some f → next_of f ≡ Some next → next < length bits
next_is_bit bits walks n next f e more = inside (walks n (is_bit bits n f e)).0 (walks n (is_bit bits n f e)).1 n refl (walks n (is_bit bits n f e)).2
  where
    inside : (p : List ℕ) (end : Feeder) (m : ℕ) → n ≡ m → IsWalk bits m p end → next < length bits
    inside _ _ _ same (IsWalk.ends m end e' none) = cc
    inside _ _ _ same (IsWalk.goes m next' f' end rest e' more' walk) =
        let on : next ≡ next' = cc in
        let within = first_is_bit bits next' rest end walk in
        omega arith
