-- No more than the given number of parentheses open in front of an expression.
use Rattle.std.proofs.Common.{◌≡◌, ℕ, zero, suc, ◌≤◌, List, [], ◌∷◌, ◌++◌, Some, codes, refl, sym, ap, lit<, arith, subst}
use Rattle.pw_defs.specs.declared.terms.Term.{Term}
use Rattle.pw_defs.specs.declared.terms.Term.TheVariants.{Is}
use Rattle.power_states.specs.ExpressionWords.{Token, word, opens, shuts, both, either, same, HasTokens, none, an_opens, a_shuts, a_word, a_same}
use Rattle.power_states.specs.Expressions.{Language, logic, in_state, ReadsAsLogicTerm, IsOne, compared, grouped, AreBoth, last_both, more_both, AreEither, last_either, more_either, HasNoTerm}
use Rattle.power_states.proofs.OneTerm.{no_opens}
use Rattle.power_states.proofs.TokenReading.{only_tokens}

-- so many of a token, in front of others
abbrev times : {X : Type 0} → X → ℕ → List X → List X
times x zero rest = rest
times x (suc n) rest = x ∷ times x n rest

module _ (language : Language) where
  -- so many parentheses open in the readings
  Fits : ℕ → Type 0
  Fits n = (depth : ℕ) (rest : List Token) (terms : List Term) (left : List Token) → AreEither language depth (times opens n rest) terms left → n ≤ depth

  in_one : (n : ℕ) → Fits n → (depth : ℕ) (rest : List Token) (term : Term) (left : List Token)
      → IsOne language depth (opens ∷ times opens n rest) term left → suc n ≤ depth
  unfolding Fits
  in_one n fits depth rest term left (compared d t l u h) = absurd (no_opens language (times opens n rest) l u h)
  in_one n fits depth rest term left (grouped d t l us h) = let less : n ≤ d = fits d rest us (shuts ∷ l) h in omega arith

  in_both : (n : ℕ) → Fits n → (depth : ℕ) (rest : List Token) (terms : List Term) (left : List Token)
      → AreBoth language depth (opens ∷ times opens n rest) terms left
      → suc n ≤ depth
  in_both n fits depth rest terms left (last_both d t l u h stop) = in_one n fits d rest u l h
  in_both n fits depth rest terms left (more_both d t r l u us h hs) = in_one n fits d rest u (both ∷ r) h

  opened : (n : ℕ) → Fits n
  unfolding Fits
  opened zero depth rest terms left h = omega arith
  opened (suc n) depth rest terms left (last_either d t l us h stop) = in_both n (opened n) d rest us l h
  opened (suc n) depth rest terms left (more_either d t r l us ts h hs) = in_both n (opened n) d rest us (either ∷ r) h

-- a comparison in so many parentheses
abbrev nested : ℕ → List ℕ
nested n = times 40 n (codes "a==b" ++ times 41 n [])

abbrev nested_tokens : ℕ → List Token
nested_tokens n = times opens n (word (codes "a") ∷ same ∷ word (codes "b") ∷ times shuts n [])

-- 101 parentheses are too many
pub too_many_parentheses : HasNoTerm logic (nested 101)
unfolding Fits
too_many_parentheses term h =
    let tokens : Some h.tokens ≡ Some (nested_tokens 101) = sym (only_tokens (nested 101) h.tokens h.cut 300 (lit< tt)) in
    let same_tokens : h.tokens ≡ nested_tokens 101 = cc in
    let less : 101 ≤ 100 =
    opened logic 101 100 (word (codes "a") ∷ same ∷ word (codes "b") ∷ times shuts 101 []) h.parts []
    (subst (λ ts. AreEither logic 100 ts h.parts []) same_tokens h.parts_are) in
    omega arith

many_opens : (n : ℕ) (text : List ℕ) (tokens : List Token) → HasTokens text tokens → HasTokens (times 40 n text) (times opens n tokens)
many_opens zero text tokens h = h
many_opens (suc n) text tokens h = an_opens (times 40 n text) (times opens n tokens) (many_opens n text tokens h)

many_shuts : (n : ℕ) → HasTokens (times 41 n []) (times shuts n [])
many_shuts zero = none
many_shuts (suc n) = a_shuts (times 41 n []) (times shuts n []) (many_shuts n)

one_inward : (n : ℕ) (left : List Token) → times shuts n (shuts ∷ left) ≡ shuts ∷ times shuts n left
one_inward zero left = refl
one_inward (suc n) left = ap (λ ts. shuts ∷ ts) (one_inward n left)

abbrev inner : List Token → List Token
inner left = word (codes "a") ∷ same ∷ word (codes "b") ∷ left

-- the comparison in its parentheses
at_depth : (n : ℕ) (left : List Token) → IsOne logic n (times opens n (inner (times shuts n left))) (Is (codes "a") (codes "b")) left
at_depth zero left = compared zero (inner left) left (Is (codes "a") (codes "b")) (in_state (codes "a") (codes "b") left)
at_depth (suc n) left =
    grouped n (times opens n (inner (shuts ∷ times shuts n left))) left (Is (codes "a") (codes "b") ∷ [])
    (
    last_either n (times opens n (inner (shuts ∷ times shuts n left))) (shuts ∷ left) (Is (codes "a") (codes "b") ∷ [])
    (
    last_both n (times opens n (inner (shuts ∷ times shuts n left))) (shuts ∷ left) (Is (codes "a") (codes "b"))
    (subst (λ ts. IsOne logic n (times opens n (inner ts)) (Is (codes "a") (codes "b")) (shuts ∷ left)) (one_inward n left) (at_depth n (shuts ∷ left))) refl
    )
    refl
    )

-- 100 parentheses are not
pub hundred_parentheses : ReadsAsLogicTerm (nested 100) (Is (codes "a") (codes "b"))
hundred_parentheses =
    record {
      tokens = nested_tokens 100;
      cut =
          many_opens 100 (codes "a==b" ++ times 41 100 []) (inner (times shuts 100 []))
          (
          a_word 97 [] (codes "==b" ++ times 41 100 []) (same ∷ word (codes "b") ∷ times shuts 100 []) refl refl
          (
          a_same (codes "b" ++ times 41 100 []) (word (codes "b") ∷ times shuts 100 [])
          (a_word 98 [] (times 41 100 []) (times shuts 100 []) refl refl (many_shuts 100))
          )
          );
      parts = Is (codes "a") (codes "b") ∷ [];
      parts_are =
          last_either 100 (nested_tokens 100) [] (Is (codes "a") (codes "b") ∷ [])
          (last_both 100 (nested_tokens 100) [] (Is (codes "a") (codes "b")) (at_depth 100 []) refl) refl;
      joined = refl;
    }
