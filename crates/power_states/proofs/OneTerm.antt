-- A text is one term at most.
use Rattle.std.proofs.Common.{◌≡◌, ℕ, Bool, false, List, [], ◌∷◌, refl, sym, ◌∙◌, ap, ap₂, subst}
use Rattle.std.proofs.lemmas.Bool.{false≢true}
use Rattle.pw_defs.specs.declared.terms.Term.{Term}
use Rattle.pw_defs.specs.declared.terms.Term.TheVariants.{Volt, Not}
use Rattle.pw_defs.specs.declared.values.Value.TheVariants.{On as OnValue}
use Rattle.power_states.specs.ExpressionWords.{Token, opens, shuts, bang, both, either}
use Rattle.power_states.specs.Expressions.{Language, AreVoltageWords, closes, plain, listed, IsSupplyValue, off, on, at, quoted, IsFunction, of_power, of_ground, IsComparison, in_state, not_in_state, has, has_not, is_both, is_either, all_of, any_of, IsOne, compared, negated, grouped, AreBoth, last_both, more_both, AreEither, last_either, more_either}
use Rattle.power_states.specs.Laws.{ExpressionsReadInOneWay}
use Rattle.power_states.proofs.TokenReading.{one_cut}
use Rattle.upf_commands.proofs.OneVoltage.{one_voltage}
use Rattle.upf_commands.specs.Voltages.{IsVoltage}

-- two readings of what stands first: the same was read, and the same is left
pub record AreOne {X : Type 0} (x y : X) (behind more : List Token) : Type 0 where
  pub read : x ≡ y
  pub left : behind ≡ more

one_words : (text : List Token) (words others : List (List ℕ)) (left more : List Token) → AreVoltageWords text words left → AreVoltageWords text others more
    → AreOne words others left more
one_words text words others left more (closes l) (closes m) = record { read = refl; left = refl }
one_words text words others left more (plain w rest l ws h) (plain v r m vs k) =
    let e = one_words rest ws vs l m h k in record { read = ap (λ us. w ∷ us) e.read; left = e.left }
one_words text words others left more (listed w rest l ws h) (listed v r m vs k) =
    let e = one_words rest ws vs l m h k in record { read = ap (λ us. w ∷ us) e.read; left = e.left }

one_value : (p : Bool) (text : List Token) (term other : Term) (left more : List Token) → IsSupplyValue p text term left → IsSupplyValue p text other more
    → AreOne term other left more
one_value p text term other left more (off l) (off m) = record { read = refl; left = refl }
one_value p text term other left more (on l) (on m) = record { read = refl; left = refl }
one_value p text term other left more (at rest l ws v h i) (at r m us w k j) =
    let e = one_words rest ws us l m h k in
    record { read = ap (λ x. Volt p (OnValue x)) (one_voltage us v w (subst (λ ys. IsVoltage ys v) e.read i) j); left = e.left }
one_value p text term other left more (quoted rest l ws v h i) (quoted r m us w k j) =
    let e = one_words rest ws us l m h k in
    record { read = ap (λ x. Volt p (OnValue x)) (one_voltage us v w (subst (λ ys. IsVoltage ys v) e.read i) j); left = e.left }

one_function : (name : List ℕ) (p q : Bool) → IsFunction name p → IsFunction name q → p ≡ q
one_function name p q of_power of_power = refl
one_function name p q of_ground of_ground = refl

one_comparison : (language : Language) (text : List Token) (term other : Term) (left more : List Token) → IsComparison language text term left
    → IsComparison language text other more → AreOne term other left more
one_comparison language text term other left more (in_state o s l) (in_state p t m) = record { read = refl; left = refl }
one_comparison language text term other left more (not_in_state o s l) (not_in_state p t m) = record { read = refl; left = refl }
one_comparison language text term other left more (has f p rest l t fp h) (has g q r m u gq k) =
    let same : p ≡ q = one_function f p q fp gq in
    one_value q rest t u l m (subst (λ x. IsSupplyValue x rest t l) same h) k
one_comparison language text term other left more (has_not f p rest l t fp h) (has_not g q r m u gq k) =
    let same : p ≡ q = one_function f p q fp gq in
    let e = one_value q rest t u l m (subst (λ x. IsSupplyValue x rest t l) same h) k in
    record { read = ap Not e.read; left = e.left }

both_stops : (left rest : List Token) → left ≡ both ∷ rest → is_both left ≡ false → ⊥
both_stops left rest e stop = false≢true (sym stop ∙ ap is_both e)

either_stops : (left rest : List Token) → left ≡ either ∷ rest → is_either left ≡ false → ⊥
either_stops left rest e stop = false≢true (sym stop ∙ ap is_either e)

behind_mark : (mark : Token) (rest more : List Token) → mark ∷ rest ≡ mark ∷ more → rest ≡ more
behind_mark mark rest more e = cc

-- no comparison begins with a `!` or a `(`
no_bang : (language : Language) (text left : List Token) (term : Term) → IsComparison language (bang ∷ text) term left → ⊥
no_bang language text left term h = elim h [ ]

pub no_opens : (language : Language) (text left : List Token) (term : Term) → IsComparison language (opens ∷ text) term left → ⊥
no_opens language text left term h = elim h [ ]

mutual
  one_one : (language : Language) (depth : ℕ) (text : List Token) (term other : Term) (left more : List Token) → IsOne language depth text term left
      → IsOne language depth text other more → AreOne term other left more
  one_one language depth text term other left more (compared d t l u h) (compared d' t' m v k) = one_comparison language t u v l m h k
  one_one language depth text term other left more (compared d t l u h) (negated d' t' m v k) = absurd (no_bang language t' l u h)
  one_one language depth text term other left more (compared d t l u h) (grouped d' t' m ps k) = absurd (no_opens language t' l u h)
  one_one language depth text term other left more (negated d t l u h) (compared d' t' m v k) = absurd (no_bang language t m v k)
  one_one language depth text term other left more (negated d t l u h) (negated d' t' m v k) =
      let e = one_one language d t u v l m h k in record { read = ap Not e.read; left = e.left }
  one_one language depth text term other left more (grouped d t l us h) (compared d' t' m v k) = absurd (no_opens language t m v k)
  one_one language depth text term other left more (grouped d t l us h) (grouped d' t' m vs k) =
      let e = one_either language d t us vs (shuts ∷ l) (shuts ∷ m) h k in record { read = ap any_of e.read; left = behind_mark shuts l m e.left }

  one_both : (language : Language) (depth : ℕ) (text : List Token) (terms others : List Term) (left more : List Token) → AreBoth language depth text terms left
      → AreBoth language depth text others more → AreOne terms others left more
  one_both language depth text terms others left more (last_both d t l u h stop) (last_both d' t' m v k halt) =
      let e = one_one language d t u v l m h k in record { read = ap (λ x. x ∷ []) e.read; left = e.left }
  one_both language depth text terms others left more (last_both d t l u h stop) (more_both d' t' r m v vs k ks) =
      let e = one_one language d t u v l (both ∷ r) h k in absurd (both_stops l r e.left stop)
  one_both language depth text terms others left more (more_both d t r l u us h hs) (last_both d' t' m v k halt) =
      let e = one_one language d t u v (both ∷ r) m h k in absurd (both_stops m r (sym e.left) halt)
  one_both language depth text terms others left more (more_both d t r l u us h hs) (more_both d' t' q m v vs k ks) =
      let e = one_one language d t u v (both ∷ r) (both ∷ q) h k in
      let same : r ≡ q = behind_mark both r q e.left in
      let f = one_both language d r us vs l m hs (subst (λ x. AreBoth language d x vs m) (sym same) ks) in
      record { read = ap₂ (λ x xs. x ∷ xs) e.read f.read; left = f.left }

  one_either : (language : Language) (depth : ℕ) (text : List Token) (terms others : List Term) (left more : List Token)
      → AreEither language depth text terms left
      → AreEither language depth text others more → AreOne terms others left more
  one_either language depth text terms others left more (last_either d t l us h stop) (last_either d' t' m vs k halt) =
      let e = one_both language d t us vs l m h k in record { read = ap (λ xs. all_of xs ∷ []) e.read; left = e.left }
  one_either language depth text terms others left more (last_either d t l us h stop) (more_either d' t' r m vs ws k ks) =
      let e = one_both language d t us vs l (either ∷ r) h k in absurd (either_stops l r e.left stop)
  one_either language depth text terms others left more (more_either d t r l us ts h hs) (last_either d' t' m vs k halt) =
      let e = one_both language d t us vs (either ∷ r) m h k in absurd (either_stops m r (sym e.left) halt)
  one_either language depth text terms others left more (more_either d t r l us ts h hs) (more_either d' t' q m vs ws k ks) =
      let e = one_both language d t us vs (either ∷ r) (either ∷ q) h k in
      let same : r ≡ q = behind_mark either r q e.left in
      let f = one_either language d r ts ws l m hs (subst (λ x. AreEither language d x ws m) (sym same) ks) in
      record { read = ap₂ (λ xs ys. all_of xs ∷ ys) e.read f.read; left = f.left }

pub one_term : ExpressionsReadInOneWay
one_term language text t u h k =
    let same : h.tokens ≡ k.tokens = one_cut text h.tokens k.tokens h.cut k.cut in
    let e = one_either language 100 k.tokens h.parts k.parts [] [] (subst (λ x. AreEither language 100 x h.parts []) same h.parts_are) k.parts_are in
    h.joined ∙ ap any_of e.read ∙ sym k.joined
