-- The text behind a word.
use Rattle.std.proofs.Common.{◌≡◌, ◌≢◌, ℕ, Bool, true, false, cond, eqb, eq-eqb, List, [], ◌∷◌, ◌++◌, Option, Some, None, Bor, refl, sym, ap, ◌∙◌}
use Rattle.std.specs.Prelude.{MatchOption}
use Rattle.std.specs.Option.{option_copied}
use Rattle.std.proofs.lemmas.Bool.{eqb-true}
use Rattle.line_forms.specs.Reading.{behind}

some_is : {A : Type 0} (x y : A) → Some x ≡ Some y → x ≡ y
some_is x y e = cc

-- a test that let the value through
pub let_through : {A : Type 0} (b : Bool) (o : Option A) (y : A) → cond b o None ≡ Some y → (b ≡ true) × (o ≡ Some y)
let_through true o y e = (refl, e)
let_through false o y e = absurd cc

pub behind_found : (word text rest : List ℕ) → behind word text ≡ Some rest → text ≡ word ++ rest
unfolding behind
behind_found [] text rest e = some_is text rest e
behind_found (c ∷ word) [] rest e = absurd cc
behind_found (c ∷ word) (b ∷ text) rest e =
    let p = let_through (eqb b c) (behind word text) rest e in
    let heads : b ≡ c = eqb-true b c p.0 in
    let tails : text ≡ word ++ rest = behind_found word text rest p.1 in
    cc

pub behind_again : (word rest : List ℕ) → behind word (word ++ rest) ≡ Some rest
unfolding behind
behind_again [] rest = refl
behind_again (c ∷ word) rest = let same : eqb c c ≡ true = eq-eqb c c refl in rw same (behind_again word rest)

pub none_or_some : {A : Type 0} (o : Option A) → ((x : A) → o ≡ Some x → ⊥) → o ≡ None
none_or_some None no_some = refl
none_or_some (Some x) no_some = absurd (no_some x refl)

pub behind_is : (word text : List ℕ) (r : Option (Bor (List ℕ))) → MatchOption r ((rest : List ℕ) → text ≢ word ++ rest) (λ x. text ≡ word ++ x.now) → option_copied r ≡ behind word text
behind_is word text None h = sym (none_or_some (behind word text) (λ rest e. h rest (behind_found word text rest e)))
behind_is word text (Some x) h = sym (ap (behind word) h ∙ behind_again word x.now)
