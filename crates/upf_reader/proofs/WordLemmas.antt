-- What tests of words say.
use Rattle.std.proofs.Common.{◌≡◌, ◌≢◌, ◌↔◌, ℕ, ◌+◌, ◌-◌, ◌==◌, Bool, true, false, not, List, [], ◌∷◌, ◌++◌, Option, Some, None, MatchOption, IsTrue, codes, length, length-append, take, drop, refl, sym, ap, ◌∙◌, subst, eqb, arith, bytes_eq, Bor}
use Rattle.std.specs.Cmp.Lexicographic.{pointwise}
use Rattle.std.specs.List.{list_any}
use Rattle.std.proofs.lemmas.Bool.{true≢false, eqb-true, eq-eqb}
use Rattle.std.proofs.lemmas.Bool.Decides.{Decides-eqb}
use Rattle.std.proofs.lemmas.Slice.Eq.{strip_suffix_is}
use Rattle.list_defs.proofs.NameLemmas.{IsIn-list_any, list_any-IsIn}
use Rattle.list_defs.specs.Members.{IsIn}
use Rattle.tcl_words.proofs.ListLaws.{one_parting, parts_or_fault}
use Rattle.tcl_words.specs.ListWords.{PartsInto}
use Rattle.upf_commands.specs.CommandWords.{IsOneName}
use Rattle.upf_commands.specs.Values.{Handle, primary, default_isolation, IsHandle}
use Rattle.upf_reader.specs.Readings.{HasParting}
use Rattle.upf_reader.specs.Tests.{IsHandleWord}
use Rattle.upf_reader.specs.declared.partings.Parting.{Parting}
use Rattle.upf_reader.specs.declared.partings.Parting.TheVariants.{Words, Unclosed, AfterWord}

-- a test says yes, and rightly; or no, and rightly
pub says_yes : {P : Type 0} (b : Bool) → b ≡ true → P → IsTrue b ↔ P
says_yes b e p = (λ _. p, λ _. e)

pub says_no : {P : Type 0} (b : Bool) → b ≡ false → ¬ P → IsTrue b ↔ P
says_no b e n = (λ t. absurd (true≢false (sym t ∙ e)), λ p. absurd (n p))

-- something stands before an ending
abbrev pub HasEnding : List ℕ → List ℕ → Type 0
HasEnding word ending = (front : List ℕ) × (front ≢ []) × (word ≡ front ++ ending)

same_length : (a b p : List ℕ) → a ++ p ≡ b ++ p → length a ≡ length b
same_length a b p e = let same : length (a ++ p) ≡ length (b ++ p) = ap length e in omega (arith, length-append a p, length-append b p)

ending_so : (word ending : List ℕ) (b : Bool) (r : Option (Bor (List ℕ))) (front : Bor (List ℕ)) → r ≡ Some front
    → MatchOption r ((f : List ℕ) → word ≢ f ++ ending) (λ x. word ≡ x.now ++ ending) → b ≡ (length front.now == 0) → IsTrue (not b) ↔ HasEnding word ending
ending_so word ending b r front is h e = by (length front.now == 0) refl (subst (λ r. MatchOption r ((f : List ℕ) → word ≢ f ++ ending) (λ x. word ≡ x.now ++ ending)) is h)
  where
    none_before : length front.now ≡ 0 → word ≡ front.now ++ ending → ¬ HasEnding word ending
    none_before zero split other =
        let same : length other.0 ≡ length front.now = same_length other.0 front.now ending (sym other.2 ∙ split) in
        other.1 (empty other.0 (same ∙ zero))
      where
        empty : (xs : List ℕ) → length xs ≡ 0 → xs ≡ []
        empty [] e = refl
        empty (x ∷ xs) e = absurd (omega arith)

    by : (t : Bool) → (length front.now == 0) ≡ t → word ≡ front.now ++ ending → IsTrue (not b) ↔ HasEnding word ending
    by true z split = says_no (not b) (ap not (e ∙ z)) (none_before (eqb-true (length front.now) 0 z) split)
    by false z split =
        says_yes (not b) (ap not (e ∙ z)) (front.now, λ none. true≢false (sym (eq-eqb (length front.now) 0 (ap length none)) ∙ z), split)

pub ends_so : (word ending : List ℕ) (b : Bool) (r : Option (Bor (List ℕ))) (front : Bor (List ℕ)) → r ≡ Some front
    → MatchOption r (pointwise eqb (drop (length word - length ending) word) ending ≡ false)
    (λ x.
    (pointwise eqb (drop (length word - length ending) word) ending ≡ true) × (x.now ≡ take (length word - length ending) word)
    × (length x.now + length ending ≡ length word)) → b ≡ (length front.now == 0) → IsTrue (not b) ↔ HasEnding word ending
ends_so word ending b r front is h e = ending_so word ending b r front is (strip_suffix_is Decides-eqb word ending r h) e

pub ends_not : (word ending : List ℕ) (r : Option (Bor (List ℕ))) → r ≡ None
    → MatchOption r (pointwise eqb (drop (length word - length ending) word) ending ≡ false)
    (λ x.
    (pointwise eqb (drop (length word - length ending) word) ending ≡ true) × (x.now ≡ take (length word - length ending) word)
    × (length x.now + length ending ≡ length word)) → IsTrue false ↔ HasEnding word ending
ends_not word ending r is h =
    let never = subst (λ r. MatchOption r ((f : List ℕ) → word ≢ f ++ ending) (λ x. word ≡ x.now ++ ending)) is (strip_suffix_is Decides-eqb word ending r h) in
    says_no false refl (λ other. never other.0 other.2)

pub handle_so : (word : List ℕ) (b : Bool) → ¬ HasEnding word (codes ".primary") → IsTrue b ↔ HasEnding word (codes ".default_isolation")
    → IsTrue b ↔ IsHandleWord word
handle_so word b none h = (λ t. let e = h.0 t in (e.0, default_isolation, record { named = e.1; spelled = e.2 }), λ is. by is.0 is.1 is.2)
  where
    by : (domain : List ℕ) (handle : Handle) → IsHandle word domain handle → b ≡ true
    by domain primary is = absurd (none (domain, is.named, is.spelled))
    by domain default_isolation is = h.1 (domain, is.named, is.spelled)

pub primary_so : (word : List ℕ) → HasEnding word (codes ".primary") → IsTrue true ↔ IsHandleWord word
primary_so word e = says_yes true refl (e.0, primary, record { named = e.1; spelled = e.2 })

pub one_of_so : (word : List ℕ) (texts : List (List ℕ)) (b : Bool) → b ≡ list_any (bytes_eq word) texts → IsTrue b ↔ IsIn word texts
one_of_so word texts b e = (λ t. IsIn-list_any word texts (sym e ∙ t), λ there. e ∙ list_any-IsIn word texts there)

pub one_name_so : (text : List ℕ) (words : List (List ℕ)) (n : ℕ) → PartsInto text words → n ≡ length words → IsTrue (eqb n 1) ↔ IsOneName text
one_name_so text words n h e = (λ t. by words h (sym e ∙ eqb-true n 1 t), λ one. eq-eqb n 1 (e ∙ ap length (one_parting text words (one.0 ∷ []) h one.1)))
  where
    by : (ws : List (List ℕ)) → PartsInto text ws → length ws ≡ 1 → IsOneName text
    by [] h e = absurd (omega arith)
    by (name ∷ []) h e = (name, h)
    by (name ∷ other ∷ more) h e = absurd (omega arith)

pub no_name_so : (text : List ℕ) (p : Parting) → HasParting text p → ((words : List (List ℕ)) → p ≡ Words words → ⊥) → IsTrue false ↔ IsOneName text
no_name_so text (Words words) h other = absurd (other words refl)
no_name_so text Unclosed h other = says_no false refl (λ one. parts_or_fault text (one.0 ∷ []) _ one.1 h.1)
no_name_so text AfterWord h other = says_no false refl (λ one. parts_or_fault text (one.0 ∷ []) _ one.1 h.1)
