-- Words are looked for among those of their length, where they may be reserved.
use Rattle.std.proofs.Common.{◌≡◌, ◌≢◌, ℕ, ◌==◌, Bool, true, false, ◌||◌, cond, List, [], ◌∷◌, length, filter, codes, refl, sym, ap, ◌∙◌, arith}
use Rattle.std.specs.List.{list_all, list_any}
use Rattle.list_defs.specs.Members.{same_name}
use Rattle.list_defs.proofs.NameLemmas.{same_name-equal}
use Rattle.std.proofs.lemmas.Bool.{and_parts, false≢true}
use Rattle.net_text.specs.DirectWords.{begins_small}
use Rattle.net_text.proofs.ByteLaws.{pass}
use Rattle.net_text.specs.NetlistTokens.{Name, left_out_words, word_class}

-- the words of a length
abbrev pub words_of : ℕ → List (List ℕ) → List (List ℕ)
words_of n words = filter (λ w. length w == n) words

unequal : (a b : ℕ) → (a == b) ≡ false → a ≢ b
unequal a b e same = grind arith

other : (word w : List ℕ) → (length w == length word) ≡ false → same_name word w ≡ true → ⊥
other word w e same = unequal (length w) (length word) e (ap length (sym (same_name-equal word w same)))

pub among_length : (word : List ℕ) (words : List (List ℕ)) → list_any (same_name word) words ≡ list_any (same_name word) (words_of (length word) words)
among_length word [] = refl
among_length word (w ∷ words) = by (length w == length word) refl (same_name word w) refl (among_length word words)
  where
    by : (long : Bool) → (length w == length word) ≡ long → (same : Bool) → same_name word w ≡ same
        → list_any (same_name word) words ≡ list_any (same_name word) (words_of (length word) words)
        → (same_name word w || list_any (same_name word) words) ≡ list_any (same_name word) (cond (length w == length word) (w ∷ words_of (length word) words) (words_of (length word) words))
    by true e same s rest = rw e (ap (λ b. same_name word w || b) rest)
    by false e false s rest = rw (e, s) rest
    by false e true s rest = absurd (other word w e s)

-- ---- words that begin otherwise than the reserved ones

module _ (word : List ℕ) (capital : begins_small word ≡ false) where
  differs : (w : List ℕ) → begins_small w ≡ true → same_name word w ≡ false
  differs w small = by (same_name word w) refl
    where
      by : (b : Bool) → same_name word w ≡ b → b ≡ false
      by true e = absurd (false≢true (sym capital ∙ ap begins_small (same_name-equal word w e) ∙ small))
      by false e = refl

  none_among : (words : List (List ℕ)) → list_all begins_small words ≡ true → list_any (same_name word) words ≡ false
  none_among [] small = refl
  none_among (w ∷ words) small =
      let parts = and_parts (begins_small w) (list_all begins_small words) small in
      rw (differs w parts.0) (none_among words parts.1)

  not_left_out : list_any (same_name word) left_out_words ≡ false
  unfolding left_out_words
  not_left_out = none_among left_out_words refl

  pub not_reserved : word_class word ≡ Name
  unfolding word_class
  not_reserved =
      pass (same_name word (codes "module")) _ _ _ (differs (codes "module") refl)
      (pass (same_name word (codes "endmodule")) _ _ _ (differs (codes "endmodule") refl)
      (pass (same_name word (codes "input")) _ _ _ (differs (codes "input") refl)
      (pass (same_name word (codes "output")) _ _ _ (differs (codes "output") refl)
      (pass (same_name word (codes "inout")) _ _ _ (differs (codes "inout") refl)
      (pass (same_name word (codes "wire")) _ _ _ (differs (codes "wire") refl)
      (pass (same_name word (codes "assign")) _ _ _ (differs (codes "assign") refl)
      (pass (list_any (same_name word) left_out_words) _ _ _ not_left_out refl)))))))
