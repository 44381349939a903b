-- The words of a line are told apart in one way.
use Rattle.std.proofs.Common.{◌≡◌, ℕ, zero, suc, Bool, true, false, ◌&&◌, List, [], ◌∷◌, ◌++◌, inl, inr, Option, Some, None, Result, Ok, Err, is_some, refl, sym, ◌∙◌, ap, length, ◌<◌, ◌≤◌, arith}
use Rattle.std.proofs.lemmas.Bool.{false≢true, true≢false}
use Rattle.pw_defs.specs.declared.faults.TclFault.{TclFault}
use Rattle.tcl_words.proofs.ListLaws.{parting, parts_so, only_parts}
use Rattle.upf_commands.specs.CommandRows.{OptionRow, CommandRow, Arity, value, flag, truth, means, state}
use Rattle.upf_commands.specs.CommandWords.{Item, own, given, unknown, lacking, is_option, option_of, goes_on, IsOneName, AreItems, none, owned, no_option, alone, standing, said, unsaid, valued, stated, stated_apart, lacks}
use Rattle.upf_commands.specs.Values.{truth_of, truth_text}

-- whether a list has one word
abbrev pub has_one : Result (List (List ℕ)) TclFault → Bool
has_one (Ok []) = false
has_one (Ok (word ∷ [])) = true
has_one (Ok (word ∷ other ∷ more)) = false
has_one (Err fault) = false

one_name : (text : List ℕ) → IsOneName text → has_one (parting text) ≡ true
one_name text h = rw (only_parts text (h.0 ∷ []) h.1) refl

name_one : (text : List ℕ) → has_one (parting text) ≡ true → IsOneName text
name_one text e = by (parting text) refl e
  where
    by : (read : Result (List (List ℕ)) TclFault) → parting text ≡ read → has_one read ≡ true → IsOneName text
    by (Ok []) f h = absurd (false≢true h)
    by (Ok (name ∷ [])) f h = (name, parts_so text (name ∷ []) f)
    by (Ok (name ∷ other ∷ more)) f h = absurd (false≢true h)
    by (Err fault) f h = absurd (false≢true h)

abbrev Later : Type 0
Later = List (List ℕ) → List Item

abbrev read_value : Later → OptionRow → List (List ℕ) → List Item
read_value later o [] = lacking o ∷ []
read_value later o (next ∷ rest) = given o next ∷ later rest

abbrev read_said : Later → OptionRow → List ℕ → List (List ℕ) → Option Bool → List Item
read_said later o next rest None = given o (truth_text true) ∷ later (next ∷ rest)
read_said later o next rest (Some t) = given o (truth_text t) ∷ later rest

abbrev read_truth : Later → OptionRow → List (List ℕ) → List Item
read_truth later o [] = given o (truth_text true) ∷ later []
read_truth later o (next ∷ rest) = read_said later o next rest (truth_of next)

abbrev read_apart : Later → OptionRow → List ℕ → List (List ℕ) → Bool → List Item
read_apart later o next rest false = given o next ∷ later rest
read_apart later o next [] true = given o next ∷ later []
read_apart later o next (more ∷ rest) true = given o (next ++ 32 ∷ more) ∷ later rest

abbrev read_state : CommandRow → Later → OptionRow → List (List ℕ) → List Item
read_state row later o [] = lacking o ∷ []
read_state row later o (next ∷ rest) = read_apart later o next rest (has_one (parting next) && goes_on row rest)

abbrev read_arity : CommandRow → Later → OptionRow → List (List ℕ) → Arity → List Item
read_arity row later o rest value = read_value later o rest
read_arity row later o rest flag = given o (truth_text true) ∷ later rest
read_arity row later o rest truth = read_truth later o rest
read_arity row later o rest (means text) = given o text ∷ later rest
read_arity row later o rest state = read_state row later o rest

abbrev read_option : CommandRow → Later → List ℕ → List (List ℕ) → Option OptionRow → List Item
read_option row later word rest None = unknown word ∷ later rest
read_option row later word rest (Some o) = read_arity row later o rest o.arity

-- the items of the words, with fuel for as many words
abbrev pub read_items : CommandRow → ℕ → List (List ℕ) → List Item
read_items row zero words = []
read_items row (suc n) [] = []
read_items row (suc n) (word ∷ rest) =
    elim (is_option word) [ true ↦ read_option row (read_items row n) word rest (option_of row word) | false ↦ own word ∷ read_items row n rest ]

and_false : (t u : Bool) → u ≡ false → (t && u) ≡ false
and_false true u h = h
and_false false u h = refl

not_one : (next : List ℕ) → ¬ IsOneName next → has_one (parting next) ≡ false
not_one next h = by (has_one (parting next)) refl
  where
    by : (t : Bool) → has_one (parting next) ≡ t → t ≡ false
    by true e = absurd (h (name_one next e))
    by false e = refl

-- how an option is read
reads_arity : (row : CommandRow) (word : List ℕ) (rest : List (List ℕ)) (n : ℕ) (o : OptionRow) (a : Arity) → is_option word ≡ true
    → option_of row word ≡ Some o → o.arity ≡ a
    → read_items row (suc n) (word ∷ rest) ≡ read_arity row (read_items row n) o rest a
reads_arity row word rest n o a e f g = rw (e, read_items, f) (ap (read_arity row (read_items row n) o rest) g)

unsaid_so : (later : Later) (o : OptionRow) (next : List ℕ) (rest : List (List ℕ)) (t : Option Bool) → is_some t ≡ false
    → read_said later o next rest t ≡ given o (truth_text true) ∷ later (next ∷ rest)
unsaid_so later o next rest None e = refl
unsaid_so later o next rest (Some t) e = absurd (true≢false e)

module _ (row : CommandRow) where
  -- each list of items is the one that is computed
  pub only_items : (words : List (List ℕ)) (items : List Item) → AreItems row words items → (n : ℕ) → length words < n → read_items row n words ≡ items
  only_items words items h zero enough = absurd (omega arith)
  only_items words items none (suc n) enough = refl
  only_items words items (owned word rest more e h) (suc n) enough = rw (e, read_items) (ap (λ is. own word ∷ is) (only_items rest more h n (omega arith)))
  only_items words items (no_option word rest more e f h) (suc n) enough =
      rw (e, read_items, f) (ap (λ is. unknown word ∷ is) (only_items rest more h n (omega arith)))
  only_items words items (alone word rest more o e f a h) (suc n) enough =
      reads_arity row word rest n o flag e f a ∙ ap (λ is. given o (truth_text true) ∷ is) (only_items rest more h n (omega arith))
  only_items words items (standing word rest more o text e f a h) (suc n) enough =
      reads_arity row word rest n o (means text) e f a ∙ ap (λ is. given o text ∷ is) (only_items rest more h n (omega arith))
  only_items words items (said word next rest more o t e f a s h) (suc n) enough =
      reads_arity row word (next ∷ rest) n o truth e f a ∙ ap (read_said (read_items row n) o next rest) s
      ∙ ap (λ is. given o (truth_text t) ∷ is) (only_items rest more h n (omega arith))
  only_items words items (unsaid word [] more o e f a s h) (suc n) enough =
      reads_arity row word [] n o truth e f a ∙ ap (λ is. given o (truth_text true) ∷ is) (only_items [] more h n (omega arith))
  only_items words items (unsaid word (next ∷ rest) more o e f a s h) (suc n) enough =
      reads_arity row word (next ∷ rest) n o truth e f a ∙ unsaid_so (read_items row n) o next rest (truth_of next) s
      ∙ ap (λ is. given o (truth_text true) ∷ is) (only_items (next ∷ rest) more h n (omega arith))
  only_items words items (valued word next rest more o e f a h) (suc n) enough =
      reads_arity row word (next ∷ rest) n o value e f a ∙ ap (λ is. given o next ∷ is) (only_items rest more h n (omega arith))
  only_items words items (stated word next rest more o e f a (inl other) h) (suc n) enough =
      reads_arity row word (next ∷ rest) n o state e f a ∙ ap (λ t. read_apart (read_items row n) o next rest (t && goes_on row rest)) (not_one next other)
      ∙ ap (λ is. given o next ∷ is) (only_items rest more h n (omega arith))
  only_items words items (stated word next rest more o e f a (inr stays) h) (suc n) enough =
      reads_arity row word (next ∷ rest) n o state e f a
      ∙ ap (read_apart (read_items row n) o next rest) (and_false (has_one (parting next)) (goes_on row rest) stays)
      ∙ ap (λ is. given o next ∷ is) (only_items rest more h n (omega arith))
  only_items words items (stated_apart word next more rest later o e f a one goes h) (suc n) enough =
      reads_arity row word (next ∷ more ∷ rest) n o state e f a
      ∙ ap (λ t. read_apart (read_items row n) o next (more ∷ rest) (t && goes_on row (more ∷ rest))) (one_name next one)
      ∙ ap (read_apart (read_items row n) o next (more ∷ rest)) goes
      ∙ ap (λ is. given o (next ++ 32 ∷ more) ∷ is) (only_items rest later h n (omega arith))
  only_items words items (lacks word o e f (inl a)) (suc n) enough = reads_arity row word [] n o value e f a
  only_items words items (lacks word o e f (inr a)) (suc n) enough = reads_arity row word [] n o state e f a

  -- a line's words are told apart in one way
  pub one_items : (words : List (List ℕ)) (items others : List Item) → AreItems row words items → AreItems row words others → items ≡ others
  one_items words items others h k =
      sym (only_items words items h (suc (length words)) (omega arith)) ∙ only_items words others k (suc (length words)) (omega arith)

  -- and the items that are computed are those of the words
  Reads : Later → ℕ → Type 0
  Reads later most = (left : List (List ℕ)) → length left ≤ most → AreItems row left (later left)

  state_so : (later : Later) (word next : List ℕ) (rest : List (List ℕ)) (o : OptionRow) → Reads later (length rest) → is_option word ≡ true
      → option_of row word ≡ Some o → o.arity ≡ state
      → (t : Bool) → has_one (parting next) ≡ t → (u : Bool) → goes_on row rest ≡ u → AreItems row (word ∷ next ∷ rest) (read_apart later o next rest (t && u))
  unfolding Reads
  state_so later word next rest o h e f a false i u g =
      stated word next rest (later rest) o e f a (inl (λ one. true≢false (sym (one_name next one) ∙ i))) (h rest (omega arith))
  state_so later word next rest o h e f a true i false g = stated word next rest (later rest) o e f a (inr g) (h rest (omega arith))
  state_so later word next [] o h e f a true i true g = absurd (false≢true g)
  state_so later word next (more ∷ rest) o h e f a true i true g =
      stated_apart word next more rest (later rest) o e f a (name_one next i) g (h rest (omega arith))

  truth_so : (later : Later) (word next : List ℕ) (rest : List (List ℕ)) (o : OptionRow) → Reads later (suc (length rest)) → is_option word ≡ true
      → option_of row word ≡ Some o
      → o.arity ≡ truth → (t : Option Bool) → truth_of next ≡ t → AreItems row (word ∷ next ∷ rest) (read_said later o next rest t)
  unfolding Reads
  truth_so later word next rest o h e f a None i = unsaid word (next ∷ rest) (later (next ∷ rest)) o e f a (ap is_some i) (h (next ∷ rest) (omega arith))
  truth_so later word next rest o h e f a (Some t) i = said word next rest (later rest) o t e f a i (h rest (omega arith))

  arity_so : (later : Later) (word : List ℕ) (rest : List (List ℕ)) (o : OptionRow) → Reads later (length rest) → is_option word ≡ true
      → option_of row word ≡ Some o
      → (a : Arity) → o.arity ≡ a → AreItems row (word ∷ rest) (read_arity row later o rest a)
  unfolding Reads
  arity_so later word [] o h e f value a = lacks word o e f (inl a)
  arity_so later word (next ∷ rest) o h e f value a = valued word next rest (later rest) o e f a (h rest (omega arith))
  arity_so later word rest o h e f flag a = alone word rest (later rest) o e f a (h rest (omega arith))
  arity_so later word [] o h e f truth a = unsaid word [] (later []) o e f a refl (h [] (omega arith))
  arity_so later word (next ∷ rest) o h e f truth a = truth_so later word next rest o h e f a (truth_of next) refl
  arity_so later word rest o h e f (means text) a = standing word rest (later rest) o text e f a (h rest (omega arith))
  arity_so later word [] o h e f state a = lacks word o e f (inr a)
  arity_so later word (next ∷ rest) o h e f state a =
      state_so later word next rest o (λ left less. h left (omega arith)) e f a (has_one (parting next)) refl (goes_on row rest) refl

  pub items_so : (n : ℕ) (words : List (List ℕ)) → length words < n → AreItems row words (read_items row n words)
  unfolding Reads
  items_so zero words enough = absurd (omega arith)
  items_so (suc n) [] enough = none
  items_so (suc n) (word ∷ rest) enough = by (is_option word) refl (λ left less. items_so n left (omega arith))
    where
      on_option : is_option word ≡ true → Reads (read_items row n) (length rest) → (o : Option OptionRow) → option_of row word ≡ o
          → AreItems row (word ∷ rest) (read_option row (read_items row n) word rest o)
      on_option e h None f = no_option word rest (read_items row n rest) e f (h rest (omega arith))
      on_option e h (Some o) f = arity_so (read_items row n) word rest o h e f o.arity refl

      by : (t : Bool) → is_option word ≡ t → Reads (read_items row n) (length rest)
          → AreItems row (word ∷ rest) (elim t [ true ↦ read_option row (read_items row n) word rest (option_of row word) | false ↦ own word ∷ read_items row n rest ])
      by true e h = on_option e h (option_of row word) refl
      by false e h = owned word rest (read_items row n rest) e (h rest (omega arith))
