-- Phrases that may be left out, and lists of phrases. A list has no more than `most` of them, which is the limit of the lists that are read.
use Rattle.std.specs.Prelude.{ℕ, zero, suc, Bool, List, [], ◌∷◌, Option, Some, None}
use Rattle.text_defs.specs.Grammar.{Grammar, ◌>>=◌, ◌>>◌}

-- the phrase, where the next token begins one
abbrev pub option : {K A : Type 0} → (K → Bool) → Grammar K A → Grammar K (Option A)
option begins phrase =
    Grammar.where_next begins
    (do
      x ← phrase
      Grammar.gives (Some x))
    (Grammar.gives None)

-- phrases one behind the other, as long as the next token begins one
unfoldable pub many : {K A : Type 0} → ℕ → (K → Bool) → Grammar K A → Grammar K (List A)
many zero begins phrase = Grammar.gives []
many (suc most) begins phrase =
    Grammar.where_next begins
    (do
      x ← phrase
      xs ← many most begins phrase
      Grammar.gives (x ∷ xs))
    (Grammar.gives [])

-- a phrase, and further ones, each behind a separator
abbrev pub listed : {K A B : Type 0} → ℕ → (K → Bool) → Grammar K B → Grammar K A → Grammar K (List A)
listed most separates separator phrase = do
  x ← phrase
  xs ← many most separates (separator >> phrase)
  Grammar.gives (x ∷ xs)
