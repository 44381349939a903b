-- The words and marks of an expression.
use Rattle.std.specs.Prelude.{◌≡◌, ℕ, ◌==◌, Bool, true, false, not, ◌||◌, List, [], ◌∷◌, ◌++◌}
use Rattle.std.specs.List.{list_all}
use Rattle.tcl_words.specs.Pieces.{is_white}

-- A word; `(`, `)`, `!`, `&&`, `||`, `==`, `!=`, `{`, `}`, a comma, and a back quote.
pub data Token : Type 0 where
  word : List ℕ → Token
  opens : Token
  shuts : Token
  bang : Token
  both : Token
  either : Token
  same : Token
  differs : Token
  brace : Token
  unbrace : Token
  comma : Token
  quote : Token

-- whether the byte begins a mark
abbrev pub is_mark : ℕ → Bool
is_mark b = b == 40 || b == 41 || b == 33 || b == 38 || b == 124 || b == 61 || b == 123 || b == 125 || b == 44 || b == 96

-- whether a word may have the byte: neither white space nor a mark
abbrev pub is_word_byte : ℕ → Bool
is_word_byte b = not (is_white b || is_mark b)

-- whether the text begins with a byte that passes the test
abbrev pub begins_with : (ℕ → Bool) → List ℕ → Bool
begins_with test [] = false
begins_with test (b ∷ rest) = test b

-- The text has these words and marks, each as long as it can be. White space may stand between any two.
pub data HasTokens : List ℕ → List Token → Type 0 where
  none : HasTokens [] []
  white : (b : ℕ) (rest : List ℕ) (tokens : List Token) → is_white b ≡ true → HasTokens rest tokens → HasTokens (b ∷ rest) tokens
  a_word : (b : ℕ) (more rest : List ℕ) (tokens : List Token) → list_all is_word_byte (b ∷ more) ≡ true → begins_with is_word_byte rest ≡ false
      → HasTokens rest tokens
      → HasTokens (b ∷ more ++ rest) (word (b ∷ more) ∷ tokens)
  an_opens : (rest : List ℕ) (tokens : List Token) → HasTokens rest tokens → HasTokens (40 ∷ rest) (opens ∷ tokens)
  a_shuts : (rest : List ℕ) (tokens : List Token) → HasTokens rest tokens → HasTokens (41 ∷ rest) (shuts ∷ tokens)
  a_bang : (rest : List ℕ) (tokens : List Token) → begins_with (λ b. b == 61) rest ≡ false → HasTokens rest tokens → HasTokens (33 ∷ rest) (bang ∷ tokens)
  a_differs : (rest : List ℕ) (tokens : List Token) → HasTokens rest tokens → HasTokens (33 ∷ 61 ∷ rest) (differs ∷ tokens)
  a_both : (rest : List ℕ) (tokens : List Token) → HasTokens rest tokens → HasTokens (38 ∷ 38 ∷ rest) (both ∷ tokens)
  an_either : (rest : List ℕ) (tokens : List Token) → HasTokens rest tokens → HasTokens (124 ∷ 124 ∷ rest) (either ∷ tokens)
  a_same : (rest : List ℕ) (tokens : List Token) → HasTokens rest tokens → HasTokens (61 ∷ 61 ∷ rest) (same ∷ tokens)
  a_brace : (rest : List ℕ) (tokens : List Token) → HasTokens rest tokens → HasTokens (123 ∷ rest) (brace ∷ tokens)
  an_unbrace : (rest : List ℕ) (tokens : List Token) → HasTokens rest tokens → HasTokens (125 ∷ rest) (unbrace ∷ tokens)
  a_comma : (rest : List ℕ) (tokens : List Token) → HasTokens rest tokens → HasTokens (44 ∷ rest) (comma ∷ tokens)
  a_quote : (rest : List ℕ) (tokens : List Token) → HasTokens rest tokens → HasTokens (96 ∷ rest) (quote ∷ tokens)
