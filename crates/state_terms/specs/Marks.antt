-- The marks of expressions, and which of them a text begins with.
use Rattle.std.specs.Prelude.{◌≡◌, ℕ, Bool, true, false, List, ◌∷◌}
use Rattle.power_states.specs.ExpressionWords.{Token, word, opens, shuts, bang, both, either, same, differs, brace, unbrace, comma, quote, HasTokens}
use Rattle.state_terms.specs.declared.words.Mark.{Mark}
use Rattle.state_terms.specs.declared.words.Mark.TheVariants.{Opens, Shuts, Bang, Both, Either, Same, Differs, Brace, Unbrace, Comma, Quote}

-- the mark as a grammar has it
abbrev pub token_of : Mark → Token
token_of Opens = opens
token_of Shuts = shuts
token_of Bang = bang
token_of Both = both
token_of Either = either
token_of Same = same
token_of Differs = differs
token_of Brace = brace
token_of Unbrace = unbrace
token_of Comma = comma
token_of Quote = quote

-- whether it is a word
abbrev pub is_word : Token → Bool
is_word (word text) = true
is_word _ = false

-- no mark stands first in the text
abbrev pub BeginsWithNoMark : List ℕ → Type 0
BeginsWithNoMark text = (first : Token) (more : List Token) → HasTokens text (first ∷ more) → is_word first ≡ true

-- no word stands first in the text
abbrev pub BeginsWithNoWord : List ℕ → Type 0
BeginsWithNoWord text = (bytes : List ℕ) (more : List Token) → ¬ HasTokens text (word bytes ∷ more)

-- the two texts have the same words and marks
pub record HaveSameTokens (text other : List ℕ) : Type 0 where
  pub on : (tokens : List Token) → HasTokens text tokens → HasTokens other tokens
  pub back : (tokens : List Token) → HasTokens other tokens → HasTokens text tokens
