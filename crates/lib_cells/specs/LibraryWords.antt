-- The words of a library's text.
use Rattle.std.specs.Prelude.{ℕ, suc, ◌+◌, ◌-◌, ◌==◌, Bool, true, false, not, ◌&&◌, ◌||◌, List, [], ◌∷◌, Option, Some, None, if◌then◌else◌, length, take, drop, codes, ◌++◌}
use Rattle.std.specs.List.{list_any, filter}
use Rattle.std.specs.Option.{option_map}
use Rattle.std.specs.Char.{is_ascii_alphabetic, is_ascii_digit}
use Rattle.text_defs.specs.Lines.{last_line}
use Rattle.text_defs.specs.Tokens.{Token}
use Rattle.text_defs.specs.Pieces.{Piece, Placed, is_white, begins_with, closed_by, pieces}

-- whether a word may have the byte: a letter, a digit or one of these signs
abbrev pub is_word_byte : ℕ → Bool
is_word_byte b = is_ascii_alphabetic b || is_ascii_digit b || list_any (λ c. b == c) (codes "_.+-*/!'&|^<>=[]")

abbrev pub opens_comment : List ℕ → Bool
opens_comment [] = false
opens_comment (b ∷ rest) = b == 47 && begins_with 42 rest

-- how many bytes a word has: those in a row that a word may have, up to where a comment begins
unfoldable pub word_size : List ℕ → ℕ
word_size [] = 0
word_size (b ∷ rest) = elim (is_word_byte b && not (opens_comment (b ∷ rest))) [ true ↦ suc (word_size rest) | false ↦ 0 ]

-- How many bytes stand up to and with the quote that closes a quoted text, where one does. A backslash takes the next byte along.
unfoldable pub quoted_size : Bool → List ℕ → Option ℕ
quoted_size taken [] = None
quoted_size true (b ∷ rest) = option_map suc (quoted_size false rest)
quoted_size false (b ∷ rest) = if b == 34 then Some 1 else option_map suc (quoted_size (b == 92) rest)

-- the pieces of a library's text
pub data LibraryPiece : Type 0 where
  -- white space other than a newline, backslash-newline, a comment
  Skipped : LibraryPiece
  LineEnd : LibraryPiece
  -- a word, or a quoted text, which is the word of what stands between its quotes
  Word : List ℕ → LibraryPiece
  -- any other byte
  Mark : ℕ → LibraryPiece
  -- a comment or a quoted text that nothing closes
  Unclosed : LibraryPiece

abbrev pub quoted_piece : List ℕ → Option ℕ → Piece LibraryPiece
quoted_piece behind None = record { what = Unclosed; size = 1 + length behind }
quoted_piece behind (Some n) = record { what = Word (take (n - 1) behind); size = 1 + n }

abbrev pub comment_piece : List ℕ → Option ℕ → Piece LibraryPiece
comment_piece behind None = record { what = Unclosed; size = 2 + length behind }
comment_piece behind (Some n) = record { what = Skipped; size = 2 + n }

abbrev pub word_piece : List ℕ → ℕ → Piece LibraryPiece
word_piece bytes n = record { what = Word (take n bytes); size = n }

abbrev pub byte_piece : LibraryPiece → Piece LibraryPiece
byte_piece what = record { what = what; size = 1 }

-- The piece with which bytes begin. A comment begins anywhere outside quotes, also within a run of word bytes.
unfoldable pub library_piece : Bool → List ℕ → Piece LibraryPiece
library_piece fresh [] = byte_piece Skipped
library_piece fresh (b ∷ rest) =
    if b == 10 then byte_piece LineEnd
    else if is_white b then byte_piece Skipped
    else if b == 92 && begins_with 10 rest then record { what = Skipped; size = 2 }
    else if b == 34 then quoted_piece rest (quoted_size false rest)
    else if opens_comment (b ∷ rest) then comment_piece (drop 1 rest) (closed_by 42 47 (drop 1 rest))
    else if is_word_byte b then word_piece (b ∷ rest) (word_size (b ∷ rest))
    else byte_piece (Mark b)

-- The classes of tokens. The value of an attribute stands on one line: it ends with the word that a line's end, a
-- semicolon or a closing brace follows, which is a last word.
pub data LibraryClass : Type 0 where
  PlainWord : LibraryClass
  LastWord : LibraryClass
  Open : LibraryClass
  Shut : LibraryClass
  LeftBrace : LibraryClass
  RightBrace : LibraryClass
  Colon : LibraryClass
  Semicolon : LibraryClass
  Comma : LibraryClass
  -- what no library has: any other byte, a colon at its line's end, what nothing closes
  Stray : LibraryClass

abbrev pub is_skipped : LibraryPiece → Bool
is_skipped Skipped = true
is_skipped _ = false

abbrev pub is_line_end : LibraryPiece → Bool
is_line_end LineEnd = true
is_line_end _ = false

-- whether a value ends before the piece
abbrev pub ends_value : LibraryPiece → Bool
ends_value LineEnd = true
ends_value (Mark b) = b == 59 || b == 125
ends_value _ = false

-- whether the first of the pieces, where there is one, passes a test
abbrev pub first_passes : (LibraryPiece → Bool) → List (Placed LibraryPiece) → Bool
first_passes test [] = false
first_passes test (p ∷ _) = test p.what

abbrev pub mark_class : ℕ → List (Placed LibraryPiece) → LibraryClass
mark_class b behind =
    if b == 40 then Open
    else if b == 41 then Shut
    else if b == 123 then LeftBrace
    else if b == 125 then RightBrace
    else if b == 58 && not (first_passes is_line_end behind) then Colon
    else if b == 59 then Semicolon
    else if b == 44 then Comma
    else Stray

-- the token of a piece, by what stands behind it; white space has none, and what nothing closes stands at the text's end
abbrev pub token_of : ℕ → Placed LibraryPiece → List (Placed LibraryPiece) → List (Token LibraryClass)
token_of end p behind = elim p.what [
  | Skipped ↦ []
  | LineEnd ↦ []
  | Word text ↦ record { class = if first_passes ends_value behind then LastWord else PlainWord; text = text; line = p.line } ∷ []
  | Mark b ↦ record { class = mark_class b behind; text = b ∷ []; line = p.line } ∷ []
  | Unclosed ↦ record { class = Stray; text = []; line = end } ∷ []
]

unfoldable pub tokens_from : ℕ → List (Placed LibraryPiece) → List (Token LibraryClass)
tokens_from end [] = []
tokens_from end (p ∷ behind) = token_of end p behind ++ tokens_from end behind

-- the tokens of a library's text
abbrev pub library_tokens : List ℕ → List (Token LibraryClass)
library_tokens text = tokens_from (last_line text) (filter (λ p. not (is_skipped p.what)) (pieces library_piece text))
