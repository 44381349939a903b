-- The pieces of a script's text: what its backslashes make of its bytes.
use Rattle.std.specs.Prelude.{◌≢◌, ℕ, ◌==◌, Bool, true, false, ◌||◌, List, [], ◌∷◌, if◌then◌else◌}

-- a blank: a space or a tab
abbrev pub is_blank : ℕ → Bool
is_blank b = b == 32 || b == 9

-- white space: a blank, a newline, a carriage return or a form feed
abbrev pub is_white : ℕ → Bool
is_white b = is_blank b || b == 10 || b == 13 || b == 12

-- A byte as it stands, a backslash with the byte that it takes along, or a line that is carried on: a backslash, a
-- newline and the blanks after it, which together are one blank.
pub data Piece : Type 0 where
  byte : ℕ → Piece
  escaped : ℕ → Piece
  carried : Piece

-- what is left of a text behind the blanks that it begins with
abbrev pub behind_blanks : List ℕ → List ℕ
behind_blanks [] = []
behind_blanks (b ∷ rest) = if is_blank b then behind_blanks rest else b ∷ rest

-- The text has these pieces, cut from the left. A backslash that nothing follows stands for itself.
pub data HasPieces : List ℕ → List Piece → Type 0 where
  none : HasPieces [] []
  plain : (b : ℕ) (rest : List ℕ) (pieces : List Piece) → b ≢ 92 → HasPieces rest pieces → HasPieces (b ∷ rest) (byte b ∷ pieces)
  taken : (b : ℕ) (rest : List ℕ) (pieces : List Piece) → b ≢ 10 → HasPieces rest pieces → HasPieces (92 ∷ b ∷ rest) (escaped b ∷ pieces)
  joined : (rest : List ℕ) (pieces : List Piece) → HasPieces (behind_blanks rest) pieces → HasPieces (92 ∷ 10 ∷ rest) (carried ∷ pieces)
  last : HasPieces (92 ∷ []) (byte 92 ∷ [])

-- whether a piece is this byte, with no backslash before it
abbrev pub is_byte : ℕ → Piece → Bool
is_byte b (byte c) = c == b
is_byte b (escaped c) = false
is_byte b carried = false

-- whether a piece is white space
abbrev pub is_space : Piece → Bool
is_space (byte b) = is_white b
is_space (escaped b) = false
is_space carried = true

-- whether a piece ends a line of the text
abbrev pub is_newline : Piece → Bool
is_newline (byte b) = b == 10
is_newline (escaped b) = false
is_newline carried = true

-- whether the first piece of a text passes the test; none does where nothing is left
abbrev pub begins : (Piece → Bool) → List Piece → Bool
begins test [] = false
begins test (p ∷ rest) = test p
