-- The pieces of a text, cut from the left.
use Rattle.std.specs.Prelude.{ℕ, ◌==◌, true, false, List, [], ◌∷◌}
use Rattle.tcl_words.specs.Pieces.{Piece, byte, escaped, carried, is_blank}

-- what stands just before the rest of a text: nothing of matter, a backslash, or a line that is carried on
pub data Before : Type 0 where
  nothing : Before
  backslash : Before
  line : Before

-- the pieces of the rest of a text
abbrev pub cut : Before → List ℕ → List Piece
cut nothing [] = []
cut nothing (b ∷ rest) = elim (b == 92) [ true ↦ cut backslash rest | false ↦ byte b ∷ cut nothing rest ]
cut backslash [] = byte 92 ∷ []
cut backslash (b ∷ rest) = elim (b == 10) [ true ↦ carried ∷ cut line rest | false ↦ escaped b ∷ cut nothing rest ]
cut line [] = []
cut line (b ∷ rest) =
    elim (is_blank b)
    [ true ↦ cut line rest | false ↦ elim (b == 92) [ true ↦ cut backslash rest | false ↦ byte b ∷ cut nothing rest ] ]

-- the pieces of a text
abbrev pub pieces_of : List ℕ → List Piece
pieces_of text = cut nothing text
