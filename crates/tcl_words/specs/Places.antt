-- Places in a text, as a reader sees them.
use Rattle.std.specs.Prelude.{◌≡◌, ℕ, zero, suc, ◌≤◌, ◌==◌, true, false, List, [], ◌∷◌, ◌++◌, Option, Some, None, map, length, drop}
use Rattle.std.specs.List.{list_all}
use Rattle.tcl_words.specs.Pieces.{Piece, byte, escaped, carried, begins}
use Rattle.tcl_words.specs.Words.{is_name_byte, is_name_piece}
use Rattle.tcl_words.specs.declared.pieces.TextPiece.{TextPiece}
use Rattle.tcl_words.specs.declared.pieces.TextPiece.TheVariants as taken
use Rattle.tcl_words.specs.Cuts.{pieces_of}
use Rattle.tcl_words.specs.TclFaults.{newlines, line_of}

-- the pieces of a text, and those that are left of it
pub record PieceText : Type 0 where
  pub whole : List Piece
  pub left : List Piece

-- what is left from a place on
abbrev pub text_at : List ℕ → ℕ → PieceText
text_at text place = record { whole = pieces_of text; left = pieces_of (drop place text) }

-- the beginning of a text
abbrev pub start_of : List ℕ → PieceText
start_of text = record { whole = pieces_of text; left = pieces_of text }

-- the place is in the text, and this is its line
pub record IsPlace (text : List ℕ) (place line : ℕ) : Type 0 where
  pub within : place ≤ length text
  pub behind : newlines (pieces_of (drop place text)) ≤ newlines (pieces_of text)
  pub on_line : line ≡ line_of (pieces_of text) (pieces_of (drop place text))

-- a piece as the definitions see it
abbrev pub piece_view : TextPiece → Piece
piece_view (taken.Byte b) = Piece.byte b
piece_view (taken.Escaped b) = Piece.escaped b
piece_view taken.Carried = Piece.carried

-- the name is the longest front of the text
pub record IsFront (text : List Piece) (name : List ℕ) (left : List Piece) : Type 0 where
  pub split : text ≡ map byte name ++ left
  pub each : list_all is_name_byte name ≡ true
  pub stop : begins is_name_piece left ≡ false

-- a piece as it stands in a word in braces
abbrev pub kept_text : Piece → List ℕ
kept_text (byte b) = b ∷ []
kept_text (escaped b) = 92 ∷ b ∷ []
kept_text carried = 32 ∷ []

-- one brace fewer, where there is one
abbrev pub one_fewer : ℕ → Option ℕ
one_fewer zero = None
one_fewer (suc depth) = Some depth

-- how many braces are open behind a piece, where it doesn't close the word
abbrev pub depth_behind : ℕ → Piece → Option ℕ
depth_behind depth (byte b) = elim (b == 123) [ true ↦ Some (suc depth) | false ↦ elim (b == 125) [ true ↦ one_fewer depth | false ↦ Some depth ] ]
depth_behind depth (escaped b) = Some depth
depth_behind depth carried = Some depth
