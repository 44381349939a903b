-- The pieces of the code, as the definitions see them.
use Rattle.std.specs.Prelude.{ℕ, List, length}
use Rattle.text_defs.specs.Pieces.{Piece}
use Rattle.net_text.specs.NetlistTokens.{NetlistPiece}
use Rattle.net_text.specs.declared.pieces.NetPiece.{NetPiece}
use Rattle.net_text.specs.declared.pieces.NetPiece.TheVariants as made
use Rattle.net_text.specs.declared.pieces.PieceAt.{PieceAt}

abbrev pub what_view : NetPiece → NetlistPiece
what_view made.Skipped = NetlistPiece.Skipped
what_view (made.Plain word) = NetlistPiece.Plain word.now
what_view (made.Escaped name) = NetlistPiece.Escaped name.now
what_view (made.Digits digits) = NetlistPiece.Digits digits.now
what_view (made.Constant text) = NetlistPiece.Constant text.now
what_view (made.Mark byte) = NetlistPiece.Mark byte
what_view made.Unclosed = NetlistPiece.Unclosed

abbrev pub piece_view : PieceAt → Piece NetlistPiece
piece_view p = record { what = what_view p.what; size = p.size }

-- digits that are no part of a constant
abbrev pub digits_alone : List ℕ → Piece NetlistPiece
digits_alone digits = record { what = NetlistPiece.Digits digits; size = length digits }
