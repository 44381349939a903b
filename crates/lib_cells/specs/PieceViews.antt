-- The pieces of the code, as the definitions see them.
use Rattle.std.specs.Prelude.{◌≡◌, [], ◌∷◌}
use Rattle.text_defs.specs.Pieces.{Piece}
use Rattle.lib_cells.specs.LibraryWords.{LibraryPiece}
use Rattle.lib_cells.specs.declared.pieces.LibPiece.{LibPiece}
use Rattle.lib_cells.specs.declared.pieces.LibPiece.TheVariants as made
use Rattle.lib_cells.specs.declared.pieces.PieceAt.{PieceAt}

abbrev pub what_view : LibPiece → LibraryPiece
what_view made.Skipped = LibraryPiece.Skipped
what_view made.LineEnd = LibraryPiece.LineEnd
what_view (made.Word word) = LibraryPiece.Word word.now
what_view (made.Mark byte shown) = LibraryPiece.Mark byte
what_view made.Unclosed = LibraryPiece.Unclosed

-- a byte by itself is the one that is shown
abbrev pub IsShown : LibPiece → Type 0
IsShown (made.Mark byte shown) = shown.now ≡ byte ∷ []
IsShown _ = Unit {0}

abbrev pub piece_view : PieceAt → Piece LibraryPiece
piece_view p = record { what = what_view p.what; size = p.size }
