-- What is left of a library's text behind a place.
use Rattle.std.specs.Prelude.{◌≡◌, ℕ, Bool, false, not, List, [], ◌∷◌, ◌++◌, Option, Some, None, drop, if◌then◌else◌}
use Rattle.std.specs.List.{filter}
use Rattle.text_defs.specs.Lines.{last_line}
use Rattle.text_defs.specs.Pieces.{Placed, pieces_from}
use Rattle.text_defs.specs.Tokens.{Token}
use Rattle.text_streams.specs.declared.places.Place.{Place}
use Rattle.text_streams.specs.Places.{IsAt}
use Rattle.lib_cells.specs.LibraryWords.{LibraryPiece, LibraryClass, is_skipped, library_piece, tokens_from}
use Rattle.lib_cells.specs.PieceViews.{IsShown, what_view}
use Rattle.lib_cells.specs.declared.lexer.LibClass.{LibClass}
use Rattle.lib_cells.specs.declared.lexer.LibClass.TheVariants as made
use Rattle.lib_cells.specs.declared.lexer.PlacedPiece.{PlacedPiece}
use Rattle.lib_cells.specs.declared.lexer.Front.{Front}
use Rattle.lib_cells.specs.declared.lexer.Word.{Word}

abbrev pub is_inked : Placed LibraryPiece → Bool
is_inked p = not (is_skipped p.what)

-- the pieces behind a place that aren't skipped
unfoldable pub inked_from : List ℕ → ℕ → Bool → List (Placed LibraryPiece)
inked_from text at fresh = filter is_inked (pieces_from library_piece text at fresh 0 (drop at text))

abbrev pub inked : Place → List (Placed LibraryPiece)
inked p = inked_from p.text.now p.at p.fresh

-- a piece, if it isn't skipped
abbrev pub one_inked : LibraryPiece → ℕ → List (Placed LibraryPiece)
one_inked what line = filter is_inked (record { what = what; line = line } ∷ [])

abbrev pub placed_view : PlacedPiece → Placed LibraryPiece
placed_view p = record { what = what_view p.what; line = p.line }

-- the piece ahead, where there is one
abbrev pub pieces_ahead : Option PlacedPiece → List (Placed LibraryPiece)
pieces_ahead None = []
pieces_ahead (Some p) = placed_view p ∷ []

abbrev pub IsShownAhead : Option PlacedPiece → Type 0
IsShownAhead None = Unit {0}
IsShownAhead (Some p) = IsShown p.what

-- no piece ahead means that none is left
abbrev pub EndsAt : Option PlacedPiece → List (Placed LibraryPiece) → Type 0
EndsAt None left = left ≡ []
EndsAt (Some p) left = Unit {0}

-- whether the piece ahead, where there is one, passes a test
abbrev pub ahead_passes : (LibraryPiece → Bool) → Option PlacedPiece → Bool
ahead_passes test None = false
ahead_passes test (Some p) = test (what_view p.what)

abbrev pub class_view : LibClass → LibraryClass
class_view made.PlainWord = LibraryClass.PlainWord
class_view made.LastWord = LibraryClass.LastWord
class_view made.Open = LibraryClass.Open
class_view made.Shut = LibraryClass.Shut
class_view made.LeftBrace = LibraryClass.LeftBrace
class_view made.RightBrace = LibraryClass.RightBrace
class_view made.Colon = LibraryClass.Colon
class_view made.Semicolon = LibraryClass.Semicolon
class_view made.Comma = LibraryClass.Comma
class_view made.Stray = LibraryClass.Stray

-- the class of a word, by whether a value ends behind it
abbrev pub word_class_by : Bool → LibraryClass
word_class_by ends = if ends then LibraryClass.LastWord else LibraryClass.PlainWord

abbrev pub word_view : Word → Token LibraryClass
word_view w = record { class = class_view w.class; text = w.text.now; line = w.line }

abbrev pub text_of : Word → List ℕ
text_of w = w.text.now

-- the token ahead, where there is one
abbrev pub word_ahead : Option Word → List (Token LibraryClass)
word_ahead None = []
word_ahead (Some w) = word_view w ∷ []

-- the piece ahead is one of the text, and the place stands behind it
pub record IsFront (f : Front) : Type 0 where
  pub at : IsAt f.place
  pub shown : IsShownAhead f.piece
  pub ends : EndsAt f.piece (inked f.place)

abbrev pub pieces_left : Front → List (Placed LibraryPiece)
pieces_left f = pieces_ahead f.piece ++ inked f.place

abbrev pub tokens_left : Front → List (Token LibraryClass)
tokens_left f = tokens_from (last_line f.place.text.now) (pieces_left f)

-- no token ahead means that none is left
abbrev pub EndsWith : Option Word → List (Token LibraryClass) → Type 0
EndsWith None left = left ≡ []
EndsWith (Some w) left = Unit {0}
