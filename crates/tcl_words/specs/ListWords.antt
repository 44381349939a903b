-- The words of a list. White space parts them, newlines too; variables and brackets stand for themselves.
use Rattle.std.specs.Prelude.{ℕ, List, [], Ok, Err}
use Rattle.pw_defs.specs.declared.faults.TclFault.{TclFault}
use Rattle.tcl_words.specs.Pieces.{Piece, HasPieces}
use Rattle.tcl_words.specs.Words.{list, AreWords}

-- the text is a list of these words
pub record PartsInto (text : List ℕ) (words : List (List ℕ)) : Type 0 where
  pub pieces : List Piece
  pub cut : HasPieces text pieces
  pub words_are : AreWords pieces list [] pieces (Ok (words, []))

-- the text is no list, and this is its first fault: a brace or quote that is never closed, or what follows a closed word
pub record HasListFault (text : List ℕ) (fault : TclFault) : Type 0 where
  pub pieces : List Piece
  pub cut : HasPieces text pieces
  pub fault_is : AreWords pieces list [] pieces (Err fault)
