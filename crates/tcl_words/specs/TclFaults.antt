-- Where the faults of a script's words stand.
use Rattle.std.specs.Prelude.{ℕ, ◌+◌, ◌-◌, List, length, filter, min, codes}
use Rattle.pw_defs.specs.declared.faults.At.{At}
use Rattle.tcl_words.specs.Pieces.{Piece, is_newline}

-- how many newlines the pieces hold
abbrev pub newlines : List Piece → ℕ
newlines pieces = length (filter is_newline pieces)

-- The line at which the end `left` of a text begins: one more than the newlines before it, and at most 4,294,967,295.
abbrev pub line_of : List Piece → List Piece → ℕ
line_of text left = min (1 + (newlines text - newlines left)) 4294967295

-- a fault at this place, with this name
abbrev pub at : List Piece → List Piece → List ℕ → At
at text left name = record { line = line_of text left; name = name }

-- a fault at this place that gives no name
abbrev pub nameless : List Piece → List Piece → At
nameless text left = at text left (codes "-")
