-- Places in a text that is read byte by byte.
use Rattle.std.specs.Prelude.{◌≡◌, ℕ, ◌+◌, ◌≤◌, List, [], length, take, drop, min}
use Rattle.text_defs.specs.Lines.{newlines}

-- the bytes that are read, and those that are left
pub record Place : Type 0 where
  pub read : List ℕ
  pub left : List ℕ

-- a place of a text, by the number of bytes behind it
abbrev pub place_in : List ℕ → ℕ → Place
place_in text n = record { read = take n text; left = drop n text }

-- the beginning of a text
abbrev pub beginning : List ℕ → Place
beginning text = record { read = []; left = text }

-- the place is in the text, and this is its line
pub record IsPlace (text : List ℕ) (n line : ℕ) : Type 0 where
  pub within : n ≤ length text
  pub on_line : line ≡ min (1 + newlines (take n text)) 4294967295
