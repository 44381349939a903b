-- The lines of a text.
use Rattle.std.specs.Prelude.{ℕ, ◌+◌, ◌==◌, min, List, length, take}
use Rattle.std.specs.List.{filter}

-- how many newlines the bytes have
abbrev pub newlines : List ℕ → ℕ
newlines bytes = length (filter (λ b. b == 10) bytes)

-- The line of a place in a text: one more than the newlines before it. Past the greatest number it stays there.
unfoldable pub line_at : List ℕ → ℕ → ℕ
line_at text place = min (1 + newlines (take place text)) 4294967295

-- the line on which a text ends
abbrev pub last_line : List ℕ → ℕ
last_line text = line_at text (length text)
