-- Lines of a short text.
use Rattle.std.proofs.Common.{◌≡◌, ℕ, ◌≤◌, List, codes, refl, arith}
use Rattle.text_defs.specs.Lines.{line_at, last_line}

pub a_text_begins_on_line_one : line_at (codes "ab\ncd\n") 0 ≡ 1
unfolding line_at
a_text_begins_on_line_one = refl

-- a newline stands on the line that it ends
pub a_newline_is_on_its_own_line : line_at (codes "ab\ncd\n") 2 ≡ 1
unfolding line_at
a_newline_is_on_its_own_line = refl

pub behind_a_newline_is_the_next_line : line_at (codes "ab\ncd\n") 3 ≡ 2
unfolding line_at
behind_a_newline_is_the_next_line = refl

pub a_last_newline_begins_a_line : last_line (codes "ab\ncd\n") ≡ 3
unfolding line_at
a_last_newline_begins_a_line = refl

pub no_text_has_line_one : last_line (codes "") ≡ 1
unfolding line_at
no_text_has_line_one = refl

-- a line has a number of 32 bits
pub a_line_is_a_small_number : (text : List ℕ) (place : ℕ) → line_at text place ≤ 4294967295
unfolding line_at
a_line_is_a_small_number text place = omega arith
