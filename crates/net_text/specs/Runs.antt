-- Words for runs of bytes.
use Rattle.std.specs.Prelude.{ℕ, ◌==◌, Bool, not}

abbrev pub is_no_newline : ℕ → Bool
is_no_newline b = not (b == 10)
