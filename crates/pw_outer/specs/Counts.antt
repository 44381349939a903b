-- The numbers by which a shelf or a sink shows what happened outside the program.
use Rattle.std.specs.Prelude.{ℕ, ◌+◌, ◌≤◌, max, min}

-- how often a shelf failed, had no such file, and had a file that is too long
pub record Counts : Type 0 where
  pub faults : ℕ
  pub misses : ℕ
  pub overs : ℕ

-- no number is smaller than it was
pub record NoneFalls (old new : Counts) : Type 0 where
  pub faults : old.faults ≤ new.faults
  pub misses : old.misses ≤ new.misses
  pub overs : old.overs ≤ new.overs

-- one more, as far as a u64 goes
abbrev pub raised : ℕ → ℕ
raised n = max n (min (n + 1) 18446744073709551615)

-- a number rose: it is greater than it was, or stands at the greatest u64
abbrev pub Rose : ℕ → ℕ → Type 0
Rose old new = min (old + 1) 18446744073709551615 ≤ new
