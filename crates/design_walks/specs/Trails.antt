-- The bits of a walk, read along the next bits.
use Rattle.std.specs.Prelude.{ℕ, zero, suc, List, [], ◌∷◌, Option, Some, None, map, length, option_and_then, slice_get}
use Rattle.pw_defs.specs.declared.chains.Walk.{Walk}
use Rattle.pw_defs.specs.declared.design.Bit.{Bit}
use Rattle.design_defs.specs.Walks.{next_of}
use Rattle.design_walks.specs.declared.rows.StartRow.{StartRow}

-- the bit at which a walk goes on behind each bit
abbrev pub next_bits : List Bit → List (Option ℕ)
next_bits bits = map (λ (b : Bit). next_of b.feeder) bits

abbrev pub next_at : List (Option ℕ) → ℕ → Option ℕ
next_at next n = option_and_then (λ next. next) (slice_get next n)

abbrev pub trail_behind : (ℕ → List ℕ) → Option ℕ → List ℕ
trail_behind rest None = []
trail_behind rest (Some n) = rest n

-- a bit and those that follow it, no more than `most`
unfoldable pub trail : List (Option ℕ) → ℕ → ℕ → List ℕ
trail next zero n = []
trail next (suc most) n = n ∷ trail_behind (trail next most) (next_at next n)

-- the walk that begins so: no walk has more bits than there are
abbrev pub walk_of : List (Option ℕ) → StartRow → Walk
walk_of next s = record { from = s.from; to = s.to; bits = trail next (length next) s.bit }
