-- A block of lines as it is taken from the front of the lines that are left.
use Rattle.std.specs.Prelude.{◌≡◌, ℕ, ◌<◌, ◌≤◌, true, List, [], ◌∷◌, Some, length, drop, slice_range}
use Rattle.pw_defs.specs.declared.script.Line.{Line}
use Rattle.script_defs.specs.Blocks.{Block, blocks_of, blocks_behind, ends_model}

-- The block stands first in the lines from a place on, and what is behind it begins at the next place.
pub record IsTaken (lines : List Line) (at : ℕ) (b : Block) (next : ℕ) : Type 0 where
  pub first : blocks_of (drop at lines) ≡ b ∷ blocks_of (drop next lines)
  pub onward : at < next
  pub within : next ≤ length lines

-- The lines from one place up to another are those of a body: there is no end of a model among them, and one behind them
-- unless the lines end there.
pub record IsBodyOf (lines : List Line) (from to : ℕ) : Type 0 where
  pub order : from ≤ to
  pub within : to ≤ length lines
  pub goes_on : (head : Line) → blocks_behind (Some (head, [])) (drop from lines) ≡ blocks_behind (Some (head, slice_range lines from to)) (drop to lines)
  pub ends : (line : Line) (rest : List Line) → drop to lines ≡ line ∷ rest → ends_model line ≡ true
