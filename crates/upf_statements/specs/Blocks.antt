-- Blocks by the places of their lines.
use Rattle.std.specs.Prelude.{◌≡◌, ℕ, ◌+◌, ◌<◌, ◌≤◌, List, ◌++◌, Option, None, Some, drop, length, slice_get, slice_range}
use Rattle.std.specs.List.{AllZip}
use Rattle.pw_defs.specs.declared.script.Line.{Line}
use Rattle.script_defs.specs.Blocks.{Block as PlainBlock, blocks_behind, blocks_of}
use Rattle.upf_statements.specs.declared.blocks.Block.{Block}

-- these places among the lines are the block
pub record IsBlockAt (lines : List Line) (b : Block) (block : PlainBlock) : Type 0 where
  pub head : slice_get lines b.at ≡ Some block.head
  pub inside : b.at < b.end
  pub within : b.end ≤ length lines
  pub body : block.body ≡ slice_range lines (b.at + 1) b.end
  pub ended : block.ended ≡ b.ended

-- the power model that is open before a place, by its own place and by its lines
pub record IsOpenAt (lines : List Line) (at head : ℕ) (model : Line × List Line) : Type 0 where
  pub inside : head < at
  pub head_is : slice_get lines head ≡ Some model.0
  pub body : model.1 ≡ slice_range lines (head + 1) at

abbrev pub IsOpen : List Line → ℕ → Option ℕ → Option (Line × List Line) → Type 0
IsOpen lines at None None = Unit {0}
IsOpen lines at (Some head) (Some model) = IsOpenAt lines at head model
IsOpen lines at _ _ = ⊥

-- these are the blocks of the lines before a place, but for the power model that is open there
pub record AreBlocksSoFar (lines : List Line) (at : ℕ) (started : Option ℕ) (blocks : List Block) : Type 0 where
  pub made : List PlainBlock
  pub model : Option (Line × List Line)
  pub places : AllZip (IsBlockAt lines) blocks made
  pub is_open : IsOpen lines at started model
  pub whole : blocks_of lines ≡ made ++ blocks_behind model (drop at lines)
