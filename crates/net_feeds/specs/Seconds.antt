-- Links to bits that are fed already, by an earlier instance or by another link of the same one.
use Rattle.std.specs.Prelude.{◌≡◌, ◌≢◌, ℕ, ◌≤◌, ◌⊎◌, Bool, List, Option, Some, None, IsSome, max, min, set, slice_get}
use Rattle.list_defs.specs.Members.{IsIn}
use Rattle.net_feeds.specs.Marked.{IsMarked}
use Rattle.net_feeds.specs.declared.links.LinkAt.{LinkAt}
use Rattle.net_feeds.specs.declared.seconds.Found.{Found}
use Rattle.net_feeds.specs.declared.seconds.Seen.{Seen}

-- A link on this line feeds a bit that had a mark before, or that another link on this line or an earlier one feeds.
pub data IsSecond (taken : List Bool) (links : List LinkAt) (line bit : ℕ) : Type 0 where
  before : (i : ℕ) (a : LinkAt) → slice_get links i ≡ Some a → a.fed ≡ Some bit → a.line ≡ line → IsMarked taken bit → IsSecond taken links line bit
  again : (i j : ℕ) (a b : LinkAt) → slice_get links i ≡ Some a → slice_get links j ≡ Some b → a.fed ≡ Some bit → b.fed ≡ Some bit → j ≢ i → a.line ≡ line
      → b.line ≤ line → IsSecond taken links line bit

-- what was found is on this line or an earlier one, and has the bit if it is this line
pub record IsFound (found : Found) (line bit : ℕ) : Type 0 where
  pub any : ℕ
  pub listed : IsIn any found.bits.items
  pub low : found.line ≤ line
  pub same : line ≡ found.line → IsIn bit found.bits.items

-- what was found besides an earlier find is a bit on a line
pub record IsFoundAlso (line bit : ℕ) (old new : Found) : Type 0 where
  pub here : IsFound new line bit
  pub before : (l b : ℕ) → IsFound old l b → IsFound new l b
  pub only : (b : ℕ) → IsIn b new.bits.items → ((new.line ≡ line) × (b ≡ bit)) ⊎ ((new.line ≡ old.line) × IsIn b old.bits.items)

-- These are all bits with links to them that are second, on the first line that has such a link.
pub record AreSeconds (taken : List Bool) (links : List LinkAt) (found : Found) : Type 0 where
  pub each : (bit : ℕ) → IsIn bit found.bits.items → IsSecond taken links found.line bit
  pub first : (line bit : ℕ) → IsSecond taken links line bit → IsFound found line bit

-- one of the links feeds the bit on this line
pub record IsOnLine (links : List LinkAt) (line bit : ℕ) : Type 0 where
  pub i : ℕ
  pub a : LinkAt
  pub there : slice_get links i ≡ Some a
  pub fed : a.fed ≡ Some bit
  pub same : a.line ≡ line

-- a line is known for the bit that is not behind this one
pub record IsKnown (lows : List (Option ℕ)) (line bit : ℕ) : Type 0 where
  pub low : ℕ
  pub known : slice_get lows bit ≡ Some (Some low)
  pub before : low ≤ line

-- of each bit that is fed the first line that feeds it is known, and what is second is found
pub record AreSeen (taken : List Bool) (links : List LinkAt) (seen : Seen) : Type 0 where
  pub found : AreSeconds taken links seen.found
  pub lines : (bit line : ℕ) → slice_get seen.lows.items bit ≡ Some (Some line) → IsOnLine links line bit
  pub lows : (i bit : ℕ) (a : LinkAt) → slice_get links i ≡ Some a → a.fed ≡ Some bit → IsKnown seen.lows.items a.line bit

-- something was found on a line for a bit if this holds, and else nothing
pub record IsFoundIf (P : Type 0) (line bit : ℕ) (old new : Found) : Type 0 where
  pub held : P → IsFoundAlso line bit old new
  pub otherwise : (P → ⊥) → new ≡ old

-- of two lines, of which the first may not be there, the later and the earlier one
abbrev pub later_line : Option ℕ → ℕ → ℕ
later_line None line = line
later_line (Some low) line = max low line

abbrev pub earlier_line : Option ℕ → ℕ → ℕ
earlier_line None line = line
earlier_line (Some low) line = min low line

-- one more line that feeds a bit was looked at
pub record IsSeenOnce (taken : List Bool) (line bit : ℕ) (old new : Seen) : Type 0 where
  pub low : Option ℕ
  pub known : slice_get old.lows.items bit ≡ Some low
  pub lows : new.lows.items ≡ set old.lows.items bit (Some (earlier_line low line))
  pub between : Found
  pub marked : IsFoundIf (IsMarked taken bit) line bit old.found between
  pub again : IsFoundIf (IsSome low) (later_line low line) bit between new.found
