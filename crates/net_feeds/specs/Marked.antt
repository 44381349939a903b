-- Which bits are fed by some links, and whether any is fed twice.
use Rattle.std.specs.Prelude.{◌≡◌, ℕ, ◌<◌, ◌⊎◌, Bool, true, false, List, Option, Some, None, length, set, slice_get}
use Rattle.design_rows.specs.declared.tables.Feed.{Feed}
use Rattle.design_rows.specs.declared.tables.Feed.TheVariants.{Bit as BitFeed, Constant, Nothing}
use Rattle.list_defs.specs.Members.{IsIn}
use Rattle.net_feeds.specs.declared.links.LinkAt.{LinkAt}
use Rattle.net_feeds.specs.declared.marks.Marks.{Marks}

-- what a link feeds its bit with, by the number of its source
abbrev pub feed_of : Option ℕ → Feed
feed_of None = Constant
feed_of (Some source) = BitFeed source

-- the bit has a mark
abbrev pub IsMarked : List Bool → ℕ → Type 0
IsMarked marks bit = slice_get marks bit ≡ Some true

-- one of the links feeds the bit
pub record IsFedByOne (links : List LinkAt) (bit : ℕ) : Type 0 where
  pub one : LinkAt
  pub listed : IsIn one links
  pub fed : one.fed ≡ Some bit

-- Each link has marked its bit, with what feeds it. Other marks are those that were given.
pub record AreMarks (given : List Bool) (links : List LinkAt) (marks : Marks) : Type 0 where
  pub all_feeds : length marks.feeds.items ≡ length given
  pub all_taken : length marks.taken.items ≡ length given
  pub feed : (l : LinkAt) (bit : ℕ) → IsIn l links → l.fed ≡ Some bit → slice_get marks.feeds.items bit ≡ Some (feed_of l.source)
  pub nothing : (bit : ℕ) → bit < length given → (IsFedByOne links bit → ⊥) → slice_get marks.feeds.items bit ≡ Some Nothing
  pub kept : (bit : ℕ) → IsMarked given bit → IsMarked marks.taken.items bit
  pub marked : (l : LinkAt) (bit : ℕ) → IsIn l links → l.fed ≡ Some bit → IsMarked marks.taken.items bit
  pub cause : (bit : ℕ) → IsMarked marks.taken.items bit → IsMarked given bit ⊎ IsFedByOne links bit

-- no two links feed one bit, and none feeds a bit that was marked before
pub record AreApart (given : List Bool) (links : List LinkAt) : Type 0 where
  pub once : (i j bit : ℕ) (a b : LinkAt) → slice_get links i ≡ Some a → slice_get links j ≡ Some b → a.fed ≡ Some bit → b.fed ≡ Some bit → i ≡ j
  pub free : (a : LinkAt) (bit : ℕ) → IsIn a links → a.fed ≡ Some bit → IsMarked given bit → ⊥

-- the same together
pub record AreFed (given : List Bool) (links : List LinkAt) (marks : Marks) : Type 0 where
  pub marks_are : AreMarks given links marks
  pub apart : AreApart given links

-- a bit that had no mark has one, with what feeds it
pub record IsTaken (bit : ℕ) (feed : Feed) (old new : Marks) : Type 0 where
  pub free : slice_get old.taken.items bit ≡ Some false
  pub within : bit < length old.feeds.items
  pub taken : new.taken.items ≡ set old.taken.items bit true
  pub feeds : new.feeds.items ≡ set old.feeds.items bit feed
