-- The parts of a command line, and how they stand in its words.
use Rattle.std.specs.Prelude.{◌≡◌, ℕ, ◌<◌, ◌≤◌, Bool, true, false, ◌⊎◌, List, ◌∷◌, Option, Some, None, length}
use Rattle.upf_commands.specs.CommandRows.{OptionRow, CommandRow}
use Rattle.upf_commands.specs.CommandWords.{Item, own, given, unknown, lacking, is_option, option_of, says_truth, goes_on, IsOneName, AreItems, row_of}
use Rattle.pw_defs.specs.declared.script.Line.{Line}
use Rattle.upf_commands.specs.Values.{truth_of}
use Rattle.upf_reader.specs.Rows.{option_view}
use Rattle.upf_reader.specs.declared.parts.Part.{Part}
use Rattle.upf_reader.specs.declared.parts.Part.TheVariants.{Own, Given, Unknown, Lacking}

-- a part as the definitions see it
abbrev pub part_view : Part → Item
part_view (Own word) = own word
part_view (Given option value) = given (option_view option.now) value
part_view (Unknown word) = unknown word
part_view (Lacking option) = lacking (option_view option.now)

-- The item stands first in the words, whatever items are made of what is left behind it.
pub record Leads (row : CommandRow) (words : List (List ℕ)) (item : Item) (left : List (List ℕ)) : Type 0 where
  pub shorter : length left < length words
  pub goes : (items : List Item) → AreItems row left items → AreItems row words (item ∷ items)

-- The item stands first in the words that begin with one that gives the option and go on with these.
pub record FollowsIn (row : CommandRow) (o : OptionRow) (rest : List (List ℕ)) (item : Item) (left : List (List ℕ)) : Type 0 where
  pub no_longer : length left ≤ length rest
  pub goes : (word : List ℕ) (items : List Item) → is_option word ≡ true → option_of row word ≡ Some o → AreItems row left items
      → AreItems row (word ∷ rest) (item ∷ items)

-- it does so in whatever command
abbrev pub Follows : OptionRow → List (List ℕ) → Item → List (List ℕ) → Type 0
Follows o rest item left = (row : CommandRow) → FollowsIn row o rest item left

-- what the first of the words says, where it is a truth, and the words behind it
abbrev pub SaysTruth : List (List ℕ) → Option (Bool × List (List ℕ)) → Type 0
SaysTruth words None = says_truth words ≡ false
SaysTruth words (Some said) = (next : List ℕ) × (words ≡ next ∷ said.1) × (truth_of next ≡ Some said.0)

-- The word in which a power state goes on behind its first one, and the words behind both: the first is a list of one name,
-- and the second no option.
abbrev pub GoesOn : CommandRow → List ℕ → List (List ℕ) → Option (List ℕ × List (List ℕ)) → Type 0
GoesOn row first rest None = (¬ IsOneName first) ⊎ (goes_on row rest ≡ false)
GoesOn row first rest (Some second) = IsOneName first × (rest ≡ second.0 ∷ second.1) × (goes_on row rest ≡ true)

-- the line is of this command, which isn't passed over, and these words stand behind its name
pub record IsLineOf (line : Line) (row : CommandRow) (words : List (List ℕ)) : Type 0 where
  pub split : line.words ≡ row.name ∷ words
  pub row_is : row_of row.name ≡ Some row
  pub runs : row.passed ≡ false
