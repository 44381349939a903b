-- The words of a line, told apart by the table: own words, and options with their values.
use Rattle.std.specs.Prelude.{◌≡◌, ℕ, ◌==◌, ◌⊎◌, Bool, true, false, not, List, [], ◌∷◌, ◌++◌, Option, Some, None, find, is_some}
use Rattle.std.specs.Str.{bytes_eq}
use Rattle.upf_commands.specs.CommandRows.{OptionRow, CommandRow, value, flag, truth, means, state}
use Rattle.upf_commands.specs.CommandTable.{commands}
use Rattle.upf_commands.specs.Values.{AreNames, truth_of, truth_text}

-- An own word of the command, an option with its value, a word that is no option of the command, or an option without its
-- value.
pub data Item : Type 0 where
  own : List ℕ → Item
  given : OptionRow → List ℕ → Item
  unknown : List ℕ → Item
  lacking : OptionRow → Item

-- whether the word is an option: it begins with `-`
abbrev pub is_option : List ℕ → Bool
is_option [] = false
is_option (b ∷ bs) = b == 45

-- the option of the command that the word gives
abbrev pub option_of : CommandRow → List ℕ → Option OptionRow
option_of row word = find (λ o. bytes_eq o.spelled word) row.options

-- the row of the command of this name
unfoldable pub row_of : List ℕ → Option CommandRow
row_of name = find (λ row. bytes_eq row.name name) commands

-- whether the words begin with a truth
abbrev pub says_truth : List (List ℕ) → Bool
says_truth [] = false
says_truth (word ∷ rest) = is_some (truth_of word)

-- whether the words begin with one that is no option of the command
abbrev pub goes_on : CommandRow → List (List ℕ) → Bool
goes_on row [] = false
goes_on row (word ∷ rest) = not (is_some (option_of row word))

-- the word is a list of one name
abbrev pub IsOneName : List ℕ → Type 0
IsOneName word = (name : List ℕ) × AreNames word (name ∷ [])

-- The words behind the name of a command are these items. The word behind an option that wants a value is its value,
-- whatever it looks like. A truth may be left out. A power state is one word, or a list of one name and, where the next word
-- is no option, its options.
pub data AreItems (row : CommandRow) : List (List ℕ) → List Item → Type 0 where
  none : AreItems row [] []
  owned : (word : List ℕ) (rest : List (List ℕ)) (items : List Item) → is_option word ≡ false → AreItems row rest items
      → AreItems row (word ∷ rest) (own word ∷ items)
  no_option : (word : List ℕ) (rest : List (List ℕ)) (items : List Item) → is_option word ≡ true → option_of row word ≡ None → AreItems row rest items
      → AreItems row (word ∷ rest) (unknown word ∷ items)
  alone : (word : List ℕ) (rest : List (List ℕ)) (items : List Item) (o : OptionRow) → is_option word ≡ true → option_of row word ≡ Some o → o.arity ≡ flag
      → AreItems row rest items → AreItems row (word ∷ rest) (given o (truth_text true) ∷ items)
  standing : (word : List ℕ) (rest : List (List ℕ)) (items : List Item) (o : OptionRow) (text : List ℕ) → is_option word ≡ true → option_of row word ≡ Some o
      → o.arity ≡ means text → AreItems row rest items → AreItems row (word ∷ rest) (given o text ∷ items)
  said : (word next : List ℕ) (rest : List (List ℕ)) (items : List Item) (o : OptionRow) (t : Bool) → is_option word ≡ true → option_of row word ≡ Some o
      → o.arity ≡ truth → truth_of next ≡ Some t → AreItems row rest items → AreItems row (word ∷ next ∷ rest) (given o (truth_text t) ∷ items)
  unsaid : (word : List ℕ) (rest : List (List ℕ)) (items : List Item) (o : OptionRow) → is_option word ≡ true → option_of row word ≡ Some o
      → o.arity ≡ truth → says_truth rest ≡ false → AreItems row rest items → AreItems row (word ∷ rest) (given o (truth_text true) ∷ items)
  valued : (word next : List ℕ) (rest : List (List ℕ)) (items : List Item) (o : OptionRow) → is_option word ≡ true → option_of row word ≡ Some o
      → o.arity ≡ value → AreItems row rest items → AreItems row (word ∷ next ∷ rest) (given o next ∷ items)
  stated : (word next : List ℕ) (rest : List (List ℕ)) (items : List Item) (o : OptionRow) → is_option word ≡ true → option_of row word ≡ Some o
      → o.arity ≡ state → (¬ IsOneName next) ⊎ (goes_on row rest ≡ false) → AreItems row rest items → AreItems row (word ∷ next ∷ rest) (given o next ∷ items)
  stated_apart : (word next more : List ℕ) (rest : List (List ℕ)) (items : List Item) (o : OptionRow) → is_option word ≡ true → option_of row word ≡ Some o
      → o.arity ≡ state → IsOneName next → goes_on row (more ∷ rest) ≡ true → AreItems row rest items
      → AreItems row (word ∷ next ∷ more ∷ rest) (given o (next ++ 32 ∷ more) ∷ items)
  lacks : (word : List ℕ) (o : OptionRow) → is_option word ≡ true → option_of row word ≡ Some o → (o.arity ≡ value) ⊎ (o.arity ≡ state)
      → AreItems row (word ∷ []) (lacking o ∷ [])
