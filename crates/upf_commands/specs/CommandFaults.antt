-- The first fault of a line that is no command.
use Rattle.std.specs.Prelude.{◌≡◌, ℕ, false, List, [], ◌∷◌, ◌++◌, Some, None, codes}
use Rattle.list_defs.specs.Members.{IsIn}
use Rattle.pw_defs.specs.declared.faults.At.{At}
use Rattle.pw_defs.specs.declared.faults.CmdFault.{CmdFault}
use Rattle.pw_defs.specs.declared.faults.CmdFault.TheVariants.{U1, U2, U3, U4, T1, T2}
use Rattle.pw_defs.specs.declared.faults.TclFault.TheVariants.{T1 as Unclosed, T2 as AfterWord}
use Rattle.pw_defs.specs.declared.script.Line.{Line}
use Rattle.upf_commands.specs.CommandRows.{OptionRow, CommandRow}
use Rattle.upf_commands.specs.CommandWords.{Item, own, given, unknown, lacking, row_of}
use Rattle.upf_commands.specs.Commands.{unknown_words, missing, may_own, may_give, RepeatsKey, HasItems}
use Rattle.upf_commands.specs.Forms.{WordForm, IsWordOf, IsMisformed, HasFormFault}

-- the name that a refusal of the item shows: the option, else the command
abbrev pub shown : CommandRow → Item → List ℕ
shown row (own text) = row.name
shown row (given o text) = o.kept
shown row (unknown text) = text
shown row (lacking o) = o.kept

-- the item doesn't stand well behind those before it, or hasn't its form
pub data IsBad (row : CommandRow) (before : List Item) : Item → Type 0 where
  surplus : (text : List ℕ) → may_own row before ≡ false → IsBad row before (own text)
  own_form : (text : List ℕ) (form : WordForm) → row.own ≡ Some form → ¬ IsWordOf form text → IsBad row before (own text)
  again : (o : OptionRow) (text : List ℕ) → may_give row before o ≡ false → IsBad row before (given o text)
  key : (o : OptionRow) (text : List ℕ) → RepeatsKey before o text → IsBad row before (given o text)
  form : (o : OptionRow) (text : List ℕ) → IsMisformed o.form text → IsBad row before (given o text)

-- the first bad item
pub record IsFirstBad (row : CommandRow) (items : List Item) (item : Item) : Type 0 where
  pub before : List Item
  pub after : List Item
  pub split : items ≡ before ++ item ∷ after
  pub bad : IsBad row before item
  pub first : (front : List Item) (other : Item) (rest : List Item) → before ≡ front ++ other ∷ rest → ¬ IsBad row front other

-- some option's value has a list in which a brace or quote is never closed
abbrev pub HasUnclosed : List Item → Type 0
HasUnclosed items = (o : OptionRow) × (text : List ℕ) × (at : At) × IsIn (given o text) items × HasFormFault o.form text (Unclosed at)

-- some option's value has a list in which something follows a closed word
abbrev pub HasAfterWord : List Item → Type 0
HasAfterWord items = (o : OptionRow) × (text : List ℕ) × (at : At) × IsIn (given o text) items × HasFormFault o.form text (AfterWord at)

-- the line, with a name
abbrev pub named : Line → List ℕ → At
named line name = record { line = line.number; name = name }

-- The line's first fault: its command is unknown; then a word that is no option of it; then what is missing; then an item of
-- another form; then lists that can't be parted.
pub data HasCommandFault (line : Line) : CmdFault → Type 0 where
  no_command : (name : List ℕ) (words : List (List ℕ)) → line.words ≡ name ∷ words → row_of name ≡ None → HasCommandFault line (U1 (named line name))
  no_option : (row : CommandRow) (items : List Item) (name : List ℕ) (more : List (List ℕ)) → HasItems line row items → unknown_words items ≡ name ∷ more
      → HasCommandFault line (U2 (named line name))
  absent : (row : CommandRow) (items : List Item) (name : List ℕ) (more : List (List ℕ)) → HasItems line row items → unknown_words items ≡ []
      → missing row items ≡ name ∷ more → HasCommandFault line (U3 (named line name))
  misformed : (row : CommandRow) (items : List Item) (item : Item) → HasItems line row items → unknown_words items ≡ [] → missing row items ≡ []
      → IsFirstBad row items item → HasCommandFault line (U4 (named line (shown row item)))
  unclosed : (row : CommandRow) (items : List Item) → HasItems line row items → unknown_words items ≡ [] → missing row items ≡ []
      → ((item : Item) → ¬ IsFirstBad row items item) → HasUnclosed items → HasCommandFault line (T1 (named line (codes "-")))
  after_word : (row : CommandRow) (items : List Item) → HasItems line row items → unknown_words items ≡ [] → missing row items ≡ []
      → ((item : Item) → ¬ IsFirstBad row items item) → ¬ HasUnclosed items → HasAfterWord items → HasCommandFault line (T2 (named line (codes "-")))
