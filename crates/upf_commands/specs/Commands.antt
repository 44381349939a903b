-- Which line is which command.
use Rattle.std.specs.Prelude.{◌≡◌, ℕ, Bool, true, false, not, ◌&&◌, ◌||◌, List, [], ◌∷◌, ◌++◌, Option, Some, None, filter, filter_map, map, is_some, if◌then◌else◌}
use Rattle.std.specs.List.{list_any}
use Rattle.std.specs.Str.{bytes_eq}
use Rattle.list_defs.specs.Members.{IsIn}
use Rattle.pw_defs.specs.declared.script.Command.{Command}
use Rattle.pw_defs.specs.declared.script.Given.{Given}
use Rattle.pw_defs.specs.declared.script.Line.{Line}
use Rattle.tcl_words.specs.ListWords.{PartsInto}
use Rattle.upf_commands.specs.CommandRows.{OptionRow, CommandRow}
use Rattle.upf_commands.specs.CommandWords.{Item, own, given, unknown, lacking, row_of, AreItems}
use Rattle.upf_commands.specs.Forms.{WordForm, list, keyed, IsWordOf, HasForm}

-- the own word, the option, the word that is no option, the option that lacks its value: each where the item is one
abbrev pub own_word : Item → Option (List ℕ)
own_word (own text) = Some text
own_word (given o text) = None
own_word (unknown text) = None
own_word (lacking o) = None

abbrev pub option_given : Item → Option (List ℕ)
option_given (own text) = None
option_given (given o text) = Some o.kept
option_given (unknown text) = None
option_given (lacking o) = None

abbrev pub unknown_word : Item → Option (List ℕ)
unknown_word (own text) = None
unknown_word (given o text) = None
unknown_word (unknown text) = Some text
unknown_word (lacking o) = None

abbrev pub lacking_option : Item → Option (List ℕ)
lacking_option (own text) = None
lacking_option (given o text) = None
lacking_option (unknown text) = None
lacking_option (lacking o) = Some o.kept

-- whether an option of this name is among the items
abbrev pub is_given : List ℕ → List Item → Bool
is_given name items = list_any (bytes_eq name) (filter_map option_given items)

-- the words that are no options of the command, in order
abbrev pub unknown_words : List Item → List (List ℕ)
unknown_words items = filter_map unknown_word items

-- the command's name, where it has no word of its own and needs one
abbrev pub missing_own : CommandRow → List (List ℕ) → List (List ℕ)
missing_own row [] = if is_some row.own then row.name ∷ [] else []
missing_own row (text ∷ more) = []

-- the options that the command needs and hasn't got, in the table's order
abbrev pub missing_options : CommandRow → List Item → List (List ℕ)
missing_options row items = map (λ (o : OptionRow). o.kept) (filter (λ (o : OptionRow). o.needed && not (is_given o.kept items)) row.options)

-- What is missing: first values of options, by place; then the command's own word; then options that it needs.
abbrev pub missing : CommandRow → List Item → List (List ℕ)
missing row items = filter_map lacking_option items ++ missing_own row (filter_map own_word items) ++ missing_options row items

-- whether an own word may stand behind these items: the command has one, and it isn't among them
abbrev pub may_own : CommandRow → List Item → Bool
may_own row before = is_some row.own && not (list_any (λ i. is_some (own_word i)) before)

-- whether two options are in one group of those of which a command takes at most one
abbrev pub are_apart : CommandRow → List ℕ → List ℕ → Bool
are_apart row name other = not (bytes_eq name other) && list_any (λ group. list_any (bytes_eq name) group && list_any (bytes_eq other) group) row.apart

-- whether the option may stand behind these items: it isn't among them, or may be repeated, and none from which it is apart is
-- among them
abbrev pub may_give : CommandRow → List Item → OptionRow → Bool
may_give row before o = (o.repeats || not (is_given o.kept before)) && not (list_any (are_apart row o.kept) (filter_map option_given before))

-- the option is one of those that give a word for a key
abbrev pub IsKeyed : OptionRow → Type 0
IsKeyed o = (keys : List (List ℕ)) × (o.form ≡ list (keyed keys))

-- the value begins with the key
abbrev pub HasKey : List ℕ → List ℕ → Type 0
HasKey text key = (more : List (List ℕ)) × PartsInto text (key ∷ more)

-- the option gives a word for a key that it has given before
abbrev pub RepeatsKey : List Item → OptionRow → List ℕ → Type 0
RepeatsKey before o text =
    IsKeyed o
    × ((p : OptionRow) × (earlier : List ℕ) × (key : List ℕ) × IsIn (given p earlier) before × (p.kept ≡ o.kept) × HasKey earlier key × HasKey text key)

-- the item stands well behind those before it, and has its form
pub data IsGood (row : CommandRow) (before : List Item) : Item → Type 0 where
  good_own : (text : List ℕ) (form : WordForm) → may_own row before ≡ true → row.own ≡ Some form → IsWordOf form text → IsGood row before (own text)
  good_option : (o : OptionRow) (text : List ℕ) → may_give row before o ≡ true → ¬ RepeatsKey before o text → HasForm o.form text
      → IsGood row before (given o text)

-- a line of a command that isn't passed over, by its row and its items
pub record HasItems (line : Line) (row : CommandRow) (items : List Item) : Type 0 where
  pub words : List (List ℕ)
  pub split : line.words ≡ row.name ∷ words
  pub row_is : row_of row.name ≡ Some row
  pub runs : row.passed ≡ false
  pub items_are : AreItems row words items

-- nothing is unknown or missing, and each item is good
pub record IsWhole (row : CommandRow) (items : List Item) : Type 0 where
  pub known : unknown_words items ≡ []
  pub there : missing row items ≡ []
  pub good : (before : List Item) (item : Item) (after : List Item) → items ≡ before ++ item ∷ after → IsGood row before item

-- an option as it is kept
abbrev pub given_option : Line → Item → Option Given
given_option line (own text) = None
given_option line (given o text) = Some (record { option = o.kept; value = text; line = line.number })
given_option line (unknown text) = None
given_option line (lacking o) = None

-- the command that the items make
abbrev pub command_of : Line → CommandRow → List Item → Command
command_of line row items =
    record {
      name = row.name;
      args = filter_map own_word items;
      options = record { given = filter_map (given_option line) items };
      line = line.number;
      passed = false;
    }

-- a command that is passed over, of which nothing but its name is kept
abbrev pub passed_command : Line → CommandRow → Command
passed_command line row = record { name = row.name; args = []; options = record { given = [] }; line = line.number; passed = true }

-- the line is this command
pub data IsCommand (line : Line) : Command → Type 0 where
  runs : (row : CommandRow) (items : List Item) → HasItems line row items → IsWhole row items → IsCommand line (command_of line row items)
  passes : (row : CommandRow) (words : List (List ℕ)) → line.words ≡ row.name ∷ words → row_of row.name ≡ Some row → row.passed ≡ true
      → IsCommand line (passed_command line row)
