-- The grammar of libraries: groups and attributes, and what is read of them.
use Rattle.std.specs.Prelude.{ℕ, zero, suc, ◌==◌, Bool, true, false, not, ◌&&◌, List, [], ◌∷◌, ◌++◌, Option, Some, None, map, reverse, codes, ◌||◌, if◌then◌else◌, length, unwrap_or}
use Rattle.std.specs.List.{filter, filter_map, flat_map, slice_split}
use Rattle.list_defs.specs.Members.{same_name}
use Rattle.text_defs.specs.Grammar.{Grammar, ◌>>=◌, ◌>>◌}
use Rattle.text_defs.specs.Phrases.{option, many}
use Rattle.text_defs.specs.Tokens.{Token, one_of, of_class}
use Rattle.text_defs.specs.Pieces.{is_white}
use Rattle.lib_cells.specs.LibraryWords.{LibraryClass, PlainWord, LastWord, Open, Shut, LeftBrace, RightBrace, Colon, Semicolon, Comma}

-- a text from its first byte on that is no white space
unfoldable pub from_ink : List ℕ → List ℕ
from_ink [] = []
from_ink (b ∷ rest) = if is_white b then from_ink rest else b ∷ rest

-- a text without the white space at both its ends
abbrev pub trimmed : List ℕ → List ℕ
trimmed text = reverse (from_ink (reverse (from_ink text)))

-- an attribute and the words of its value
pub record Attribute : Type 0 where
  pub name : List ℕ
  pub value : List (List ℕ)

-- what is read of a cell: an attribute, or a group of pins with its attributes
pub data CellPart : Type 0 where
  Says : Attribute → CellPart
  HasPins : List (List ℕ) → List Attribute → CellPart

-- the group of a cell, and the line of its word `cell`
pub record CellGroup : Type 0 where
  pub name : List ℕ
  pub line : ℕ
  pub parts : List CellPart

abbrev pub is_word : LibraryClass → Bool
is_word PlainWord = true
is_word LastWord = true
is_word _ = false

abbrev pub is_plain_word : LibraryClass → Bool
is_plain_word PlainWord = true
is_plain_word _ = false

abbrev pub is_last_word : LibraryClass → Bool
is_last_word LastWord = true
is_last_word _ = false

abbrev pub is_open : LibraryClass → Bool
is_open Open = true
is_open _ = false

abbrev pub is_shut : LibraryClass → Bool
is_shut Shut = true
is_shut _ = false

abbrev pub is_left_brace : LibraryClass → Bool
is_left_brace LeftBrace = true
is_left_brace _ = false

abbrev pub is_right_brace : LibraryClass → Bool
is_right_brace RightBrace = true
is_right_brace _ = false

abbrev pub is_colon : LibraryClass → Bool
is_colon Colon = true
is_colon _ = false

abbrev pub is_semicolon : LibraryClass → Bool
is_semicolon Semicolon = true
is_semicolon _ = false

abbrev pub is_comma : LibraryClass → Bool
is_comma Comma = true
is_comma _ = false

-- what a further argument begins with: a comma or a word
abbrev pub goes_on : LibraryClass → Bool
goes_on c = is_comma c || is_word c

abbrev pub LibraryGrammar : Type 0 → Type 1
LibraryGrammar A = Grammar (Token LibraryClass) A

-- no list is longer
abbrev pub most : ℕ
most = 4294967295

-- a semicolon, which may be left out
abbrev pub semicolon : LibraryGrammar (Option (Token LibraryClass))
semicolon = option (of_class is_semicolon) (one_of is_semicolon)

-- a comma, which may be left out, and a word
abbrev pub further_argument : LibraryGrammar (List ℕ)
further_argument = do
  _ ← option (of_class is_comma) (one_of is_comma)
  word ← one_of is_word
  Grammar.gives word.text

-- words one behind the other
abbrev pub some_arguments : LibraryGrammar (List (List ℕ))
some_arguments = do
  first ← one_of is_word
  more ← many most (of_class goes_on) further_argument
  Grammar.gives (first.text ∷ more)

-- words between parentheses, or nothing between them
abbrev pub arguments : LibraryGrammar (List (List ℕ))
arguments = do
  _ ← one_of is_open
  words ← option (of_class is_word) some_arguments
  _ ← one_of is_shut
  Grammar.gives (unwrap_or words [])

-- the words of a value, behind a colon: up to the last of its line
abbrev pub value : LibraryGrammar (List (List ℕ))
value = do
  _ ← one_of is_colon
  words ← many most (of_class is_plain_word) (one_of is_plain_word)
  last ← one_of is_last_word
  _ ← semicolon
  Grammar.gives (map (λ (t : Token LibraryClass). t.text) (words ++ last ∷ []))

-- entries between braces
abbrev pub block : {A : Type 0} → LibraryGrammar A → LibraryGrammar (List A)
block entry = do
  _ ← one_of is_left_brace
  entries ← many most (of_class is_word) entry
  _ ← one_of is_right_brace
  _ ← semicolon
  Grammar.gives entries

-- nothing that is read, and a semicolon, which may be left out
abbrev pub nothing_read : {A : Type 0} → LibraryGrammar (Option A)
nothing_read = semicolon >> Grammar.gives None

-- what stands behind the arguments of a word: a group, or nothing
abbrev pub group_or_nothing : {A B : Type 0} → (List A → Option B) → LibraryGrammar A → LibraryGrammar (Option B)
group_or_nothing read_as entry =
    Grammar.where_next (of_class is_left_brace) (block entry >>= λ entries. Grammar.gives (read_as entries)) nothing_read

-- an attribute of this name
abbrev pub attribute : Token LibraryClass → LibraryGrammar Attribute
attribute name = value >>= λ words. Grammar.gives (record { name = name.text; value = words })

-- An entry: an attribute, or a word with its arguments and what stands behind them.
abbrev pub entry_of : {A : Type 0} → (Attribute → Option A) → (Token LibraryClass → List (List ℕ) → LibraryGrammar (Option A)) → LibraryGrammar (Option A)
entry_of said behind = do
  name ← one_of is_word
  Grammar.where_next (of_class is_colon) (attribute name >>= λ a. Grammar.gives (said a)) (arguments >>= λ words. behind name words)

-- an entry in which groups nest no more than `depth` deep, and of which only an attribute is read
unfoldable pub entry : ℕ → LibraryGrammar (Option Attribute)
entry zero = entry_of Some (λ _ _. nothing_read)
entry (suc depth) = entry_of Some (λ _ _. group_or_nothing (λ _. None) (entry depth))

-- the names in a word: its parts between commas, without the white space around them; an empty part is no name
abbrev pub names_in : List ℕ → List (List ℕ)
names_in text = filter (λ name. not (length name == 0)) (map trimmed (slice_split (λ b. b == 44) text))

-- the things that are there
abbrev pub present : {A : Type 0} → List (Option A) → List A
present things = filter_map (λ x. x) things

-- in a cell, behind `pin` and its arguments: the group of these pins, or nothing where they name none
abbrev pub pins_behind : ℕ → List (List ℕ) → LibraryGrammar (Option CellPart)
pins_behind depth [] = nothing_read
pins_behind depth (name ∷ names) = group_or_nothing (λ entries. Some (HasPins (name ∷ names) (present entries))) (entry depth)

abbrev pub cell_behind : ℕ → Token LibraryClass → List (List ℕ) → LibraryGrammar (Option CellPart)
cell_behind depth head words =
    elim (same_name head.text (codes "pin"))
    [ true ↦ pins_behind depth (flat_map names_in words) | false ↦ group_or_nothing (λ _. None) (entry depth) ]

-- an entry of a cell
abbrev pub cell_entry : ℕ → LibraryGrammar (Option CellPart)
cell_entry depth = entry_of (λ a. Some (Says a)) (cell_behind depth)

-- in a library, behind `cell` and its arguments: the group of the cell of this name, or nothing where they are not one name
abbrev pub named_cell_behind : ℕ → ℕ → List (List ℕ) → LibraryGrammar (Option CellGroup)
named_cell_behind depth line (name ∷ []) =
    group_or_nothing (λ parts. Some (record { name = name; line = line; parts = present parts })) (cell_entry depth)
named_cell_behind depth line _ = nothing_read

abbrev pub library_behind : ℕ → Token LibraryClass → List (List ℕ) → LibraryGrammar (Option CellGroup)
library_behind depth head words =
    elim (same_name head.text (codes "cell"))
    [ true ↦ named_cell_behind depth head.line words | false ↦ group_or_nothing (λ _. None) (entry (suc depth)) ]

-- an entry of a library
abbrev pub library_entry : ℕ → LibraryGrammar (Option CellGroup)
library_entry depth = entry_of (λ _. None) (library_behind depth)

-- the word `library`
abbrev pub library_word : LibraryGrammar (Token LibraryClass)
library_word = Grammar.token (λ t. if is_word t.class && same_name t.text (codes "library") then Some t else None)

-- A library is the outer group, of which the cells are read. Groups nest at most 100 deep: those in a cell's group 98 deep.
unfoldable pub library_group : LibraryGrammar (List CellGroup)
library_group = do
  _ ← library_word
  _ ← arguments
  cells ← block (library_entry 97)
  Grammar.gives (present cells)
