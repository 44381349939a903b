-- The forms that words and values of commands have.
use Rattle.std.specs.Prelude.{◌≡◌, ◌≢◌, ℕ, ◌⊎◌, ◌||◌, Bool, List, [], ◌∷◌, codes, IsTrue, IsUtf8, IsSome}
use Rattle.std.specs.List.{list_all}
use Rattle.std.specs.Str.{bytes_eq}
use Rattle.list_defs.specs.Members.{IsIn}
use Rattle.pw_defs.specs.declared.faults.TclFault.{TclFault}
use Rattle.pw_defs.specs.declared.values.Value.{Value}
use Rattle.text_defs.specs.Volts.{IsVolts}
use Rattle.tcl_words.specs.ListWords.{PartsInto, HasListFault}
use Rattle.upf_commands.specs.Values.{IsSimple, is_simple, Handle, IsHandle, ArePairs, StateOption, AreStateOptions, truth_of}
use Rattle.upf_commands.specs.Voltages.{IsValue}

-- The form of a single word: any word; a simple name; a simple name or a handle of a domain; such a handle; a file's name in
-- UTF-8; one of some words; a voltage.
pub data WordForm : Type 0 where
  any : WordForm
  simple : WordForm
  set_name : WordForm
  handle : WordForm
  file : WordForm
  one_of : List (List ℕ) → WordForm
  volts : WordForm

-- The form of a list: any words; the word `.` alone; names of states and `*`; a key of some and a word; two words; a name
-- and a text, a truth where the name marks a soft macro; a switch port and a net; an on state of a switch; a state of a
-- supply; a power state.
pub data ListForm : Type 0 where
  names : ListForm
  scope : ListForm
  columns : ListForm
  keyed : List (List ℕ) → ListForm
  pair : ListForm
  attribute : ListForm
  switch_port : ListForm
  on_state : ListForm
  supply_state : ListForm
  power_state : ListForm

-- the form of a value: a word, a list, or a list of pairs
pub data Form : Type 0 where
  word : WordForm → Form
  list : ListForm → Form
  pairs : Form

-- the word has the form
abbrev pub IsWordOf : WordForm → List ℕ → Type 0
IsWordOf any text = Unit {0}
IsWordOf simple text = IsSimple text
IsWordOf set_name text = IsSimple text ⊎ ((domain : List ℕ) × (h : Handle) × IsHandle text domain h)
IsWordOf handle text = (domain : List ℕ) × (h : Handle) × IsHandle text domain h
IsWordOf file text = IsUtf8 text
IsWordOf (one_of words) text = IsIn text words
IsWordOf volts text = (v : ℕ) × IsVolts text v

-- whether a word of a table's row names a state, or is `*`
abbrev pub is_column : List ℕ → Bool
is_column text = is_simple text || bytes_eq text (codes "*")

-- the name of the attribute that marks a soft macro
abbrev pub macro_mark : List ℕ
macro_mark = codes "UPF_is_soft_macro"

-- the words have the form
abbrev pub AreListOf : ListForm → List (List ℕ) → Type 0
AreListOf names words = Unit {0}
AreListOf scope words = words ≡ codes "." ∷ []
AreListOf columns words = IsTrue (list_all is_column words)
AreListOf (keyed keys) words = (key : List ℕ) × (text : List ℕ) × (words ≡ key ∷ text ∷ []) × IsIn key keys
AreListOf pair words = (first : List ℕ) × (second : List ℕ) × (words ≡ first ∷ second ∷ [])
AreListOf attribute words = (name : List ℕ) × (text : List ℕ) × (words ≡ name ∷ text ∷ []) × ((name ≢ macro_mark) ⊎ IsSome (truth_of text))
AreListOf switch_port words = (port : List ℕ) × (net : List ℕ) × (words ≡ port ∷ net ∷ []) × IsSimple port
AreListOf on_state words = (state : List ℕ) × (port : List ℕ) × (condition : List ℕ) × (words ≡ state ∷ port ∷ condition ∷ []) × IsSimple state × IsSimple port
AreListOf supply_state words = (state : List ℕ) × (voltage : List (List ℕ)) × (v : Value) × (words ≡ state ∷ voltage) × IsSimple state × IsValue voltage v
AreListOf power_state words =
    (state : List ℕ) × (more : List (List ℕ)) × (options : List StateOption) × (words ≡ state ∷ more) × IsSimple state × AreStateOptions more options

-- the value has the form
abbrev pub HasForm : Form → List ℕ → Type 0
HasForm (word form) value = IsWordOf form value
HasForm (list form) value = (words : List (List ℕ)) × PartsInto value words × AreListOf form words
HasForm pairs value = (of : List (List ℕ × List ℕ)) × ArePairs value of

-- The value has another form: a word, or the words of a list, don't fit. A list of pairs has another form already where
-- some item parts into other than two words.
abbrev pub IsMisformed : Form → List ℕ → Type 0
IsMisformed (word form) value = ¬ IsWordOf form value
IsMisformed (list form) value = (words : List (List ℕ)) × PartsInto value words × ¬ AreListOf form words
IsMisformed pairs value =
    (items : List (List ℕ)) × (item : List ℕ) × (words : List (List ℕ)) × PartsInto value items × IsIn item items × PartsInto item words
    × ¬ AreListOf pair words

-- a list in the value can't be parted, with this fault
abbrev pub HasFormFault : Form → List ℕ → TclFault → Type 0
HasFormFault (word form) value fault = ⊥
HasFormFault (list form) value fault = HasListFault value fault
HasFormFault pairs value fault =
    HasListFault value fault ⊎ ((items : List (List ℕ)) × (item : List ℕ) × PartsInto value items × IsIn item items × HasListFault item fault)
