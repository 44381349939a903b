-- What the values of options say, parted into their words.
use Rattle.std.specs.Prelude.{◌≡◌, ◌≢◌, ℕ, ◌==◌, Bool, true, false, ◌&&◌, ◌||◌, List, [], ◌∷◌, ◌++◌, map, Option, Some, None, codes, IsTrue, if◌then◌else◌}
use Rattle.std.specs.Char.{is_ascii_alphabetic, is_ascii_digit}
use Rattle.std.specs.List.{AllZip, flat_map, list_all}
use Rattle.std.specs.Str.{str_eq_ignore_ascii_case}
use Rattle.list_defs.specs.Members.{all_differ, same_name}
use Rattle.pw_defs.specs.declared.values.Value.{Value}
use Rattle.tcl_words.specs.ListWords.{PartsInto}
use Rattle.upf_commands.specs.Voltages.{IsValue}

-- whether a simple name may begin with the byte: a letter or `_`
abbrev pub begins_name : ℕ → Bool
begins_name b = is_ascii_alphabetic b || b == 95

-- a simple name: letters, digits and `_`, at least one, and no digit first
abbrev pub is_simple : List ℕ → Bool
is_simple [] = false
is_simple (b ∷ bs) = begins_name b && list_all (λ c. begins_name c || is_ascii_digit c) bs

abbrev pub IsSimple : List ℕ → Type 0
IsSimple word = IsTrue (is_simple word)

-- what a truth says: `TRUE` or `FALSE` in any case
abbrev pub truth_of : List ℕ → Option Bool
truth_of word =
    if str_eq_ignore_ascii_case word (codes "TRUE") then Some true else if str_eq_ignore_ascii_case word (codes "FALSE") then Some false else None

-- how a truth is kept
abbrev pub truth_text : Bool → List ℕ
truth_text true = codes "TRUE"
truth_text false = codes "FALSE"

-- the two sets of a domain that have a name of their own
pub data Handle : Type 0 where
  primary : Handle
  default_isolation : Handle

abbrev pub handle_text : Handle → List ℕ
handle_text primary = codes "primary"
handle_text default_isolation = codes "default_isolation"

-- the word is this handle of this domain, as in `PD.primary`
pub record IsHandle (word domain : List ℕ) (handle : Handle) : Type 0 where
  pub named : domain ≢ []
  pub spelled : word ≡ domain ++ 46 ∷ handle_text handle

-- the value is a list of these names
abbrev pub AreNames : List ℕ → List (List ℕ) → Type 0
AreNames value names = PartsInto value names

-- the value is a list of these two words
abbrev pub IsPair : List ℕ → List ℕ → List ℕ → Type 0
IsPair value first second = PartsInto value (first ∷ second ∷ [])

-- the value is a list of these pairs
pub record ArePairs (value : List ℕ) (pairs : List (List ℕ × List ℕ)) : Type 0 where
  pub items : List (List ℕ)
  pub parted : PartsInto value items
  pub each : AllZip (λ item (pair : List ℕ × List ℕ). IsPair item pair.0 pair.1) items pairs

-- the value says which net a port of a switch is joined to
pub record IsSwitchPort (value port net : List ℕ) : Type 0 where
  pub parted : IsPair value port net
  pub simple : IsSimple port

-- the value is an on state of a switch: its name, the input that it passes on, and the condition, which isn't read
pub record IsOnState (value state port : List ℕ) : Type 0 where
  pub condition : List ℕ
  pub parted : PartsInto value (state ∷ port ∷ condition ∷ [])
  pub simple_state : IsSimple state
  pub simple_port : IsSimple port

-- the value is a state of a supply: its name and the value of the supply in it
pub record IsSupplyState (value state : List ℕ) (v : Value) : Type 0 where
  pub voltage : List (List ℕ)
  pub parted : PartsInto value (state ∷ voltage)
  pub simple : IsSimple state
  pub meant : IsValue voltage v

-- an option of a power state
pub data StateOption : Type 0 where
  supply_expr : List ℕ → StateOption
  logic_expr : List ℕ → StateOption
  simstate : List ℕ → StateOption
  legal : StateOption
  illegal : StateOption

-- the word that begins the option
abbrev pub state_word : StateOption → List ℕ
state_word (supply_expr text) = codes "-supply_expr"
state_word (logic_expr text) = codes "-logic_expr"
state_word (simstate word) = codes "-simstate"
state_word legal = codes "-legal"
state_word illegal = codes "-illegal"

-- the words of the option
abbrev pub state_words : StateOption → List (List ℕ)
state_words (supply_expr text) = codes "-supply_expr" ∷ text ∷ []
state_words (logic_expr text) = codes "-logic_expr" ∷ text ∷ []
state_words (simstate word) = codes "-simstate" ∷ word ∷ []
state_words legal = codes "-legal" ∷ []
state_words illegal = codes "-illegal" ∷ []

-- the words are these options, of which none stands twice
pub record AreStateOptions (words : List (List ℕ)) (options : List StateOption) : Type 0 where
  pub spelled : words ≡ flat_map state_words options
  pub once : all_differ same_name (map state_word options) ≡ true

-- the value is a power state: its name and its options
pub record IsPowerState (value state : List ℕ) (options : List StateOption) : Type 0 where
  pub words : List (List ℕ)
  pub parted : PartsInto value (state ∷ words)
  pub simple : IsSimple state
  pub spelled : AreStateOptions words options
