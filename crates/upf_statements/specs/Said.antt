-- What words say, for the calls that take them apart.
use Rattle.std.specs.Prelude.{◌≡◌, ℕ, List, ◌++◌, Option, Some, None}
use Rattle.std.specs.List.{flat_map}
use Rattle.pw_defs.specs.declared.script.Given.{Given}
use Rattle.tcl_words.specs.ListWords.{PartsInto}
use Rattle.upf_commands.specs.CommandRows.{CommandRow}
use Rattle.upf_commands.specs.CommandWords.{row_of}
use Rattle.upf_commands.specs.Forms.{ListForm}
use Rattle.upf_commands.specs.Values.{StateOption as OptionText, state_words, supply_expr, logic_expr, simstate, legal, illegal}
use Rattle.power_states.specs.Expressions.{Language}
use Rattle.script_defs.specs.Statements.{Clause, Parts, StateOption}
use Rattle.script_defs.specs.ReadStatements.{AreOptionsOf, IsClauseOf, IsListSaid, IsTermOf}

-- the text is a list
abbrev pub IsList : List ℕ → Type 0
IsList text = (words : List (List ℕ)) × PartsInto text words

-- the words say this, whatever text has them
abbrev pub SayInList : ListForm → List (List ℕ) → Parts → Type 0
SayInList form words parts = (value : List ℕ) → PartsInto value words → IsListSaid form value parts

-- the option of a power state says this; `-simstate` says nothing
abbrev pub SaysOption : OptionText → Option StateOption → Type 0
SaysOption (supply_expr text) (Some (StateOption.supply_expr term)) = IsTermOf Language.supply text term
SaysOption (logic_expr text) (Some (StateOption.logic_expr term)) = IsTermOf Language.logic text term
SaysOption (simstate word) None = Unit {0}
SaysOption legal (Some StateOption.legal) = Unit {0}
SaysOption illegal (Some StateOption.illegal) = Unit {0}
SaysOption _ _ = ⊥

-- the words are one option of a power state
pub record AreOneOption (words : List (List ℕ)) : Type 0 where
  pub only : OptionText
  pub spelled : words ≡ state_words only

-- they are one that says this
pub record SayOneOption (words : List (List ℕ)) (said : Option StateOption) : Type 0 where
  pub only : OptionText
  pub spelled : words ≡ state_words only
  pub says : SaysOption only said

-- the words begin with an option of a power state
pub record BeginWithOption (words : List (List ℕ)) : Type 0 where
  pub first : OptionText
  pub behind : List (List ℕ)
  pub split : words ≡ state_words first ++ behind

-- the words begin with an option that says this, and go on with these
pub record Begin (words : List (List ℕ)) (said : Option StateOption) (behind : List (List ℕ)) : Type 0 where
  pub first : OptionText
  pub split : words ≡ state_words first ++ behind
  pub says : SaysOption first said

-- the words are options of a power state
abbrev pub AreOptionWords : List (List ℕ) → Type 0
AreOptionWords words = (texts : List OptionText) × (words ≡ flat_map state_words texts)

-- the words are options that say these
abbrev pub SayOptions : List (List ℕ) → List StateOption → Type 0
SayOptions words options = (texts : List OptionText) → words ≡ flat_map state_words texts → AreOptionsOf texts options

-- the option is this clause of each command that has the row
abbrev pub IsClauseIn : CommandRow → Given → Clause → Type 0
IsClauseIn row g c = (command : List ℕ) → row_of command ≡ Some row → IsClauseOf command g c
