-- Which statement a command line is: its words as the command's table says, each value taken apart by its form.
use Rattle.std.specs.Prelude.{◌≡◌, ℕ, Bool, List, [], ◌∷◌, Option, Some, None, option_and_then}
use Rattle.std.specs.List.{AllZip, find}
use Rattle.pw_defs.specs.declared.script.Command.{Command}
use Rattle.pw_defs.specs.declared.script.Given.{Given}
use Rattle.pw_defs.specs.declared.script.Line.{Line}
use Rattle.pw_defs.specs.declared.terms.Term.{Term}
use Rattle.pw_defs.specs.declared.values.Value.{Value}
use Rattle.list_defs.specs.Members.{same_name}
use Rattle.text_defs.specs.Volts.{IsVolts}
use Rattle.tcl_words.specs.ListWords.{PartsInto}
use Rattle.tcl_words.specs.ScriptWords.{ReadsAsLines, HasTclFault}
use Rattle.upf_commands.specs.CommandFaults.{HasCommandFault}
use Rattle.upf_commands.specs.CommandTable.{Arity, OptionRow}
use Rattle.upf_commands.specs.CommandWords.{row_of}
use Rattle.upf_commands.specs.Commands.{IsCommand}
use Rattle.upf_commands.specs.Forms.{Form, WordForm, ListForm}
use Rattle.upf_commands.specs.Values.{StateOption as OptionText, IsPair, ArePairs, IsOnState, IsSupplyState, IsPowerState, truth_of}
use Rattle.power_states.specs.Expressions.{Language, ReadsAsTerm, HasNoTerm}
use Rattle.script_defs.specs.Statements.{Clause, Parts, Statement, StateOption}
use Rattle.script_defs.specs.Refused.{Readers}

-- the text is this term, or no term
abbrev pub IsTermOf : Language → List ℕ → Option Term → Type 0
IsTermOf language text None = HasNoTerm language text
IsTermOf language text (Some term) = ReadsAsTerm language text term

-- the options of a state with their expressions read; `-simstate` isn't used
pub data AreOptionsOf : List OptionText → List StateOption → Type 0 where
  none : AreOptionsOf [] []
  on_supplies : (text : List ℕ) (term : Option Term) (texts : List OptionText) (options : List StateOption) → IsTermOf Language.supply text term
      → AreOptionsOf texts options
      → AreOptionsOf (OptionText.supply_expr text ∷ texts) (StateOption.supply_expr term ∷ options)
  on_states : (text : List ℕ) (term : Option Term) (texts : List OptionText) (options : List StateOption) → IsTermOf Language.logic text term
      → AreOptionsOf texts options
      → AreOptionsOf (OptionText.logic_expr text ∷ texts) (StateOption.logic_expr term ∷ options)
  unused : (word : List ℕ) (texts : List OptionText) (options : List StateOption) → AreOptionsOf texts options
      → AreOptionsOf (OptionText.simstate word ∷ texts) options
  is_legal : (texts : List OptionText) (options : List StateOption) → AreOptionsOf texts options
      → AreOptionsOf (OptionText.legal ∷ texts) (StateOption.legal ∷ options)
  is_illegal : (texts : List OptionText) (options : List StateOption) → AreOptionsOf texts options
      → AreOptionsOf (OptionText.illegal ∷ texts) (StateOption.illegal ∷ options)

-- the value is a power state with these options
pub record IsDescribed (value name : List ℕ) (options : List StateOption) : Type 0 where
  pub texts : List OptionText
  pub parted : IsPowerState value name texts
  pub read : AreOptionsOf texts options

-- what a word says: a voltage, or itself
abbrev pub IsWordSaid : WordForm → List ℕ → Parts → Type 0
IsWordSaid WordForm.volts value parts = (v : ℕ) × IsVolts value v × (parts ≡ Parts.volts v)
IsWordSaid _ value parts = parts ≡ Parts.word value

-- what a list says, by its form
abbrev pub IsListSaid : ListForm → List ℕ → Parts → Type 0
IsListSaid ListForm.names value parts = (words : List (List ℕ)) × PartsInto value words × (parts ≡ Parts.names words)
IsListSaid ListForm.scope value parts = (words : List (List ℕ)) × PartsInto value words × (parts ≡ Parts.names words)
IsListSaid ListForm.columns value parts = (words : List (List ℕ)) × PartsInto value words × (parts ≡ Parts.names words)
IsListSaid (ListForm.keyed keys) value parts = (key : List ℕ) × (word : List ℕ) × IsPair value key word × (parts ≡ Parts.pair key word)
IsListSaid ListForm.pair value parts = (first : List ℕ) × (second : List ℕ) × IsPair value first second × (parts ≡ Parts.pair first second)
IsListSaid ListForm.attribute value parts = (name : List ℕ) × (word : List ℕ) × IsPair value name word × (parts ≡ Parts.pair name word)
IsListSaid ListForm.switch_port value parts = (port : List ℕ) × (net : List ℕ) × IsPair value port net × (parts ≡ Parts.pair port net)
IsListSaid ListForm.on_state value parts = (state : List ℕ) × (port : List ℕ) × IsOnState value state port × (parts ≡ Parts.pair state port)
IsListSaid ListForm.supply_state value parts = (name : List ℕ) × (v : Value) × IsSupplyState value name v × (parts ≡ Parts.valued name v)
IsListSaid ListForm.power_state value parts = (name : List ℕ) × (options : List StateOption) × IsDescribed value name options × (parts
    ≡ Parts.described name options)

-- what a value says, by its form
abbrev pub IsSaid : Form → List ℕ → Parts → Type 0
IsSaid (Form.word form) value parts = IsWordSaid form value parts
IsSaid (Form.list form) value parts = IsListSaid form value parts
IsSaid Form.pairs value parts = (pairs : List (List ℕ × List ℕ)) × ArePairs value pairs × (parts ≡ Parts.pairs pairs)

-- what an option says: a flag nothing, a truth whether it is true, another one what its value says
abbrev pub IsOptionSaid : Arity → Form → List ℕ → Parts → Type 0
IsOptionSaid Arity.flag form value parts = parts ≡ Parts.flag
IsOptionSaid Arity.truth form value parts = (b : Bool) × (truth_of value ≡ Some b) × (parts ≡ Parts.truth b)
IsOptionSaid _ form value parts = IsSaid form value parts

-- the row of an option in the table of its command
abbrev pub option_row : List ℕ → List ℕ → Option OptionRow
option_row command option = option_and_then (λ row. find (λ (o : OptionRow). same_name option o.kept) row.options) (row_of command)

-- the option is this clause
pub record IsClauseOf (command : List ℕ) (g : Given) (c : Clause) : Type 0 where
  pub option_is : c.option ≡ g.option
  pub bytes_are : c.bytes ≡ g.value
  pub row : OptionRow
  pub row_is : option_row command g.option ≡ Some row
  pub said : IsOptionSaid row.arity row.form g.value c.parts

-- the command is this statement
pub record IsStatementOf (c : Command) (s : Statement) : Type 0 where
  pub name_is : s.name ≡ c.name
  pub args_are : s.args ≡ c.args
  pub line_is : s.line ≡ c.line
  pub passed_is : s.passed ≡ c.passed
  pub clauses_are : AllZip (IsClauseOf c.name) c.options.given s.clauses

-- The line is this statement: it is a command, and that is the statement.
pub record IsStatement (line : Line) (s : Statement) : Type 0 where
  pub command : Command
  pub is_command : IsCommand line command
  pub is_statement : IsStatementOf command s

-- the readers of scripts
abbrev pub readers : Readers
readers = record { IsScript = ReadsAsLines; HasScriptFault = HasTclFault; IsStatement = IsStatement; HasFormFault = HasCommandFault }
