-- When the options of a command can be taken apart: each stands in the command's row, and its value has the form that the
-- row asks for.
use Rattle.std.specs.Prelude.{◌≡◌, ℕ, List, Option, Some, IsSome, find}
use Rattle.list_defs.specs.Members.{IsIn, same_name}
use Rattle.pw_defs.specs.declared.script.Command.{Command}
use Rattle.pw_defs.specs.declared.script.Given.{Given}
use Rattle.pw_defs.specs.declared.script.Line.{Line}
use Rattle.upf_commands.specs.CommandRows.{Arity, flag, truth, CommandRow, OptionRow}
use Rattle.upf_commands.specs.CommandWords.{row_of}
use Rattle.upf_commands.specs.Commands.{IsCommand}
use Rattle.upf_commands.specs.Forms.{Form, HasForm}
use Rattle.upf_commands.specs.Values.{truth_of}

-- some line is the command
pub record IsOfSomeLine (c : Command) : Type 0 where
  pub line : Line
  pub is : IsCommand line c

-- the row of an option, by the name under which it is kept
abbrev pub kept_option : CommandRow → List ℕ → Option OptionRow
kept_option row name = find (λ (o : OptionRow). same_name name o.kept) row.options

-- the value can be taken apart
abbrev pub IsTaken : Arity → Form → List ℕ → Type 0
IsTaken flag form value = Unit {0}
IsTaken truth form value = IsSome (truth_of value)
IsTaken _ form value = HasForm form value

-- the option can be
pub record IsTakenOption (row : CommandRow) (g : Given) : Type 0 where
  pub option : OptionRow
  pub option_is : kept_option row g.option ≡ Some option
  pub taken : IsTaken option.arity option.form g.value

-- all of them can be
pub record AreTakenOptions (row : CommandRow) (given : List Given) : Type 0 where
  pub each : (g : Given) → IsIn g given → IsTakenOption row g

-- those of a command
pub record IsTakenCommand (c : Command) : Type 0 where
  pub row : CommandRow
  pub row_is : row_of c.name ≡ Some row
  pub options : AreTakenOptions row c.options.given
