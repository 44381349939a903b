-- The rows of the table in code, as the definitions see them.
use Rattle.std.specs.Prelude.{ℕ, List, [], ◌∷◌, ◌++◌, map, option_map}
use Rattle.std.specs.Borrow.{Bor}
use Rattle.upf_commands.specs.CommandRows.{Arity, value, flag, truth, means, state, OptionRow, CommandRow}
use Rattle.upf_commands.specs.Forms.{WordForm, any, simple, set_name, handle, file, one_of, volts, ListForm, names, scope, columns, keyed, pair, attribute, switch_port, on_state, supply_state, power_state, Form, word, list, pairs}
use Rattle.upf_reader.specs.declared.table.WordShape.{WordShape}
use Rattle.upf_reader.specs.declared.table.WordShape.TheVariants.{Any, Simple, SetName, Handle, File, OneOf, Volts}
use Rattle.upf_reader.specs.declared.table.ListShape.{ListShape}
use Rattle.upf_reader.specs.declared.table.ListShape.TheVariants.{Names, Scope, Columns, Keyed, Pair, Attribute, SwitchPort, OnState, SupplyState, PowerState}
use Rattle.upf_reader.specs.declared.table.Shape.{Shape}
use Rattle.upf_reader.specs.declared.table.Shape.TheVariants.{Word, List as ListOf, Pairs}
use Rattle.upf_reader.specs.declared.table.Behind.{Behind}
use Rattle.upf_reader.specs.declared.table.Behind.TheVariants.{Value, Flag, Truth, Means, State}
use Rattle.upf_reader.specs.declared.table.OptionLine.{OptionLine}
use Rattle.upf_reader.specs.declared.table.CommandLine.{CommandLine}

-- texts as the definitions see them
abbrev pub texts_view : List (Bor (List ℕ)) → List (List ℕ)
texts_view texts = map (λ t. t.now) texts

abbrev pub word_view : WordShape → WordForm
word_view Any = any
word_view Simple = simple
word_view SetName = set_name
word_view Handle = handle
word_view File = file
word_view (OneOf texts) = one_of (texts_view texts.now)
word_view Volts = volts

abbrev pub list_view : ListShape → ListForm
list_view Names = names
list_view Scope = scope
list_view Columns = columns
list_view (Keyed texts) = keyed (texts_view texts.now)
list_view Pair = pair
list_view Attribute = attribute
list_view SwitchPort = switch_port
list_view OnState = on_state
list_view SupplyState = supply_state
list_view PowerState = power_state

abbrev pub form_view : Shape → Form
form_view (Word shape) = word (word_view shape)
form_view (ListOf shape) = list (list_view shape)
form_view Pairs = pairs

abbrev pub arity_view : Behind → Arity
arity_view Value = value
arity_view Flag = flag
arity_view Truth = truth
arity_view (Means text) = means text.now
arity_view State = state

abbrev pub option_view : OptionLine → OptionRow
option_view o =
    record { spelled = o.spelled.now; kept = o.kept.now; arity = arity_view o.behind; form = form_view o.shape; repeats = o.repeats; needed = o.needed }

abbrev pub command_view : CommandLine → CommandRow
command_view c =
    record {
      name = c.name.now;
      own = option_map word_view c.own;
      options = map option_view c.options.now;
      apart = map (λ g. texts_view g.now) c.apart.now;
      passed = c.passed;
    }

-- the rows of groups of commands
abbrev pub rows_of : List (Bor (List CommandLine)) → List CommandRow
rows_of [] = []
rows_of (group ∷ groups) = map command_view group.now ++ rows_of groups
