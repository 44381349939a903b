-- What a row of the table of commands says.
use Rattle.std.specs.Prelude.{ℕ, Bool, true, false, List, [], Option, Some, None}
use Rattle.upf_commands.specs.Forms.{Form, word, any, WordForm}

-- What stands behind an option: a value; nothing; a truth, or nothing where it is true; nothing, where the option stands for
-- another one with a value; or a power state in one word or two.
pub data Arity : Type 0 where
  value : Arity
  flag : Arity
  truth : Arity
  means : List ℕ → Arity
  state : Arity

-- An option of a command: the word that gives it, the name under which it is kept, what stands behind it and the form of
-- that, whether a command may give it more than once, and whether it must.
pub record OptionRow : Type 0 where
  pub spelled : List ℕ
  pub kept : List ℕ
  pub arity : Arity
  pub form : Form
  pub repeats : Bool
  pub needed : Bool

-- A command: its name, the form of its own word if it has one, its options, and the groups of options of which it takes at
-- most one. Of a command that is passed over only the name is looked at.
pub record CommandRow : Type 0 where
  pub name : List ℕ
  pub own : Option WordForm
  pub options : List OptionRow
  pub apart : List (List (List ℕ))
  pub passed : Bool

-- an option that may be given
abbrev pub may : List ℕ → Form → OptionRow
may name form = record { spelled = name; kept = name; arity = value; form = form; repeats = false; needed = false }

-- an option that must be given
abbrev pub must : List ℕ → Form → OptionRow
must name form = record { spelled = name; kept = name; arity = value; form = form; repeats = false; needed = true }

-- an option that may be given any number of times
abbrev pub often : List ℕ → Form → OptionRow
often name form = record { spelled = name; kept = name; arity = value; form = form; repeats = true; needed = false }

-- an option that must be given, once or more
abbrev pub some : List ℕ → Form → OptionRow
some name form = record { spelled = name; kept = name; arity = value; form = form; repeats = true; needed = true }

-- an option without a value
abbrev pub bare : List ℕ → OptionRow
bare name = record { spelled = name; kept = name; arity = flag; form = word any; repeats = false; needed = false }

-- an option that is true or false
abbrev pub either : List ℕ → OptionRow
either name = record { spelled = name; kept = name; arity = truth; form = word any; repeats = false; needed = false }

-- another word for an option
abbrev pub also : List ℕ → List ℕ → Form → OptionRow
also spelled kept form = record { spelled = spelled; kept = kept; arity = value; form = form; repeats = false; needed = false }

-- a word that stands for an option with a value
abbrev pub for : List ℕ → List ℕ → List ℕ → Form → OptionRow
for spelled kept text form = record { spelled = spelled; kept = kept; arity = means text; form = form; repeats = false; needed = false }

-- an option that gives a power state, any number of times
abbrev pub stating : List ℕ → Form → OptionRow
stating name form = record { spelled = name; kept = name; arity = state; form = form; repeats = true; needed = false }

-- a command with an own word of this form
abbrev pub command : List ℕ → WordForm → List OptionRow → CommandRow
command name own options = record { name = name; own = Some own; options = options; apart = []; passed = false }

-- a command without an own word
abbrev pub wordless : List ℕ → List OptionRow → CommandRow
wordless name options = record { name = name; own = None; options = options; apart = []; passed = false }

-- a command that takes at most one option of each group
abbrev pub choosing : CommandRow → List (List (List ℕ)) → CommandRow
choosing row groups = record row { apart = groups }

-- a command that is passed over
abbrev pub passed_over : List ℕ → CommandRow
passed_over name = record { name = name; own = None; options = []; apart = []; passed = true }
