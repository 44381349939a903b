-- What is read from a line: the words of a list's text, or why it can't be parted.
use Rattle.std.specs.Prelude.{ℕ, Bool, not, ◌&&◌, is_some, List, [], ◌∷◌, Option, Some, None}
use Rattle.pw_defs.specs.declared.faults.At.{At}
use Rattle.pw_defs.specs.declared.faults.TclFault.TheVariants.{T1, T2}
use Rattle.tcl_words.specs.ListWords.{PartsInto, HasListFault}
use Rattle.std.specs.List.{list_any}
use Rattle.std.specs.Str.{bytes_eq}
use Rattle.upf_commands.specs.CommandRows.{CommandRow}
use Rattle.upf_commands.specs.CommandWords.{Item}
use Rattle.upf_commands.specs.Commands.{own_word}
use Rattle.upf_reader.specs.declared.partings.Parting.{Parting}
use Rattle.upf_reader.specs.declared.partings.Parting.TheVariants.{Words, Unclosed, AfterWord}

-- the text parts so
abbrev pub HasParting : List ℕ → Parting → Type 0
HasParting text (Words words) = PartsInto text words
HasParting text Unclosed = (at : At) × HasListFault text (T1 at)
HasParting text AfterWord = (at : At) × HasListFault text (T2 at)

-- the first of a list, where it has one
abbrev pub first_of : {X : Type 0} → List X → Option X
first_of [] = None
first_of (x ∷ xs) = Some x

-- whether the command needs an own word and hasn't got one
abbrev pub lacks_own : CommandRow → List Item → Bool
lacks_own row items = is_some row.own && not (list_any (λ i. is_some (own_word i)) items)

-- whether some group of options of which a command takes at most one has this one; whether some has both
abbrev pub is_grouped : CommandRow → List ℕ → Bool
is_grouped row name = list_any (λ group. list_any (bytes_eq name) group) row.apart

abbrev pub share_group : CommandRow → List ℕ → List ℕ → Bool
share_group row name other = list_any (λ group. list_any (bytes_eq name) group && list_any (bytes_eq other) group) row.apart
