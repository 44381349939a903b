-- Scripts that were read by hand.
use Rattle.std.proofs.Common.{ℕ, List, [], ◌∷◌, codes, refl}
use Rattle.pw_defs.specs.declared.faults.TclFault.TheVariants.{T1, T2, T3, T4}
use Rattle.pw_defs.specs.declared.script.Line.{Line}
use Rattle.tcl_words.specs.ScriptWords.{ReadsAsLines, HasTclFault}
use Rattle.tcl_words.proofs.ScriptLaws.{lines_read, fault_read}
use Rattle.worked_jobs.specs.Lines.{pair_lines, bits_lines, macro_lines, chip_lines, switched_lines}
use Rattle.worked_jobs.specs.Texts.{pair_script, bits_script, macro_script, chip_script, switched_script}

-- a script with a comment, with a variable that is set, and with a quoted word in which it is replaced
abbrev with_variable : List ℕ
with_variable = codes "# power\nset v 0.8\nadd_supply_state VA -state \"on $v\"\n"

abbrev its_line : List Line
its_line = record { number = 3; words = codes "add_supply_state" ∷ codes "VA" ∷ codes "-state" ∷ codes "on 0.8" ∷ [] } ∷ []

pub variable_in_quotes : ReadsAsLines with_variable its_line
variable_in_quotes = lines_read with_variable its_line refl

-- a backslash carries a command over its line's end, and a comment; a `;` ends a command, but not in braces
abbrev carried_over : List ℕ
carried_over = codes "a \\\n  b; c {;\n\\\n }\n# d\\\ne ; f\n\"g\"\\\n"

abbrev its_lines : List Line
its_lines =
    record { number = 1; words = codes "a" ∷ codes "b" ∷ [] } ∷ record { number = 2; words = codes "c" ∷ codes ";\n " ∷ [] }
    ∷ record { number = 7; words = codes "g" ∷ [] } ∷ []

pub lines_carried_over : ReadsAsLines carried_over its_lines
lines_carried_over = lines_read carried_over its_lines refl

-- `set` with another number of words is a command, and a `$` without a name stands for itself
abbrev odd_set : List ℕ
odd_set = codes "set v; set {v w} $ ${a-b}"

abbrev odd_lines : List Line
odd_lines =
    record { number = 1; words = codes "set" ∷ codes "v" ∷ [] } ∷ record { number = 1; words = codes "set" ∷ codes "v w" ∷ codes "$" ∷ codes "${a-b}" ∷ [] } ∷ []

pub set_of_two_words : ReadsAsLines odd_set odd_lines
set_of_two_words = lines_read odd_set odd_lines refl

-- an empty script has no lines
pub empty_script : ReadsAsLines [] []
empty_script = lines_read [] [] refl

-- a bracket in a bare word
pub bracket_in_a_word : HasTclFault (codes "create_supply_net [x]") (T3 (record { line = 1; name = codes "-" }))
bracket_in_a_word = fault_read (codes "create_supply_net [x]") (T3 (record { line = 1; name = codes "-" })) refl

-- a quote that is never closed goes before what stands in it
pub open_quote : HasTclFault (codes "a\nb \"$x [y]\n") (T1 (record { line = 2; name = codes "-" }))
open_quote = fault_read (codes "a\nb \"$x [y]\n") (T1 (record { line = 2; name = codes "-" })) refl

-- a variable that isn't set, at its own line
pub unset_variable : HasTclFault (codes "a {\n} $x") (T4 (record { line = 2; name = codes "x" }))
unset_variable = fault_read (codes "a {\n} $x") (T4 (record { line = 2; name = codes "x" })) refl

-- a byte behind a closed word
pub text_behind_a_word : HasTclFault (codes "a {b}c") (T2 (record { line = 1; name = codes "-" }))
text_behind_a_word = fault_read (codes "a {b}c") (T2 (record { line = 1; name = codes "-" })) refl

-- the scripts of the worked jobs
pub pair_script_read : ReadsAsLines pair_script pair_lines
pair_script_read = lines_read pair_script pair_lines refl

pub bits_script_read : ReadsAsLines bits_script bits_lines
bits_script_read = lines_read bits_script bits_lines refl

pub macro_script_read : ReadsAsLines macro_script macro_lines
macro_script_read = lines_read macro_script macro_lines refl

pub chip_script_read : ReadsAsLines chip_script chip_lines
chip_script_read = lines_read chip_script chip_lines refl

pub switched_script_read : ReadsAsLines switched_script switched_lines
switched_script_read = lines_read switched_script switched_lines refl
