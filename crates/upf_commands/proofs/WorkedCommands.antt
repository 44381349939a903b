-- Lines that were read by hand.
use Rattle.std.proofs.Common.{◌≡◌, ℕ, true, false, List, [], ◌∷◌, inl, inr, codes, refl, ap, subst₂}
use Rattle.pw_defs.specs.declared.faults.CmdFault.TheVariants.{U1, U2, U3, U4, T2}
use Rattle.pw_defs.specs.declared.faults.At.{At}
use Rattle.pw_defs.specs.declared.script.Command.{Command}
use Rattle.pw_defs.specs.declared.script.Given.{Given}
use Rattle.pw_defs.specs.declared.script.Line.{Line}
use Rattle.pw_defs.specs.declared.faults.TclFault.TheVariants.{T1 as T1Fault, T2 as T2Fault}
use Rattle.tcl_words.proofs.ListLaws.{parts_so, fault_so, parts_or_fault, one_list_fault}
use Rattle.tcl_words.specs.ListWords.{PartsInto, HasListFault}
use Rattle.upf_commands.specs.CommandFaults.{IsBad, HasUnclosed, HasCommandFault, no_command, no_option, absent, misformed, after_word, again, key, form}
use Rattle.upf_commands.specs.CommandRows.{OptionRow, CommandRow, may, must, also, bare, stating}
use Rattle.upf_commands.specs.CommandWords.{Item, row_of, own, given, unknown, lacking}
use Rattle.upf_commands.specs.Commands.{IsCommand, passes, good_own, good_option}
use Rattle.upf_commands.specs.Forms.{Form, HasFormFault, word, list, pairs, any, simple, names, power_state}
use Rattle.upf_commands.specs.CommandTable.{commands}
use Rattle.upf_commands.proofs.CommandReading.{items_of, has_items, first_bad, none_bad, reads_command, found}
use Rattle.upf_commands.proofs.CommandLaws.{good_or_bad}

-- the line, the row and the items of a command in line 1
abbrev line : List ℕ → List (List ℕ) → Line
line name words = record { number = 1; words = name ∷ words }

abbrev row : List ℕ → CommandRow
row name = found (row_of name)

abbrev items : List ℕ → List (List ℕ) → List Item
items name words = items_of (row name) words

-- an option with its value, as it is kept
abbrev kept : List ℕ → List ℕ → Given
kept option value = record { option = option; value = value; line = 1 }

abbrev made : List ℕ → List (List ℕ) → List Given → Command
made name args options = record { name = name; args = args; options = record { given = options }; line = 1; passed = false }

abbrev named : List ℕ → At
named name = record { line = 1; name = name }

abbrev net : List ℕ
net = codes "create_supply_net"

abbrev join : List ℕ
join = codes "connect_supply_net"

abbrev isolation : List ℕ
isolation = codes "set_isolation"

-- a command that isn't in the table
pub unknown_command : HasCommandFault (line (codes "make_power") (codes "x" ∷ [])) (U1 (named (codes "make_power")))
unfolding row_of commands
unknown_command = no_command (codes "make_power") (codes "x" ∷ []) refl refl

-- a command that is passed over: only its name is looked at
pub passed_command_line : IsCommand (line (codes "upf_version") (codes "3.0" ∷ codes "-x" ∷ []))
    (record { name = codes "upf_version"; args = []; options = record { given = [] }; line = 1; passed = true })
unfolding row_of commands
passed_command_line = passes (row (codes "upf_version")) (codes "3.0" ∷ codes "-x" ∷ []) refl refl refl

-- a command with its own word alone
pub net_command : IsCommand (line net (codes "VA" ∷ [])) (made net (codes "VA" ∷ []) [])
unfolding row_of commands
net_command = reads_command (line net (codes "VA" ∷ [])) (row net) (codes "VA" ∷ []) refl refl refl refl refl (good_own (codes "VA") simple refl refl refl, tt)

-- a list of names
abbrev ports : List (List ℕ)
ports = codes "VA" ∷ codes "-ports" ∷ codes "{p} q" ∷ []

pub join_command : IsCommand (line join ports) (made join (codes "VA" ∷ []) (kept (codes "-ports") (codes "{p} q") ∷ []))
unfolding row_of commands
join_command =
    reads_command (line join ports) (row join) ports refl refl refl refl refl (
      good_own (codes "VA") any refl refl tt,
      (
        good_option (must (codes "-ports") (list names)) (codes "{p} q") refl (λ twice. cc twice.0.1)
            (codes "p" ∷ codes "q" ∷ [], parts_so (codes "{p} q") (codes "p" ∷ codes "q" ∷ []) refl, tt),
        tt,
      ),
    )

-- another spelling of an option, and an option without a value
abbrev forced : List (List ℕ)
forced = codes "I" ∷ codes "-domain" ∷ codes "PB" ∷ codes "-isolation_supply_set" ∷ codes "SB" ∷ codes "-force_isolation" ∷ []

pub isolation_command : IsCommand (line isolation forced)
    (made isolation (codes "I" ∷ []) (kept (codes "-domain") (codes "PB") ∷ kept (codes "-isolation_supply") (codes "SB") ∷ kept (codes "-force_isolation") (codes "TRUE") ∷ []))
unfolding row_of commands
isolation_command =
    reads_command (line isolation forced) (row isolation) forced refl refl refl refl refl (
      good_own (codes "I") simple refl refl refl,
      (
        good_option (must (codes "-domain") (word any)) (codes "PB") refl (λ twice. cc twice.0.1) tt,
        (
          good_option (also (codes "-isolation_supply_set") (codes "-isolation_supply") (word any)) (codes "SB") refl (λ twice. cc twice.0.1) tt,
          (
            good_option (bare (codes "-force_isolation")) (codes "TRUE") refl (λ twice. cc twice.0.1) tt,
            tt,
          ),
        ),
      ),
    )

-- a word that is no option of the command
abbrev reused : List (List ℕ)
reused = codes "VA" ∷ codes "-reuse" ∷ []

pub unknown_option : HasCommandFault (line net reused) (U2 (named (codes "-reuse")))
unfolding row_of commands
unknown_option = no_option (row net) (items net reused) (codes "-reuse") [] (has_items (line net reused) (row net) reused refl refl refl) refl

-- an option that the command needs, and the value of an option
pub missing_option : HasCommandFault (line join (codes "VA" ∷ [])) (U3 (named (codes "-ports")))
unfolding row_of commands
missing_option =
    absent (row join) (items join (codes "VA" ∷ [])) (codes "-ports") [] (has_items (line join (codes "VA" ∷ [])) (row join) (codes "VA" ∷ []) refl refl refl) refl refl

abbrev without_value : List (List ℕ)
without_value = codes "-domain" ∷ []

pub missing_value : HasCommandFault (line net without_value) (U3 (named (codes "-domain")))
unfolding row_of commands
missing_value =
    absent (row net) (items net without_value) (codes "-domain") (net ∷ []) (has_items (line net without_value) (row net) without_value refl refl refl) refl refl

-- an option that is given twice
abbrev twice_given : List (List ℕ)
twice_given = codes "VA" ∷ codes "-domain" ∷ codes "D" ∷ codes "-domain" ∷ codes "E" ∷ []

pub option_twice : HasCommandFault (line net twice_given) (U4 (named (codes "-domain")))
unfolding row_of commands
option_twice =
    misformed (row net) (items net twice_given) (given (may (codes "-domain") (word any)) (codes "E")) (has_items (line net twice_given) (row net) twice_given refl refl refl) refl refl
    (
    first_bad (row net) (own (codes "VA") ∷ given (may (codes "-domain") (word any)) (codes "D") ∷ []) (given (may (codes "-domain") (word any)) (codes "E")) []
    (good_own (codes "VA") simple refl refl refl, (good_option (may (codes "-domain") (word any)) (codes "D") refl (λ twice. cc twice.0.1) tt, tt))
    (again (may (codes "-domain") (word any)) (codes "E") refl)
    )

-- two options of which a command takes one
abbrev both_ways : List (List ℕ)
both_ways = codes "-no_isolation" ∷ codes "-force_isolation" ∷ codes "I" ∷ codes "-domain" ∷ codes "D" ∷ []

pub options_apart : HasCommandFault (line isolation both_ways) (U4 (named (codes "-force_isolation")))
unfolding row_of commands
options_apart =
    misformed (row isolation) (items isolation both_ways) (given (bare (codes "-force_isolation")) (codes "TRUE"))
    (has_items (line isolation both_ways) (row isolation) both_ways refl refl refl) refl refl
    (
    first_bad (row isolation) (given (bare (codes "-no_isolation")) (codes "TRUE") ∷ []) (given (bare (codes "-force_isolation")) (codes "TRUE"))
    (own (codes "I") ∷ given (must (codes "-domain") (word any)) (codes "D") ∷ [])
    (good_option (bare (codes "-no_isolation")) (codes "TRUE") refl (λ twice. cc twice.0.1) tt, tt)
    (again (bare (codes "-force_isolation")) (codes "TRUE") refl)
    )

-- a list that can't be parted
abbrev run_on : List (List ℕ)
run_on = codes "VA" ∷ codes "-ports" ∷ codes "{p}q" ∷ []

-- its value is no list
its_fault : HasListFault (codes "{p}q") (T2Fault (named (codes "-")))
its_fault = fault_so (codes "{p}q") (T2Fault (named (codes "-"))) refl

not_parted : (words : List (List ℕ)) → ¬ PartsInto (codes "{p}q") words
not_parted words h = parts_or_fault (codes "{p}q") words (T2Fault (named (codes "-"))) h its_fault

not_bad : ¬ IsBad (row join) (own (codes "VA") ∷ []) (given (must (codes "-ports") (list names)) (codes "{p}q"))
unfolding row_of commands
not_bad (again o text e) = cc
not_bad (key o text twice) = cc twice.0.1
not_bad (form o text other) = not_parted other.0 other.1

form_of : Item → Form
form_of (own text) = pairs
form_of (given o text) = o.form
form_of (unknown text) = pairs
form_of (lacking o) = pairs

value_of : Item → List ℕ
value_of (own text) = text
value_of (given o text) = text
value_of (unknown text) = text
value_of (lacking o) = []

closed_list : (o : OptionRow) (text : List ℕ) (at : At) → given o text ≡ given (must (codes "-ports") (list names)) (codes "{p}q")
    → HasFormFault o.form text (T1Fault at) → ⊥
unfolding form_of value_of
closed_list o text at e h =
    let row : o.form ≡ list names = ap form_of e in
    let value : text ≡ codes "{p}q" = ap value_of e in
    let one : T1Fault at ≡ T2Fault (named (codes "-")) =
    one_list_fault (codes "{p}q") (T1Fault at) (T2Fault (named (codes "-"))) (subst₂ (λ f t. HasFormFault f t (T1Fault at)) row value h) its_fault in
    cc

not_open : ¬ HasUnclosed (own (codes "VA") ∷ given (must (codes "-ports") (list names)) (codes "{p}q") ∷ [])
not_open h = elim h.3 [ inl e ↦ cc | inr more ↦ elim more [ inl e ↦ closed_list h.0 h.1 h.2 e h.4 | inr none ↦ absurd none ] ]

pub unparted_list : HasCommandFault (line join run_on) (T2 (named (codes "-")))
unfolding row_of commands
unparted_list =
    after_word (row join) (items join run_on) (has_items (line join run_on) (row join) run_on refl refl refl) refl refl
    (none_bad (row join) (items join run_on) ((λ bad. good_or_bad (row join) [] (own (codes "VA")) (good_own (codes "VA") any refl refl tt) bad), (not_bad, tt)))
    not_open
    (must (codes "-ports") (list names), codes "{p}q", named (codes "-"), inr (inl refl), its_fault)

-- a power state whose options are a word of their own
pub options_apart_from_name : items_of (row (codes "add_power_state")) (codes "SA" ∷ codes "-state" ∷ codes "up" ∷ codes "-illegal" ∷ codes "-complete" ∷ [])
    ≡ own (codes "SA") ∷ given (stating (codes "-state") (list power_state)) (codes "up -illegal") ∷ given (bare (codes "-complete")) (codes "TRUE") ∷ []
unfolding row_of commands
options_apart_from_name = refl
