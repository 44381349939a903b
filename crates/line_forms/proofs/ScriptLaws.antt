-- A script that is read is spelled so, and a script that is spelled so is read.
use Rattle.std.proofs.Common.{◌≡◌, ℕ, suc, ◌+◌, ◌<◌, Bool, true, false, not, eqb, List, [], ◌∷◌, ◌++◌, length, drop, Option, Some, None, inl, inr, refl, sym, ap, subst, ◌∙◌, append_assoc, arith}
use Rattle.std.specs.Prelude.{codes, IfSome, option_map}
use Rattle.std.specs.Char.{digit_value}
use Rattle.std.specs.List.{flat_map, list_all, AllByRecursion, position_or_len, before_first}
use Rattle.std.specs.Str.{bytes_eq}
use Rattle.std.specs.Str.Parse.{AllDigits}
use Rattle.std.proofs.lemmas.Bool.{eqb-true}
use Rattle.std.proofs.lemmas.List.{take_at, drop_at, take-append-drop}
use Rattle.std.proofs.lemmas.Slice.Eq.{bytes_eq-Decides}
use Rattle.pw_defs.specs.declared.values.Value.{Value}
use Rattle.pw_defs.specs.declared.values.Value.TheVariants.{Off, On}
use Rattle.text_defs.specs.Volts.{is_point, digits_of, IsVolts}
use Rattle.line_forms.specs.Names.{IsId}
use Rattle.line_forms.specs.ScriptForm.{state_text, ground_text, element_text, command_text, script_text, ReadsAs, IsState, IsCommand, AreCommands}
use Rattle.line_forms.specs.Reading.{◌>>=◌, behind, nothing_at, word_at, before_at, both_at, map_at, name_at, has_more}
use Rattle.line_forms.specs.ScriptReading.{volts_of, value_of, is_brace, value_at, state_of, state_at, has_state, states_at, supply_net_at, supply_state_at, ground_at, supply_set_at, element_at, elements_at, domain_at, command_at, script_at}
use Rattle.line_forms.specs.declared.script_lines.StateWords.{StateWords}
use Rattle.line_forms.specs.declared.script_lines.CommandLine.{CommandLine}
use Rattle.line_forms.specs.declared.script_lines.CommandLine.TheVariants.{SupplyNet, SupplyState, SupplySet, Domain}
use Rattle.line_forms.proofs.Laws.{Finds, Again, Anything, nothing_finds, word_finds, word_again, before_finds, before_again, both_finds, both_again, map_finds, map_again, choice_finds, word_map_finds, led_map_finds, led_miss, InARow, many_finds, many_again, some_finds, some_again, some_is, bind_some, chosen}
use Rattle.line_forms.proofs.NameLaws.{Stops, name_finds, name_again, name_is_not, run_len}
use Rattle.line_forms.proofs.VoltLaws.{volts_found, volts_again}

-- ---- values

value_found : (word : List ℕ) (value : Value) → value_of word ≡ Some value → ReadsAs word value
unfolding value_of
value_found word value e =
    elim (chosen (bytes_eq word (codes "off")) (Some Off) (option_map (λ v. On v) (volts_of word)) (Some value) e) [
      | inl h ↦ subst (ReadsAs word) (some_is Off value h.1) ((bytes_eq-Decides word (codes "off")).0 h.0)
      | inr m ↦ on_found (volts_of word) refl m.1
    ]
  where
    on_found : (o : Option ℕ) → volts_of word ≡ o → option_map (λ v. On v) o ≡ Some value → ReadsAs word value
    on_found (Some v) is e = subst (ReadsAs word) (some_is (On v) value e) (volts_found word v is)
    on_found None is e = absurd cc

no_off : (v : ℕ) → IsVolts (codes "off") v → ⊥
no_off v is = let letter : digit_value 111 < 10 = is.digits.1.0 in absurd (omega arith)

value_again : (word : List ℕ) (value : Value) → ReadsAs word value → value_of word ≡ Some value
unfolding value_of
value_again word Off is = rw is refl
value_again word (On v) is = rw (no_word (bytes_eq word (codes "off")) refl, volts_again word v is) refl
  where
    no_word : (b : Bool) → bytes_eq word (codes "off") ≡ b → bytes_eq word (codes "off") ≡ false
    no_word true e = absurd (no_off v (subst (λ (t : List ℕ). IsVolts t v) ((bytes_eq-Decides word (codes "off")).0 e) is))
    no_word false e = e

abbrev no_brace : ℕ → Bool
no_brace b = not (is_brace b)

digit_is_not : (b : ℕ) → digit_value b < 10 → no_brace b ≡ true
digit_is_not b lt = by_test (eqb b 125) refl
  where
    by_test : (t : Bool) → eqb b 125 ≡ t → no_brace b ≡ true
    by_test true e = let same : b ≡ 125 = eqb-true b 125 e in absurd (brace_is_no_digit (subst (λ (x : ℕ). digit_value x < 10) same lt))
      where
        brace_is_no_digit : digit_value 125 < 10 → ⊥
        brace_is_no_digit h = absurd (omega arith)
    by_test false e = rw e refl

digits_pass : (ds : List ℕ) → AllDigits 10 ds → list_all no_brace ds ≡ true
digits_pass [] all = refl
digits_pass (b ∷ ds) all = rw (digit_is_not b all.0) (digits_pass ds all.1)

volts_pass : (text : List ℕ) → AllDigits 10 (digits_of text) → list_all no_brace text ≡ true
volts_pass [] all = refl
volts_pass (b ∷ bs) all = by_test (eqb b 46) refl (volts_pass bs)
  where
    rest_len : ℕ
    rest_len = position_or_len is_point bs

    by_test : (t : Bool) → eqb b 46 ≡ t → (AllDigits 10 (digits_of bs) → list_all no_brace bs ≡ true) → list_all no_brace (b ∷ bs) ≡ true
    by_test true e others =
        let same : b ≡ 46 = eqb-true b 46 e in
        let digits : AllDigits 10 bs = rw e at all in
        rw same (digits_pass bs digits)
    by_test false e others =
        let n : 1 + position_or_len is_point bs ≡ suc (position_or_len is_point bs) = omega arith in
        let m : suc (position_or_len is_point bs) + 1 ≡ suc (position_or_len is_point bs + 1) = omega arith in
        let digits : (digit_value b < 10) × AllDigits 10 (digits_of bs) = rw (e, n, m) at all in
        rw (digit_is_not b digits.0) (others digits.1)

word_passes : (word : List ℕ) (value : Value) → ReadsAs word value → list_all no_brace word ≡ true
word_passes word Off is = rw is refl
word_passes word (On v) is = volts_pass word is.digits.1

abbrev word_text : List ℕ × Value → List ℕ
word_text p = p.0

abbrev IsWord : List ℕ × Value → Type 0
IsWord p = ReadsAs p.0 p.1

abbrev Brace : List ℕ → Type 0
Brace rest = (more : List ℕ) × (rest ≡ 125 ∷ more)

value_finds : Finds value_at word_text IsWord
unfolding value_at
value_finds = record {
  found = λ text p rest e.
      let word = before_first is_brace text in
      let left = drop (position_or_len is_brace text) text in
      let b = bind_some (value_of word) (λ value. Some ((word, value), left)) (p, rest) e in
      subst (λ (z : (List ℕ × Value) × List ℕ). (text ≡ z.0.0 ++ z.1) × ReadsAs z.0.0 z.0.1) (some_is ((word, b.0), left) (p, rest) b.2) (sym (take-append-drop (position_or_len is_brace text) text), value_found word b.0 b.1);
}

value_before : (p : List ℕ × Value) (more : List ℕ) → IsWord p → value_at (word_text p ++ 125 ∷ more) ≡ Some (p, 125 ∷ more)
unfolding value_at
value_before p more is =
    let n : position_or_len is_brace (p.0 ++ 125 ∷ more) ≡ length p.0 = run_len no_brace p.0 (125 ∷ more) (word_passes p.0 p.1 is) refl in
    rw (n, take_at p.0 (125 ∷ more) (length p.0) refl, drop_at p.0 (125 ∷ more) (length p.0) refl, value_again p.0 p.1 is) refl

value_law : Again value_at word_text IsWord Brace
value_law = record { again = λ p rest is brace. subst (λ (t : List ℕ). value_at (word_text p ++ t) ≡ Some (p, t)) (sym brace.1) (value_before p brace.0 is) }

-- ---- states

pub state_finds : Finds state_at state_text IsState
unfolding state_at
state_finds =
    map_finds state_of state_text IsState (word_finds (codes " -state {") (both_finds name_finds (word_finds (codes " ") (before_finds (codes "}") value_finds)))) (λ p. refl)
    (λ p is. record { name = is.0; value = is.1 })

abbrev state_parts : StateWords → List ℕ × (List ℕ × Value)
state_parts state = (state.name, (state.word, state.value))

state_again : Again state_at state_text IsState Anything
unfolding state_at
state_again =
    map_again state_of state_parts state_text IsState
    (word_again (codes " -state {") (both_again name_again (word_again (codes " ") (before_again (codes "}") value_law (λ rest. (rest, refl)))) (λ p rest is follows. refl))) (λ state. refl)
    (λ state is. (is.name, is.value)) (λ state. refl)

pub state_size : (state : StateWords) → IsState state → 0 < length (state_text state)
state_size state is = omega arith

states_in_a_row : InARow state_at state_text IsState has_state Anything
unfolding behind
states_in_a_row = record { size = state_size; goes = λ state rest is. refl; next = λ state rest is. tt }

abbrev AreStates : List StateWords → Type 0
AreStates states = (0 < length states) × AllByRecursion IsState states

states_finds : Finds states_at (flat_map state_text) AreStates
unfolding states_at
states_finds = some_finds state_at state_at state_text state_text (flat_map state_text) IsState has_state (λ x xs. refl) state_finds state_finds

states_again : Again states_at (flat_map state_text) AreStates (λ rest. Unit {0} × (has_state rest ≡ false))
unfolding states_at
states_again = some_again state_at state_at state_text state_text (flat_map state_text) IsState has_state (λ x xs. refl) Anything state_again state_again states_in_a_row

-- ---- optional parts

abbrev IsGiven : Option (List ℕ) → Type 0
IsGiven name = IfSome name IsId

abbrev Newline : List ℕ → Type 0
Newline rest = (more : List ℕ) × (rest ≡ 10 ∷ more)

ground_finds : Finds ground_at ground_text IsGiven
unfolding ground_at
ground_finds = led_map_finds (codes " -function {ground ") (λ net. Some net) (before_finds (codes "}") name_finds) (λ net. refl) (λ net is. is) (nothing_finds ground_text IsGiven None refl tt)

ground_before : (net : Option (List ℕ)) (more : List ℕ) → IsGiven net → ground_at (ground_text net ++ 10 ∷ more) ≡ Some (net, 10 ∷ more)
unfolding ground_at behind
ground_before None more is = refl
ground_before (Some name) more is =
    ap (λ (o : Option (List ℕ × List ℕ)). o >>= λ x. Some (Some x.0, x.1)) ((before_again (codes "}") name_again (λ rest. refl)).again name (10 ∷ more) is tt)

ground_law : Again ground_at ground_text IsGiven Newline
ground_law = record { again = λ net rest is newline. subst (λ (t : List ℕ). ground_at (ground_text net ++ t) ≡ Some (net, t)) (sym newline.1) (ground_before net newline.0 is) }

element_finds : Finds element_at element_text IsGiven
unfolding element_at
element_finds = choice_finds (codes ".") None refl tt (map_finds (λ inst. Some inst) element_text IsGiven name_finds (λ inst. refl) (λ inst is. is))

element_read : (element : Option (List ℕ)) (rest : List ℕ) → IsGiven element → Stops rest → element_at (element_text element ++ rest) ≡ Some (element, rest)
unfolding element_at behind
element_read None rest is stops = refl
element_read (Some inst) rest is stops =
    led_miss (codes ".") (nothing_at None) (map_at (λ i. Some i) name_at) (inst ++ rest) (name_is_not inst 46 [] rest is refl)
    ∙ ap (λ (o : Option (List ℕ × List ℕ)). o >>= λ x. Some (Some x.0, x.1)) (name_again.again inst rest is stops)

element_law : Again element_at element_text IsGiven Stops
element_law = record { again = λ element rest is stops. element_read element rest is stops }

elements_text : Option (List ℕ) → List ℕ
elements_text element = codes " -elements {" ++ (element_text element ++ codes "}")

elements_finds : Finds elements_at elements_text IsGiven
unfolding elements_at elements_text
elements_finds = word_finds (codes " -elements {") (before_finds (codes "}") element_finds)

elements_law : Again elements_at elements_text IsGiven Anything
unfolding elements_at elements_text
elements_law = word_again (codes " -elements {") (before_again (codes "}") element_law (λ rest. refl))

-- ---- commands

-- a supply net's name, and the end of the line
net_law : Again (before_at name_at (codes "\n")) (λ net. net ++ codes "\n") IsId Anything
net_law = before_again (codes "\n") name_again (λ rest. refl)

-- a supply, and its states
abbrev supply_text : List ℕ × List StateWords → List ℕ
supply_text p = p.0 ++ (flat_map state_text p.1 ++ codes "\n")

abbrev IsSupply : List ℕ × List StateWords → Type 0
IsSupply p = IsId p.0 × AreStates p.1

no_more_states : (rest : List ℕ) → has_state (codes "\n" ++ rest) ≡ false
unfolding behind
no_more_states rest = refl

states_stop : (states : List StateWords) (rest : List ℕ) → Stops ((flat_map state_text states ++ codes "\n") ++ rest)
states_stop [] rest = refl
states_stop (state ∷ states) rest = refl

supply_law : Again (both_at name_at (before_at states_at (codes "\n"))) supply_text IsSupply Anything
supply_law = both_again name_again (before_again (codes "\n") states_again (λ rest. (tt, no_more_states rest))) (λ states rest is follows. states_stop states rest)

-- a supply set, and its nets
abbrev set_text : List ℕ × (List ℕ × Option (List ℕ)) → List ℕ
set_text p = p.0 ++ (codes " -function {power " ++ (p.1.0 ++ (codes "}" ++ (ground_text p.1.1 ++ codes "\n"))))

abbrev IsSet : List ℕ × (List ℕ × Option (List ℕ)) → Type 0
IsSet p = IsId p.0 × (IsId p.1.0 × IsGiven p.1.1)

set_law : Again (both_at name_at (word_at (codes " -function {power ") (both_at name_at (word_at (codes "}") (before_at ground_at (codes "\n")))))) set_text IsSet Anything
set_law =
    both_again name_again (word_again (codes " -function {power ") (both_again name_again (word_again (codes "}") (before_again (codes "\n") ground_law (λ rest. (rest, refl)))) (λ net rest is follows. refl)))
    (λ p rest is follows. refl)

-- a domain, what it has, and its primary supply
abbrev domain_text : List ℕ × (Option (List ℕ) × List ℕ) → List ℕ
domain_text p = p.0 ++ (elements_text p.1.0 ++ (codes " -supply {primary " ++ (p.1.1 ++ codes "}\n")))

abbrev IsDomain : List ℕ × (Option (List ℕ) × List ℕ) → Type 0
IsDomain p = IsId p.0 × (IsGiven p.1.0 × IsId p.1.1)

domain_finds : Finds (both_at name_at (both_at elements_at (word_at (codes " -supply {primary ") (before_at name_at (codes "}\n"))))) domain_text IsDomain
domain_finds = both_finds name_finds (both_finds elements_finds (word_finds (codes " -supply {primary ") (before_finds (codes "}\n") name_finds)))

elements_stop : (p : Option (List ℕ) × List ℕ) (rest : List ℕ) → Stops ((elements_text p.0 ++ (codes " -supply {primary " ++ (p.1 ++ codes "}\n"))) ++ rest)
unfolding elements_text
elements_stop p rest = refl

domain_law : Again (both_at name_at (both_at elements_at (word_at (codes " -supply {primary ") (before_at name_at (codes "}\n"))))) domain_text IsDomain Anything
domain_law =
    both_again name_again (both_again elements_law (word_again (codes " -supply {primary ") (before_again (codes "}\n") name_again (λ rest. refl))) (λ primary rest is follows. tt)) (λ p rest is follows. elements_stop p rest)

domain_spelled : (p : List ℕ × (Option (List ℕ) × List ℕ)) → codes "create_power_domain " ++ domain_text p ≡ command_text (Domain p.0 p.1.0 p.1.1)
unfolding elements_text
domain_spelled p =
    ap (λ (t : List ℕ). codes "create_power_domain " ++ (p.0 ++ (codes " -elements {" ++ t))) (append_assoc (element_text p.1.0) (codes "}") (codes " -supply {primary " ++ (p.1.1 ++ codes "}\n")))

pub command_finds : Finds command_at command_text IsCommand
unfolding command_at supply_net_at supply_state_at supply_set_at domain_at
command_finds =
    led_map_finds (codes "create_supply_net ") (λ net. SupplyNet net) (before_finds (codes "\n") name_finds) (λ net. refl) (λ net is. is)
    (led_map_finds (codes "add_supply_state ") (λ p. SupplyState p.0 p.1) (both_finds name_finds (before_finds (codes "\n") states_finds)) (λ p. refl) (λ p is. (is.0, is.1.0, is.1.1))
    (led_map_finds (codes "create_supply_set ") (λ p. SupplySet p.0 p.1.0 p.1.1)
    (both_finds name_finds (word_finds (codes " -function {power ") (both_finds name_finds (word_finds (codes "}") (before_finds (codes "\n") ground_finds))))) (λ p. refl) (λ p is. (is.0, is.1.0, is.1.1))
    (word_map_finds (codes "create_power_domain ") (λ p. Domain p.0 p.1.0 p.1.1) domain_finds domain_spelled (λ p is. (is.0, is.1.0, is.1.1)))))

command_read : (command : CommandLine) (rest : List ℕ) → IsCommand command → command_at (command_text command ++ rest) ≡ Some (command, rest)
unfolding command_at behind supply_net_at supply_state_at supply_set_at domain_at
command_read (SupplyNet net) rest is = ap (λ (o : Option (List ℕ × List ℕ)). o >>= λ x. Some (SupplyNet x.0, x.1)) (net_law.again net rest is tt)
command_read (SupplyState net states) rest is =
    ap (λ (o : Option ((List ℕ × List StateWords) × List ℕ)). o >>= λ x. Some (SupplyState x.0.0 x.0.1, x.1)) (supply_law.again (net, states) rest (is.0, (is.1, is.2)) tt)
command_read (SupplySet set power return_net) rest is =
    ap (λ (o : Option ((List ℕ × (List ℕ × Option (List ℕ))) × List ℕ)). o >>= λ x. Some (SupplySet x.0.0 x.0.1.0 x.0.1.1, x.1)) (set_law.again (set, (power, return_net)) rest (is.0, (is.1, is.2)) tt)
command_read (Domain domain element primary) rest is =
    ap (λ (t : List ℕ). command_at (t ++ rest)) (sym (domain_spelled (domain, (element, primary))))
    ∙ ap (λ (o : Option ((List ℕ × (Option (List ℕ) × List ℕ)) × List ℕ)). o >>= λ x. Some (Domain x.0.0 x.0.1.0 x.0.1.1, x.1)) (domain_law.again (domain, (element, primary)) rest (is.0, (is.1, is.2)) tt)

command_again : Again command_at command_text IsCommand Anything
command_again = record { again = λ command rest is follows. command_read command rest is }

pub command_size : (command : CommandLine) → IsCommand command → 0 < length (command_text command)
command_size (SupplyNet net) is = omega arith
command_size (SupplyState net states) is = omega arith
command_size (SupplySet set power return_net) is = omega arith
command_size (Domain domain element primary) is = omega arith

command_follows : (command : CommandLine) (rest : List ℕ) → has_more (command_text command ++ rest) ≡ true
command_follows (SupplyNet net) rest = refl
command_follows (SupplyState net states) rest = refl
command_follows (SupplySet set power return_net) rest = refl
command_follows (Domain domain element primary) rest = refl

commands_in_a_row : InARow command_at command_text IsCommand has_more Anything
commands_in_a_row = record { size = command_size; goes = λ command rest is. command_follows command rest; next = λ command rest is. tt }

pub script_finds : Finds script_at script_text AreCommands
unfolding script_at
script_finds = many_finds command_at command_text IsCommand has_more command_finds

pub script_again : Again script_at script_text AreCommands (λ rest. Unit {0} × (has_more rest ≡ false))
unfolding script_at
script_again = many_again command_at command_text IsCommand has_more Anything command_again commands_in_a_row
