-- Values that are shown to have their form by a test. The test says yes to common values alone.
use Rattle.std.proofs.Common.{◌≡◌, ℕ, ◌*◌, ◌-◌, ◌^◌, Bool, true, false, ◌&&◌, ◌||◌, List, [], ◌∷◌, inl, Result, Ok, Err, codes, length, ltb, leb, ltb-true, leb-true, bytes_eq, encode_utf8_all, refl, sym, ap, subst}
use Rattle.std.proofs.lemmas.Bool.{false≢true}
use Rattle.std.specs.Char.{digit_value}
use Rattle.std.specs.Cmp.Lexicographic.{bytes_decides}
use Rattle.std.specs.List.{list_all, list_any}
use Rattle.std.specs.Str.{all_scalars}
use Rattle.std.specs.Str.Parse.{AllDigits, digits_value}
use Rattle.list_defs.proofs.NameLemmas.{IsIn-list_any}
use Rattle.list_defs.specs.Members.{same_name}
use Rattle.pw_defs.specs.declared.faults.TclFault.{TclFault}
use Rattle.pw_defs.specs.declared.values.Value.{Value}
use Rattle.pw_defs.specs.declared.values.Value.TheVariants.{Off, On}
use Rattle.tcl_words.proofs.VariableNames.{and_first, and_second}
use Rattle.tcl_words.proofs.ListLaws.{parting, parts_so}
use Rattle.text_defs.specs.Volts.{IsVolts, digits_of, decimals_of}
use Rattle.upf_commands.specs.Forms.{WordForm, any, simple, set_name, handle, file, one_of, volts, ListForm, names, scope, columns, keyed, pair, switch_port, on_state, supply_state, Form, word, list, pairs, IsWordOf, AreListOf, HasForm, is_column}
use Rattle.upf_commands.specs.Values.{is_simple}
use Rattle.upf_commands.specs.Voltages.{one, IsValue, off, on}

all_digits : List ℕ → Bool
all_digits = list_all (λ c. ltb (digit_value c) 10)

digits_so : (ds : List ℕ) → list_all (λ c. ltb (digit_value c) 10) ds ≡ true → AllDigits 10 ds
digits_so [] h = tt
digits_so (c ∷ cs) h = (
  ltb-true (digit_value c) 10 (and_first (ltb (digit_value c) 10) (list_all (λ d. ltb (digit_value d) 10) cs) h),
  digits_so cs (and_second (ltb (digit_value c) 10) (list_all (λ d. ltb (digit_value d) 10) cs) h),
)

-- the microvolts that a text writes, if it is a voltage
abbrev value_in : List ℕ → ℕ
value_in text = digits_value 10 (digits_of text) * 10 ^ (6 - length (decimals_of text))

abbrev is_volts : List ℕ → Bool
is_volts text =
    (ltb 0 (length (digits_of text)) && list_all (λ c. ltb (digit_value c) 10) (digits_of text))
    && (leb (length (decimals_of text)) 6 && leb (value_in text) 1000000000)

volts_so : (text : List ℕ) → is_volts text ≡ true → IsVolts text (value_in text)
volts_so text h =
    let first = and_first (ltb 0 (length (digits_of text)) && list_all (λ c. ltb (digit_value c) 10) (digits_of text)) _ h in
    let second = and_second (ltb 0 (length (digits_of text)) && list_all (λ c. ltb (digit_value c) 10) (digits_of text)) _ h in
    record {
      digits = (
        ltb-true 0 (length (digits_of text)) (and_first (ltb 0 (length (digits_of text))) _ first),
        digits_so (digits_of text) (and_second (ltb 0 (length (digits_of text))) _ first),
      );
      decimals = leb-true (length (decimals_of text)) 6 (and_first (leb (length (decimals_of text)) 6) _ second);
      value = refl;
      limit = leb-true (value_in text) 1000000000 (and_second (leb (length (decimals_of text)) 6) _ second);
    }

same_so : (x y : List ℕ) → bytes_eq x y ≡ true → x ≡ y
same_so x y h = (bytes_decides x y).0 h

-- whether a word has the form, as far as it is tested
abbrev pub is_word_of : WordForm → List ℕ → Bool
is_word_of any text = true
is_word_of simple text = is_simple text
is_word_of set_name text = is_simple text
is_word_of handle text = false
is_word_of file text = all_scalars text && bytes_eq (encode_utf8_all text) text
is_word_of (one_of words) text = list_any (same_name text) words
is_word_of volts text = is_volts text

pub word_so : (form : WordForm) (text : List ℕ) → is_word_of form text ≡ true → IsWordOf form text
word_so any text h = tt
word_so simple text h = h
word_so set_name text h = inl h
word_so handle text h = absurd (false≢true h)
word_so file text h =
    (text, (and_first (all_scalars text) (bytes_eq (encode_utf8_all text) text) h, same_so (encode_utf8_all text) text (and_second (all_scalars text) (bytes_eq (encode_utf8_all text) text) h)))
word_so (one_of words) text h = IsIn-list_any text words h
word_so volts text h = (value_in text, volts_so text h)

abbrev is_value : List (List ℕ) → Bool
is_value [] = false
is_value (text ∷ []) = bytes_eq text (codes "off") || is_volts text
is_value (text ∷ other ∷ more) = false

value_so : (words : List (List ℕ)) → is_value words ≡ true → (v : Value) × IsValue words v
value_so [] h = absurd (false≢true h)
value_so (text ∷ []) h = by (bytes_eq text (codes "off")) refl h
  where
    by : (t : Bool) → bytes_eq text (codes "off") ≡ t → (t || is_volts text) ≡ true → (v : Value) × IsValue (text ∷ []) v
    by true e h = (Off, subst (λ x. IsValue (x ∷ []) Off) (sym (same_so text (codes "off") e)) off)
    by false e h = (On (value_in text), on (text ∷ []) (value_in text) (one text (value_in text) (volts_so text h)))
value_so (text ∷ other ∷ more) h = absurd (false≢true h)

-- whether the words have the form, as far as it is tested
abbrev is_list_of : ListForm → List (List ℕ) → Bool
is_list_of names words = true
is_list_of scope (text ∷ []) = bytes_eq text (codes ".")
is_list_of columns words = list_all is_column words
is_list_of (keyed keys) (key ∷ text ∷ []) = list_any (same_name key) keys
is_list_of pair (first ∷ second ∷ []) = true
is_list_of switch_port (port ∷ net ∷ []) = is_simple port
is_list_of on_state (state ∷ port ∷ condition ∷ []) = is_simple state && is_simple port
is_list_of supply_state (state ∷ voltage) = is_simple state && is_value voltage
is_list_of _ _ = false

list_so : (form : ListForm) (words : List (List ℕ)) → is_list_of form words ≡ true → AreListOf form words
list_so names words h = tt
list_so scope (text ∷ []) h = ap (λ x. x ∷ []) (same_so text (codes ".") h)
list_so columns words h = h
list_so (keyed keys) (key ∷ text ∷ []) h = (key, text, refl, IsIn-list_any key keys h)
list_so pair (first ∷ second ∷ []) h = (first, second, refl)
list_so switch_port (port ∷ net ∷ []) h = (port, net, refl, h)
list_so on_state (state ∷ port ∷ condition ∷ []) h =
    (state, port, condition, refl, and_first (is_simple state) (is_simple port) h, and_second (is_simple state) (is_simple port) h)
list_so supply_state (state ∷ voltage) h =
    let found = value_so voltage (and_second (is_simple state) (is_value voltage) h) in
    (state, voltage, found.0, refl, and_first (is_simple state) (is_value voltage) h, found.1)
list_so _ _ h = absurd (false≢true h)

abbrev is_parted : ListForm → Result (List (List ℕ)) TclFault → Bool
is_parted form (Ok words) = is_list_of form words
is_parted form (Err fault) = false

-- whether a value has the form, as far as it is tested
abbrev pub is_form : Form → List ℕ → Bool
is_form (word form) text = is_word_of form text
is_form (list form) text = is_parted form (parting text)
is_form pairs text = false

pub form_so : (form : Form) (text : List ℕ) → is_form form text ≡ true → HasForm form text
form_so (word form) text h = word_so form text h
form_so (list form) text h = by (parting text) refl h
  where
    by : (read : Result (List (List ℕ)) TclFault) → parting text ≡ read → is_parted form read ≡ true → HasForm (list form) text
    by (Ok words) e h = (words, parts_so text words e, list_so form words h)
    by (Err fault) e h = absurd (false≢true h)
form_so pairs text h = absurd (false≢true h)
