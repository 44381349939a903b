-- What tests of lists say.
use Rattle.std.proofs.Common.{◌≡◌, ◌↔◌, ℕ, Bor, ◌==◌, ◌<◌, ◌≤◌, Bool, true, false, not, ◌&&◌, ◌||◌, cond, List, [], ◌∷◌, ◌++◌, Option, Some, None, IsTrue, codes, length, get_or, take, take_all, drop, ◌-◌, refl, sym, ap, ◌∙◌, subst, arith, bytes_eq, append_assoc, append-nil, map}
use Rattle.std.specs.Cmp.Lexicographic.{bytes_decides}
use Rattle.std.specs.List.{list_any, flat_map}
use Rattle.std.proofs.lemmas.Bool.{false≢true, true≢false}
use Rattle.list_defs.proofs.NameLemmas.{IsIn-list_any, list_any-IsIn, all_differ-push, all_differ-again}
use Rattle.list_defs.specs.Members.{IsIn, all_differ, same_name}
use Rattle.pw_defs.specs.declared.values.Value.{Value}
use Rattle.pw_defs.specs.declared.values.Value.TheVariants.{Off, On}
use Rattle.tcl_words.proofs.VariableNames.{and_first, and_second}
use Rattle.text_defs.specs.Volts.{IsVolts}
use Rattle.upf_commands.specs.Forms.{AreListOf, keyed, power_state}
use Rattle.upf_commands.specs.Values.{is_simple, StateOption, supply_expr, logic_expr, simstate, legal, illegal, state_word, state_words}
use Rattle.upf_commands.specs.Voltages.{IsVoltage, one, two, three, IsValue, off, on}
use Rattle.upf_reader.specs.Rows.{texts_view}
use Rattle.upf_reader.specs.Tests.{is_keyed, is_off, takes_text, is_mark, behind_option, are_options}
use Rattle.upf_reader.proofs.WordLemmas.{says_no}

-- the words of a list that has one, two or three
pub one_item : {X : Type 0} (xs : List X) (d : X) → 1 ≤ length xs → length xs < 2 → xs ≡ get_or xs 0 d ∷ []
one_item [] d more less = absurd (omega arith)
one_item (x ∷ []) d more less = refl
one_item (x ∷ y ∷ xs) d more less = absurd (omega arith)

pub two_items : {X : Type 0} (xs : List X) (d e : X) → 2 ≤ length xs → length xs < 3 → xs ≡ get_or xs 0 d ∷ get_or xs 1 e ∷ []
two_items [] d e more less = absurd (omega arith)
two_items (x ∷ []) d e more less = absurd (omega arith)
two_items (x ∷ y ∷ []) d e more less = refl
two_items (x ∷ y ∷ z ∷ xs) d e more less = absurd (omega arith)

pub three_items : {X : Type 0} (xs : List X) (d e f : X) → 3 ≤ length xs → length xs < 4 → xs ≡ get_or xs 0 d ∷ get_or xs 1 e ∷ get_or xs 2 f ∷ []
three_items [] d e f more less = absurd (omega arith)
three_items (x ∷ []) d e f more less = absurd (omega arith)
three_items (x ∷ y ∷ []) d e f more less = absurd (omega arith)
three_items (x ∷ y ∷ z ∷ []) d e f more less = refl
three_items (x ∷ y ∷ z ∷ w ∷ xs) d e f more less = absurd (omega arith)

pub front_item : {X : Type 0} (xs : List X) (d : X) → 1 ≤ length xs → xs ≡ get_or xs 0 d ∷ take (length xs - 1) (drop 1 xs)
front_item [] d more = absurd (omega arith)
front_item (x ∷ xs) d more = ap (λ ys. x ∷ ys) (sym (take_all (length (x ∷ xs) - 1) xs (omega arith)))

-- voltages
abbrev pub AnyVoltage : List (List ℕ) → Type 0
AnyVoltage words = (v : ℕ) × IsVoltage words v

abbrev pub Rise : List ℕ → List ℕ → Type 0
Rise first last = (low : ℕ) × (high : ℕ) × IsVolts first low × IsVolts last high × (low ≤ high)

one_volts_of : (a : List ℕ) (v : ℕ) → IsVoltage (a ∷ []) v → IsVolts a v
one_volts_of a v (one w u h) = h

two_volts_of : (a b : List ℕ) (v : ℕ) → IsVoltage (a ∷ b ∷ []) v → Rise a b
two_volts_of a b v (two f l low high h k up) = (low, high, h, k, up)

three_volts_of : (a b c : List ℕ) (v : ℕ) → IsVoltage (a ∷ b ∷ c ∷ []) v → Rise a c
three_volts_of a b c v (three f s l low u high h m k up) = (low, high, h, k, up)

pub one_so : (a : List ℕ) (b : Bool) → IsTrue b ↔ ((v : ℕ) × IsVolts a v) → IsTrue b ↔ AnyVoltage (a ∷ [])
one_so a b h = (λ t. let p = h.0 t in (p.0, one a p.0 p.1), λ p. h.1 (p.0, one_volts_of a p.0 p.1))

pub two_so : (a c : List ℕ) (b : Bool) → IsTrue b ↔ Rise a c → IsTrue b ↔ AnyVoltage (a ∷ c ∷ [])
two_so a c b h = (λ t. let p = h.0 t in (_, two a c p.0 p.1 p.2 p.3 p.4), λ p. h.1 (two_volts_of a c p.0 p.1))

pub three_so : (a m c : List ℕ) (b : Bool) → ((v : ℕ) × IsVolts m v) → IsTrue b ↔ Rise a c → IsTrue b ↔ AnyVoltage (a ∷ m ∷ c ∷ [])
three_so a m c b mid h =
    (λ t. let p = h.0 t in (mid.0, three a m c p.0 mid.0 p.1 p.2 mid.1 p.3 p.4), λ p. h.1 (three_volts_of a m c p.0 p.1))

-- values
pub off_so : (words : List (List ℕ)) → is_off words ≡ true → (v : Value) × IsValue words v
off_so [] e = absurd (false≢true e)
off_so (word ∷ []) e = let same : word ≡ codes "off" = (bytes_decides word (codes "off")).0 e in (Off, subst (λ w. IsValue (w ∷ []) Off) (sym same) off)
off_so (word ∷ other ∷ more) e = absurd (false≢true e)

pub value_so : (words : List (List ℕ)) (b : Bool) → is_off words ≡ false → IsTrue b ↔ AnyVoltage words → IsTrue b ↔ ((v : Value) × IsValue words v)
value_so words b not_off h = (λ t. let p = h.0 t in (On p.0, on words p.0 p.1), λ p. by words p.0 not_off h.1 p.1)
  where
    by : (ws : List (List ℕ)) (v : Value) → is_off ws ≡ false → (AnyVoltage ws → b ≡ true) → IsValue ws v → b ≡ true
    by ws v never back off = absurd (true≢false never)
    by ws v never back (on us n k) = back (n, k)

-- a key and a word
pub keyed_so : (keys words : List (List ℕ)) (b : Bool) → b ≡ is_keyed keys words → IsTrue b ↔ AreListOf (keyed keys) words
keyed_so keys [] b e = says_no b e (λ h. let f = h.2 in cc)
keyed_so keys (key ∷ []) b e = says_no b e (λ h. let f = h.2 in cc)
keyed_so keys (key ∷ text ∷ []) b e =
    (λ t. (key, text, refl, IsIn-list_any key keys (sym e ∙ t)), λ h. let same : h.0 ≡ key = (let f = h.2 in cc) in e ∙ list_any-IsIn key keys (subst (λ k. IsIn k keys) same h.3))
keyed_so keys (key ∷ text ∷ other ∷ more) b e = says_no b e (λ h. let f = h.2 in cc)

-- options of power states
pub options_step : (seen : List (List ℕ)) (word : List ℕ) (rest left : List (List ℕ)) → list_any (bytes_eq word) seen ≡ false
    → behind_option word rest ≡ Some left → are_options seen (word ∷ rest) ≡ are_options (seen ++ word ∷ []) left
options_step seen word [] left new e = by (is_mark word) (list_any (bytes_eq word) seen) new e
  where
    by : (m s : Bool) → s ≡ false → cond m (Some []) None ≡ Some left → (not s && m) ≡ are_options (seen ++ word ∷ []) left
    by true true never e = absurd (true≢false never)
    by true false never e = let empty : [] ≡ left = cc in ap (are_options (seen ++ word ∷ [])) empty
    by false s never e = cc
options_step seen word (text ∷ more) left new e = by (is_mark word) (takes_text word) (list_any (bytes_eq word) seen) new e
  where
    by : (m t s : Bool) → s ≡ false → cond m (Some (text ∷ more)) (cond t (Some more) None) ≡ Some left
        → (not s && cond m (are_options (seen ++ word ∷ []) (text ∷ more)) (t && are_options (seen ++ word ∷ []) more)) ≡ are_options (seen ++ word ∷ []) left
    by m t true never e = absurd (true≢false never)
    by true t false never e = let same : text ∷ more ≡ left = cc in ap (are_options (seen ++ word ∷ [])) same
    by false true false never e = let same : more ≡ left = cc in ap (are_options (seen ++ word ∷ [])) same
    by false false false never e = cc

-- no words are left
abbrev nothing : Option (List (List ℕ))
nothing = None

pub options_stop : (seen : List (List ℕ)) (word : List ℕ) (rest : List (List ℕ)) → behind_option word rest ≡ None → are_options seen (word ∷ rest) ≡ false
options_stop seen word [] e = by (is_mark word) (list_any (bytes_eq word) seen) e
  where
    by : (m s : Bool) → cond m (Some []) nothing ≡ nothing → (not s && m) ≡ false
    by true s e = cc
    by false true e = refl
    by false false e = refl
options_stop seen word (text ∷ more) e = by (is_mark word) (takes_text word) (list_any (bytes_eq word) seen) e
  where
    by : (m t s : Bool) → cond m (Some (text ∷ more)) (cond t (Some more) nothing) ≡ nothing
        → (not s && cond m (are_options (seen ++ word ∷ []) (text ∷ more)) (t && are_options (seen ++ word ∷ []) more)) ≡ false
    by true t s e = cc
    by false true s e = cc
    by false false true e = refl
    by false false false e = refl

pub options_again : (seen : List (List ℕ)) (word : List ℕ) (rest : List (List ℕ)) → list_any (bytes_eq word) seen ≡ true → are_options seen (word ∷ rest) ≡ false
options_again seen word [] e = rw e refl
options_again seen word (text ∷ more) e = rw e refl

-- the words are options that are new behind those seen
record AreNew (seen words : List (List ℕ)) : Type 0 where
  options : List StateOption
  spelled : words ≡ flat_map state_words options
  once : all_differ same_name (seen ++ map state_word options) ≡ true

add_option : (seen : List (List ℕ)) (o : StateOption) (word : List ℕ) (words left : List (List ℕ)) → word ≡ state_word o → words ≡ state_words o ++ left
    → AreNew (seen ++ word ∷ []) left → AreNew seen words
add_option seen o word words left named spelled new =
    record {
      options = o ∷ new.options;
      spelled = spelled ∙ ap (λ ws. state_words o ++ ws) new.spelled;
      once = ap (λ w. all_differ same_name (seen ++ w ∷ map state_word new.options)) (sym named)
          ∙ ap (all_differ same_name) (sym (append_assoc seen (word ∷ []) (map state_word new.options))) ∙ new.once;
    }

equal_word : (word other : List ℕ) → bytes_eq word other ≡ true → word ≡ other
equal_word word other e = (bytes_decides word other).0 e

mark_added : (seen : List (List ℕ)) (word : List ℕ) (left : List (List ℕ)) → is_mark word ≡ true → AreNew (seen ++ word ∷ []) left → AreNew seen (word ∷ left)
mark_added seen word left m new = by (bytes_eq word (codes "-legal")) refl (bytes_eq word (codes "-illegal")) refl m
  where
    by : (a : Bool) → bytes_eq word (codes "-legal") ≡ a → (b : Bool) → bytes_eq word (codes "-illegal") ≡ b → (a || b) ≡ true → AreNew seen (word ∷ left)
    by true e b f m = let same = equal_word word (codes "-legal") e in add_option seen legal word (word ∷ left) left same (ap (λ w. w ∷ left) same) new
    by false e true f m = let same = equal_word word (codes "-illegal") f in add_option seen illegal word (word ∷ left) left same (ap (λ w. w ∷ left) same) new
    by false e false f m = absurd (false≢true m)

text_added : (seen : List (List ℕ)) (word text : List ℕ) (left : List (List ℕ)) → takes_text word ≡ true → AreNew (seen ++ word ∷ []) left
    → AreNew seen (word ∷ text ∷ left)
text_added seen word text left m new =
    by (bytes_eq word (codes "-supply_expr")) refl (bytes_eq word (codes "-logic_expr")) refl (bytes_eq word (codes "-simstate")) refl m
  where
    by : (a : Bool) → bytes_eq word (codes "-supply_expr") ≡ a → (b : Bool) → bytes_eq word (codes "-logic_expr") ≡ b
        → (c : Bool) → bytes_eq word (codes "-simstate") ≡ c → ((a || b) || c) ≡ true → AreNew seen (word ∷ text ∷ left)
    by true e b f c g m =
        let same = equal_word word (codes "-supply_expr") e in add_option seen (supply_expr text) word (word ∷ text ∷ left) left same (ap (λ w. w ∷ text ∷ left) same) new
    by false e true f c g m =
        let same = equal_word word (codes "-logic_expr") f in add_option seen (logic_expr text) word (word ∷ text ∷ left) left same (ap (λ w. w ∷ text ∷ left) same) new
    by false e false f true g m =
        let same = equal_word word (codes "-simstate") g in add_option seen (simstate text) word (word ∷ text ∷ left) left same (ap (λ w. w ∷ text ∷ left) same) new
    by false e false f false g m = absurd (false≢true m)

now_seen : (seen : List (List ℕ)) (word : List ℕ) → all_differ same_name seen ≡ true → not (list_any (bytes_eq word) seen) ≡ true
    → all_differ same_name (seen ++ word ∷ []) ≡ true
now_seen seen word once new = all_differ-push seen word ∙ rw once new

options_so : (seen words : List (List ℕ)) → all_differ same_name seen ≡ true → are_options seen words ≡ true → AreNew seen words
options_so seen [] once h = record { options = []; spelled = refl; once = ap (all_differ same_name) (append-nil seen) ∙ once }
options_so seen (word ∷ []) once h =
    let new = and_first (not (list_any (bytes_eq word) seen)) (is_mark word) h in
    mark_added seen word [] (and_second (not (list_any (bytes_eq word) seen)) (is_mark word) h)
    (record { options = []; spelled = refl; once = ap (all_differ same_name) (append-nil (seen ++ word ∷ [])) ∙ now_seen seen word once new })
options_so seen (word ∷ text ∷ more) once h =
    let new = and_first (not (list_any (bytes_eq word) seen)) _ h in
    by (is_mark word) refl (and_second (not (list_any (bytes_eq word) seen)) _ h)
    (options_so (seen ++ word ∷ []) (text ∷ more) (now_seen seen word once new)) (options_so (seen ++ word ∷ []) more (now_seen seen word once new))
  where
    by : (m : Bool) → is_mark word ≡ m → cond m (are_options (seen ++ word ∷ []) (text ∷ more)) (takes_text word && are_options (seen ++ word ∷ []) more) ≡ true
        → (are_options (seen ++ word ∷ []) (text ∷ more) ≡ true → AreNew (seen ++ word ∷ []) (text ∷ more))
        → (are_options (seen ++ word ∷ []) more ≡ true → AreNew (seen ++ word ∷ []) more) → AreNew seen (word ∷ text ∷ more)
    by true e h whole behind = mark_added seen word (text ∷ more) e (whole h)
    by false e h whole behind =
        text_added seen word text more (and_first (takes_text word) (are_options (seen ++ word ∷ []) more) h)
        (behind (and_second (takes_text word) (are_options (seen ++ word ∷ []) more) h))

not_seen : (seen : List (List ℕ)) (word : List ℕ) (more : List (List ℕ)) → all_differ same_name (seen ++ word ∷ more) ≡ true → list_any (bytes_eq word) seen ≡ false
not_seen seen word more once = by (list_any (bytes_eq word) seen) refl
  where
    by : (t : Bool) → list_any (bytes_eq word) seen ≡ t → t ≡ false
    by true e = absurd (false≢true (sym (all_differ-again seen word more e) ∙ once))
    by false e = refl

behind_mark : (word : List ℕ) (rest : List (List ℕ)) → is_mark word ≡ true → behind_option word rest ≡ Some rest
behind_mark word [] e = rw e refl
behind_mark word (text ∷ more) e = rw e refl

options_back : (seen : List (List ℕ)) (options : List StateOption) → all_differ same_name (seen ++ map state_word options) ≡ true
    → are_options seen (flat_map state_words options) ≡ true
options_back seen [] once = refl
options_back seen (o ∷ options) once =
    by o (options_back (seen ++ state_word o ∷ []) options (ap (all_differ same_name) (append_assoc seen (state_word o ∷ []) (map state_word options)) ∙ once))
    (not_seen seen (state_word o) (map state_word options) once)
  where
    by : (o : StateOption) → are_options (seen ++ state_word o ∷ []) (flat_map state_words options) ≡ true → list_any (bytes_eq (state_word o)) seen ≡ false
        → are_options seen (state_words o ++ flat_map state_words options) ≡ true
    by (supply_expr text) later new = options_step seen (codes "-supply_expr") (text ∷ flat_map state_words options) (flat_map state_words options) new refl ∙ later
    by (logic_expr text) later new = options_step seen (codes "-logic_expr") (text ∷ flat_map state_words options) (flat_map state_words options) new refl ∙ later
    by (simstate text) later new = options_step seen (codes "-simstate") (text ∷ flat_map state_words options) (flat_map state_words options) new refl ∙ later
    by legal later new =
        options_step seen (codes "-legal") (flat_map state_words options) (flat_map state_words options) new (behind_mark (codes "-legal") (flat_map state_words options) refl) ∙ later
    by illegal later new =
        options_step seen (codes "-illegal") (flat_map state_words options) (flat_map state_words options) new (behind_mark (codes "-illegal") (flat_map state_words options) refl) ∙ later

-- a power state
pub power_state_so : (words : List (List ℕ)) (state : List ℕ) (rest : List (List ℕ)) → words ≡ state ∷ rest → is_simple state ≡ true → (b : Bool)
    → b ≡ are_options [] rest → IsTrue b ↔ AreListOf power_state words
power_state_so words state rest split simple b e = (
  λ t. let new = options_so [] rest refl (sym e ∙ t) in (state, rest, new.options, split, simple, record { spelled = new.spelled; once = new.once }),
  λ h.
      let same : h.1 ≡ rest = (let f = h.3 in cc) in
      let spelled : rest ≡ flat_map state_words h.2 = sym same ∙ h.5.spelled in
      e ∙ ap (are_options []) spelled ∙ options_back [] h.2 h.5.once,
)

-- a list that isn't empty
pub first_words : (words : List (List ℕ)) → false ≡ (length words == 0) → (word : List ℕ) × (rest : List (List ℕ)) × (words ≡ word ∷ rest)
first_words [] e = absurd (false≢true e)
first_words (word ∷ rest) e = (word, rest, refl)

-- a text at the end
pub added_text : (texts : List (Bor (List ℕ))) (text : Bor (List ℕ)) → texts_view (texts ++ text ∷ []) ≡ texts_view texts ++ text.now ∷ []
added_text [] text = refl
added_text (t ∷ texts) text = ap (λ ts. t.now ∷ ts) (added_text texts text)
