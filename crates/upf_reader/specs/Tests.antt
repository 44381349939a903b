-- What the tests of words and lists say yes to.
use Rattle.std.specs.Prelude.{◌≡◌, ℕ, Bool, true, false, not, ◌&&◌, ◌||◌, List, [], ◌∷◌, ◌++◌, Option, Some, None, codes, is_some, if◌then◌else◌}
use Rattle.std.specs.List.{list_any}
use Rattle.std.specs.Str.{bytes_eq}
use Rattle.upf_commands.specs.Forms.{macro_mark}
use Rattle.upf_commands.specs.Values.{is_simple, truth_of, Handle, IsHandle}

-- the word is a handle of some domain
abbrev pub IsHandleWord : List ℕ → Type 0
IsHandleWord word = (domain : List ℕ) × (h : Handle) × IsHandle word domain h

-- whether the words are the scope alone
abbrev pub is_scope : List (List ℕ) → Bool
is_scope (word ∷ []) = bytes_eq word (codes ".")
is_scope _ = false

-- whether the words are a key of these and a word
abbrev pub is_keyed : List (List ℕ) → List (List ℕ) → Bool
is_keyed keys (key ∷ text ∷ []) = list_any (bytes_eq key) keys
is_keyed keys _ = false

-- whether the words are two
abbrev pub is_pair : List (List ℕ) → Bool
is_pair (first ∷ second ∷ []) = true
is_pair _ = false

-- whether the words are an attribute and its text
abbrev pub is_attribute : List (List ℕ) → Bool
is_attribute (name ∷ text ∷ []) = not (bytes_eq name macro_mark) || is_some (truth_of text)
is_attribute _ = false

-- whether the words are a port of a switch and a net
abbrev pub is_switch_port : List (List ℕ) → Bool
is_switch_port (port ∷ net ∷ []) = is_simple port
is_switch_port _ = false

-- whether the words are an on state of a switch
abbrev pub is_on_state : List (List ℕ) → Bool
is_on_state (state ∷ port ∷ condition ∷ []) = is_simple state && is_simple port
is_on_state _ = false

-- whether the words say that a supply is off
abbrev pub is_off : List (List ℕ) → Bool
is_off (word ∷ []) = bytes_eq word (codes "off")
is_off _ = false

-- whether the word begins an option of a power state that has a text
abbrev pub takes_text : List ℕ → Bool
takes_text word = bytes_eq word (codes "-supply_expr") || bytes_eq word (codes "-logic_expr") || bytes_eq word (codes "-simstate")

-- whether the word is an option of a power state that has none
abbrev pub is_mark : List ℕ → Bool
is_mark word = bytes_eq word (codes "-legal") || bytes_eq word (codes "-illegal")

-- the words behind the option of a power state that the word begins
abbrev pub behind_option : List ℕ → List (List ℕ) → Option (List (List ℕ))
behind_option word [] = if is_mark word then Some [] else None
behind_option word (text ∷ more) = if is_mark word then Some (text ∷ more) else (if takes_text word then Some more else None)

-- whether the words are options of a power state, none of them twice and none of those seen
abbrev pub are_options : List (List ℕ) → List (List ℕ) → Bool
are_options seen [] = true
are_options seen (word ∷ []) = not (list_any (bytes_eq word) seen) && is_mark word
are_options seen (word ∷ text ∷ more) =
    not (list_any (bytes_eq word) seen)
    && (if is_mark word then are_options (seen ++ word ∷ []) (text ∷ more) else (takes_text word && are_options (seen ++ word ∷ []) more))

-- the word that begins the words, where it begins an option of a power state, and the words behind the option
abbrev pub NextOption : List (List ℕ) → Option (List ℕ × List (List ℕ)) → Type 0
NextOption words None = (word : List ℕ) (rest : List (List ℕ)) → words ≡ word ∷ rest → behind_option word rest ≡ None
NextOption words (Some next) = (rest : List (List ℕ)) × (words ≡ next.0 ∷ rest) × (behind_option next.0 rest ≡ Some next.1)
