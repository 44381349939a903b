-- The variables that are set, as a table holds them.
use Rattle.std.specs.Prelude.{◌≡◌, ℕ, List, Option, option_map}
use Rattle.std.specs.BTreeMap.{get_by}
use Rattle.std.specs.Cmp.Lexicographic.{slice_cmp}
use Rattle.std.specs.Ordering.{nat_cmp}
use Rattle.tcl_words.specs.declared.settings.Settings.{Settings}
use Rattle.tcl_words.specs.Words.{Variables, value_of}

-- the text of a variable in a table
abbrev pub text_in : Settings → List ℕ → Option (List ℕ)
text_in settings name = option_map (λ text. text.items) (get_by (λ k. slice_cmp nat_cmp name k.items) settings.texts)

-- the table has the text of each variable
abbrev pub Holds : Settings → Variables → Type 0
Holds settings vars = (name : List ℕ) → text_in settings name ≡ value_of name vars
