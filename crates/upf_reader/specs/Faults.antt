-- What keeps a value from having its form, and what gives a word for a key that was given before.
use Rattle.std.specs.Prelude.{◌≡◌, ℕ, false, ◌||◌, ◌↔◌, IsTrue, List}
use Rattle.list_defs.specs.Members.{IsIn}
use Rattle.pw_defs.specs.declared.faults.At.{At}
use Rattle.pw_defs.specs.declared.faults.TclFault.TheVariants.{T1, T2}
use Rattle.tcl_words.specs.ListWords.{HasListFault}
use Rattle.upf_commands.specs.CommandRows.{OptionRow}
use Rattle.upf_commands.specs.CommandWords.{Item, given}
use Rattle.upf_commands.specs.Commands.{HasKey}
use Rattle.upf_commands.specs.Forms.{Form, list, pair, HasForm, IsMisformed, HasFormFault}
use Rattle.upf_reader.specs.declared.values.OpenLists.{OpenLists}

-- lists that are open, of both
abbrev pub both : OpenLists → OpenLists → OpenLists
both lists others = record { unclosed = lists.unclosed || others.unclosed; after_word = lists.after_word || others.after_word }

-- The value isn't of another form. It is said whether it has lists in which a brace or quote is never closed, and such in
-- which something follows a closed word; where it has neither, it has its form.
pub record IsFormed (form : Form) (text : List ℕ) (lists : OpenLists) : Type 0 where
  pub formed : ¬ IsMisformed form text
  pub unclosed : IsTrue lists.unclosed ↔ ((at : At) × HasFormFault form text (T1 at))
  pub after_word : IsTrue lists.after_word ↔ ((at : At) × HasFormFault form text (T2 at))
  pub fits : lists.unclosed ≡ false → lists.after_word ≡ false → HasForm form text

-- some item of a list of pairs parts into other than two words
abbrev pub HasMisformedPair : List (List ℕ) → Type 0
HasMisformedPair items = (item : List ℕ) × IsIn item items × IsMisformed (list pair) item

-- none of the items of a list of pairs has another form, and these of them are open
pub record ArePairsFormed (items : List (List ℕ)) (lists : OpenLists) : Type 0 where
  pub formed : (item : List ℕ) → IsIn item items → ¬ IsMisformed (list pair) item
  pub unclosed : IsTrue lists.unclosed ↔ ((item : List ℕ) × (at : At) × IsIn item items × HasListFault item (T1 at))
  pub after_word : IsTrue lists.after_word ↔ ((item : List ℕ) × (at : At) × IsIn item items × HasListFault item (T2 at))
  pub fits : lists.unclosed ≡ false → lists.after_word ≡ false → (item : List ℕ) → IsIn item items → HasForm (list pair) item

-- the item gives this option a word for the key
abbrev pub GivesKey : OptionRow → List ℕ → Item → Type 0
GivesKey o key item = (p : OptionRow) × (earlier : List ℕ) × (item ≡ given p earlier) × (p.kept ≡ o.kept) × HasKey earlier key

-- one of the items does
abbrev pub SomeGivesKey : OptionRow → List ℕ → List Item → Type 0
SomeGivesKey o key items = (item : Item) × IsIn item items × GivesKey o key item
