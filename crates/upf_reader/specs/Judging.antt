-- What keeps the items of a line from being a command.
use Rattle.std.specs.Prelude.{◌≡◌, ℕ, false, ◌↔◌, IsTrue, List, [], None, filter_map}
use Rattle.list_defs.specs.Members.{IsIn}
use Rattle.pw_defs.specs.declared.faults.At.{At}
use Rattle.pw_defs.specs.declared.faults.TclFault.TheVariants.{T1, T2}
use Rattle.upf_commands.proofs.CommandReading.{EachBehind, AreGood}
use Rattle.upf_commands.specs.CommandFaults.{IsBad, IsFirstBad, shown}
use Rattle.upf_commands.specs.CommandRows.{OptionRow, CommandRow}
use Rattle.upf_commands.specs.CommandWords.{Item, given}
use Rattle.upf_commands.specs.Commands.{IsGood, lacking_option, unknown_word, unknown_words}
use Rattle.upf_commands.specs.Forms.{HasFormFault}
use Rattle.upf_reader.specs.declared.checks.Judged.{Judged}
use Rattle.upf_reader.specs.declared.checks.Judged.TheVariants.{Bad, Formed}
use Rattle.upf_reader.specs.declared.values.OpenLists.{OpenLists}

-- the item's value has a list in which a brace or quote is never closed; one in which something follows a closed word
abbrev pub IsUnclosed : Item → Type 0
IsUnclosed item = (o : OptionRow) × (text : List ℕ) × (at : At) × (item ≡ given o text) × HasFormFault o.form text (T1 at)

abbrev pub IsAfterWord : Item → Type 0
IsAfterWord item = (o : OptionRow) × (text : List ℕ) × (at : At) × (item ≡ given o text) × HasFormFault o.form text (T2 at)

-- The item isn't bad behind those before it. It is said what its lists are like; where they are well, and it is neither
-- unknown nor lacking, it is good.
pub record IsItemFormed (row : CommandRow) (before : List Item) (item : Item) (lists : OpenLists) : Type 0 where
  pub formed : ¬ IsBad row before item
  pub unclosed : IsTrue lists.unclosed ↔ IsUnclosed item
  pub after_word : IsTrue lists.after_word ↔ IsAfterWord item
  pub good : lists.unclosed ≡ false → lists.after_word ≡ false → unknown_word item ≡ None → lacking_option item ≡ None → IsGood row before item

-- the same of all items, each behind those before it
pub record AreItemsFormed (row : CommandRow) (items : List Item) (lists : OpenLists) : Type 0 where
  pub formed : EachBehind (λ before item. ¬ IsBad row before item) [] items
  pub unclosed : IsTrue lists.unclosed ↔ ((item : Item) × IsIn item items × IsUnclosed item)
  pub after_word : IsTrue lists.after_word ↔ ((item : Item) × IsIn item items × IsAfterWord item)
  pub good : lists.unclosed ≡ false → lists.after_word ≡ false → unknown_words items ≡ [] → filter_map lacking_option items ≡ [] → AreGood row [] items

-- the first bad item, by the name that its refusal shows, or what the items' lists are like
abbrev pub Judges : CommandRow → List Item → Judged → Type 0
Judges row items (Bad name) = (item : Item) × IsFirstBad row items item × (name.now ≡ shown row item)
Judges row items (Formed lists) = AreItemsFormed row items lists
