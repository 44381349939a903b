-- Pins as a cell's groups mention them, one after the other.
use Rattle.std.specs.Prelude.{◌≡◌, ℕ, true, List, [], ◌∷◌, ◌++◌, Option, Some, None, length, map, slice_get, slice_set, if◌then◌else◌}
use Rattle.std.specs.List.{flat_map}
use Rattle.list_defs.specs.Members.{all_differ, place_of, same_name}
use Rattle.text_defs.specs.FirstPlace.{firsts}
use Rattle.lib_cells.specs.Marks.{PinsSaid, marks_of, overlaid}
use Rattle.lib_cells.specs.declared.marks.Marks.{Marks}
use Rattle.lib_cells.specs.declared.tables.PinTable.{PinTable}

-- a name, and what is said of its pin
pub record Mention : Type 0 where
  pub name : List ℕ
  pub marks : Marks

abbrev pub mentions_of : PinsSaid → List Mention
mentions_of g = map (λ name. record { name = name; marks = g.marks }) g.names

abbrev pub mentions_in : List PinsSaid → List Mention
mentions_in groups = flat_map mentions_of groups

-- what mentions say of a pin
abbrev pub marks_said : List ℕ → List Mention → Marks
marks_said name [] = marks_of []
marks_said name (m ∷ more) = if same_name name m.name then overlaid m.marks (marks_said name more) else marks_said name more

-- the table has each pin that is mentioned, at its first place, with what the mentions say of it
pub record AreSaid (mentions : List Mention) (t : PinTable) : Type 0 where
  pub names : t.names ≡ firsts same_name (map (λ (m : Mention). m.name) mentions)
  pub marks : t.marks.items ≡ map (λ name. marks_said name mentions) t.names
  pub differ : all_differ same_name t.names ≡ true

-- for each name there is what is said of it
abbrev pub IsLevel : PinTable → Type 0
IsLevel t = length t.marks.items ≡ length t.names

-- a pin is mentioned once more: a new one at the end, or one that is there
abbrev pub SaysAt : PinTable → PinTable → List ℕ → Marks → Option ℕ → Type 0
SaysAt old new name marks None = (new.names ≡ old.names ++ name ∷ []) × (new.marks.items ≡ old.marks.items ++ marks ∷ [])
SaysAt old new name marks (Some at) =
    (m : Marks) × (new.names ≡ old.names) × (slice_get old.marks.items at ≡ Some m) × (new.marks.items ≡ slice_set old.marks.items at (overlaid m marks))

abbrev pub SaysMore : PinTable → PinTable → List ℕ → Marks → Type 0
SaysMore old new name marks = SaysAt old new name marks (place_of (same_name name) old.names)
