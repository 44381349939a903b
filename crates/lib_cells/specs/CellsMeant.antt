-- The cells that the groups of a library mean.
use Rattle.std.specs.Prelude.{ℕ, ◌==◌, Bool, true, false, not, ◌&&◌, ◌||◌, List, [], ◌∷◌, Option, Some, None, is_some, map, reverse, codes, if◌then◌else◌, length}
use Rattle.std.specs.List.{list_any, filter, filter_map, flat_map, find, position, enumerate_from}
use Rattle.std.specs.Option.{option_map}
use Rattle.pw_defs.specs.declared.cells.Dir.{Dir}
use Rattle.pw_defs.specs.declared.cells.Dir.TheVariants.{Input, Output}
use Rattle.pw_defs.specs.declared.cells.Pin.{Pin}
use Rattle.pw_defs.specs.declared.cells.Cell.{Cell}
use Rattle.list_defs.specs.Members.{same_name}
use Rattle.text_defs.specs.FirstPlace.{firsts}
use Rattle.lib_cells.specs.Groups.{Attribute, CellPart, Says, HasPins, CellGroup}

-- the value of an attribute; of one given twice the last counts
abbrev pub value_of : List ℕ → List Attribute → Option (List (List ℕ))
value_of name given = option_map (λ (a : Attribute). a.value) (find (λ (a : Attribute). same_name a.name name) (reverse given))

-- whether a value is there, and is this one word
abbrev pub is_value : List ℕ → Option (List (List ℕ)) → Bool
is_value word None = false
is_value word (Some []) = false
is_value word (Some (w ∷ [])) = same_name w word
is_value word (Some (w ∷ more ∷ _)) = false

-- a flag is set by `true`
abbrev pub is_set : List ℕ → List Attribute → Bool
is_set name given = is_value (codes "true") (value_of name given)

-- the direction of a pin, where it is one that netlists know
abbrev pub direction_of : List Attribute → Option Dir
direction_of given =
    if is_value (codes "input") (value_of (codes "direction") given) then Some Input
    else if is_value (codes "output") (value_of (codes "direction") given) then Some Output
    else None

-- what a cell says of itself
abbrev pub said_of_cell : CellPart → List Attribute
said_of_cell (Says a) = a ∷ []
said_of_cell (HasPins names given) = []

-- the pins that a part of a cell names
abbrev pub pins_named : CellPart → List (List ℕ)
pins_named (Says a) = []
pins_named (HasPins names given) = names

-- what a part of a cell says of a pin
abbrev pub said_of_pin : List ℕ → CellPart → List Attribute
said_of_pin name (Says a) = []
said_of_pin name (HasPins names given) = if list_any (same_name name) names then given else []

-- a pin that netlists know, whether it is marked as a data pin, and whether as an enable pin
pub record KnownPin : Type 0 where
  pub pin : Pin
  pub is_data : Bool
  pub is_enable : Bool

abbrev pub pin_from : List ℕ → List Attribute → Option KnownPin
pin_from name given =
    option_map (λ (dir : Dir). record {
      pin = record { name = name; dir = dir };
      is_data = is_set (codes "isolation_cell_data_pin") given || is_set (codes "level_shifter_data_pin") given;
      is_enable = is_set (codes "isolation_cell_enable_pin") given || is_set (codes "level_shifter_enable_pin") given;
    }) (direction_of given)

-- the pins of a cell that netlists know, each at the place where it is first named
abbrev pub known_pins : List CellPart → List KnownPin
known_pins parts = filter_map (λ name. pin_from name (flat_map (said_of_pin name) parts)) (firsts same_name (flat_map pins_named parts))

abbrev pub is_input : Dir → Bool
is_input Input = true
is_input Output = false

-- the places of a list that pass a test
abbrev pub places_where : {X : Type 0} → (X → Bool) → List X → List ℕ
places_where {X} test xs = map (λ (p : ℕ × X). p.0) (filter (λ (p : ℕ × X). test p.1) (enumerate_from 0 xs))

-- the one number of a list that has no other
abbrev pub the_only : List ℕ → Option ℕ
the_only [] = None
the_only (n ∷ []) = Some n
the_only (n ∷ more ∷ _) = None

-- the first input pin that is marked as an enable pin
abbrev pub enable_of : List KnownPin → Option ℕ
enable_of pins = position (λ (p : KnownPin). is_input p.pin.dir && p.is_enable) pins

-- a level shifter with an enable pin is also an isolation cell
abbrev pub cell_from : List ℕ → List Attribute → List KnownPin → Cell
cell_from name given pins =
    record {
      name = name;
      pins = map (λ (p : KnownPin). p.pin) pins;
      iso = is_set (codes "is_isolation_cell") given || (is_set (codes "is_level_shifter") given && is_some (enable_of pins));
      shift = is_set (codes "is_level_shifter") given;
      through = the_only (places_where (λ (p : KnownPin). p.is_data) pins);
      enable = enable_of pins;
    }

-- the cell that a group means
unfoldable pub cell_of : CellGroup → Cell
cell_of group = cell_from group.name (flat_map said_of_cell group.parts) (known_pins group.parts)

-- A cell that a library cannot have: an isolation cell or level shifter without exactly one through pin and exactly one output pin.
unfoldable pub is_odd : Cell → Bool
is_odd cell = (cell.iso || cell.shift) && not (is_some cell.through && length (filter (λ (p : Pin). not (is_input p.dir)) cell.pins) == 1)
