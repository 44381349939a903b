-- What attributes say of the cell, or of the pins, in whose group they stand.
use Rattle.std.specs.Prelude.{ℕ, Bool, true, false, ◌||◌, ◌&&◌, List, [], ◌∷◌, ◌++◌, Option, Some, None, codes, map, unwrap_or, is_some, if◌then◌else◌}
use Rattle.std.specs.List.{filter_map, flat_map, list_any}
use Rattle.std.specs.Option.{option_map, option_or}
use Rattle.pw_defs.specs.declared.cells.Dir.{Dir}
use Rattle.pw_defs.specs.declared.cells.Dir.TheVariants.{Input, Output}
use Rattle.pw_defs.specs.declared.cells.Cell.{Cell}
use Rattle.list_defs.specs.Members.{same_name}
use Rattle.text_defs.specs.FirstPlace.{firsts}
use Rattle.lib_cells.specs.Groups.{Attribute, CellPart, HasPins, Says}
use Rattle.lib_cells.specs.CellsMeant.{KnownPin, enable_of, places_where, said_of_cell, the_only, value_of}
use Rattle.lib_cells.specs.declared.marks.Marks.{Marks}

-- the word of a value that has no other
abbrev pub lone : List (List ℕ) → Option (List ℕ)
lone [] = None
lone (w ∷ []) = Some w
lone (w ∷ more ∷ _) = None

abbrev pub lone_if_any : Option (List (List ℕ)) → Option (List ℕ)
lone_if_any words = lone (unwrap_or words [])

-- whether the one word of a value is this one
abbrev pub is_lone : List ℕ → Option (List ℕ) → Bool
is_lone word None = false
is_lone word (Some w) = same_name w word

-- the direction that a value says, where it is one that netlists know
abbrev pub lone_dir : Option (List ℕ) → Option Dir
lone_dir word =
    if is_lone (codes "input") word then Some Input
    else if is_lone (codes "output") word then Some Output
    else None

abbrev pub lone_flag : Option (List ℕ) → Bool
lone_flag word = is_lone (codes "true") word

-- what the attribute of a name says, where it is given
abbrev pub said : {A : Type 0} → (Option (List ℕ) → A) → List ℕ → List Attribute → Option A
said says name given = option_map (λ words. says (lone words)) (value_of name given)

-- what attributes say
unfoldable pub marks_of : List Attribute → Marks
marks_of given =
    record {
      direction = said lone_dir (codes "direction") given;
      isolation = said lone_flag (codes "is_isolation_cell") given;
      shifter = said lone_flag (codes "is_level_shifter") given;
      isolation_data = said lone_flag (codes "isolation_cell_data_pin") given;
      isolation_enable = said lone_flag (codes "isolation_cell_enable_pin") given;
      shifter_data = said lone_flag (codes "level_shifter_data_pin") given;
      shifter_enable = said lone_flag (codes "level_shifter_enable_pin") given;
    }

-- what one attribute says of a name, if it has that name
abbrev pub one_said : {A : Type 0} → (Option (List ℕ) → A) → List ℕ → List ℕ → Option (List ℕ) → Option A
one_said says wanted name word = if same_name name wanted then Some (says word) else None

-- what one attribute says, by its name and the one word of its value
unfoldable pub mark_of : List ℕ → Option (List ℕ) → Marks
mark_of name word =
    record {
      direction = one_said lone_dir (codes "direction") name word;
      isolation = one_said lone_flag (codes "is_isolation_cell") name word;
      shifter = one_said lone_flag (codes "is_level_shifter") name word;
      isolation_data = one_said lone_flag (codes "isolation_cell_data_pin") name word;
      isolation_enable = one_said lone_flag (codes "isolation_cell_enable_pin") name word;
      shifter_data = one_said lone_flag (codes "level_shifter_data_pin") name word;
      shifter_enable = one_said lone_flag (codes "level_shifter_enable_pin") name word;
    }

-- what earlier and later attributes say together: of one given twice the last counts
unfoldable pub overlaid : Marks → Marks → Marks
overlaid earlier later =
    record {
      direction = option_or later.direction earlier.direction;
      isolation = option_or later.isolation earlier.isolation;
      shifter = option_or later.shifter earlier.shifter;
      isolation_data = option_or later.isolation_data earlier.isolation_data;
      isolation_enable = option_or later.isolation_enable earlier.isolation_enable;
      shifter_data = option_or later.shifter_data earlier.shifter_data;
      shifter_enable = option_or later.shifter_enable earlier.shifter_enable;
    }

-- the names of a group of pins, and what its attributes say
pub record PinsSaid : Type 0 where
  pub names : List (List ℕ)
  pub marks : Marks

abbrev pub pins_said : CellPart → Option PinsSaid
pins_said (Says a) = None
pins_said (HasPins names given) = Some (record { names = names; marks = marks_of given })

-- what a cell's group says: of the cell, and of its pins, group by group
pub record CellSaid : Type 0 where
  pub marks : Marks
  pub groups : List PinsSaid

abbrev pub cell_said : List CellPart → CellSaid
cell_said parts = record { marks = marks_of (flat_map said_of_cell parts); groups = filter_map pins_said parts }

-- what is said of a cell before, and then
abbrev pub said_then : CellSaid → CellSaid → CellSaid
said_then before behind = record { marks = overlaid before.marks behind.marks; groups = before.groups ++ behind.groups }

-- what groups say of a pin
abbrev pub marks_for : List ℕ → List PinsSaid → Marks
marks_for name [] = marks_of []
marks_for name (g ∷ groups) = if list_any (same_name name) g.names then overlaid g.marks (marks_for name groups) else marks_for name groups

-- a pin that netlists know, by what is said of it
abbrev pub pin_by : List ℕ → Marks → Option KnownPin
pin_by name marks =
    option_map (λ (dir : Dir). record {
      pin = record { name = name; dir = dir };
      is_data = unwrap_or marks.isolation_data false || unwrap_or marks.shifter_data false;
      is_enable = unwrap_or marks.isolation_enable false || unwrap_or marks.shifter_enable false;
    }) (unwrap_or marks.direction None)

-- the pins that netlists know, each at the place where it is first named
abbrev pub pins_by : List PinsSaid → List KnownPin
pins_by groups = filter_map (λ name. pin_by name (marks_for name groups)) (firsts same_name (flat_map (λ (g : PinsSaid). g.names) groups))

-- the cell of a name, by what is said of it and the pins that netlists know
unfoldable pub cell_by : List ℕ → Marks → List KnownPin → Cell
cell_by name marks pins =
    record {
      name = name;
      pins = map (λ (p : KnownPin). p.pin) pins;
      iso = unwrap_or marks.isolation false || (unwrap_or marks.shifter false && is_some (enable_of pins));
      shift = unwrap_or marks.shifter false;
      through = the_only (places_where (λ (p : KnownPin). p.is_data) pins);
      enable = enable_of pins;
    }
