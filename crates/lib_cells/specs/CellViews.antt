-- What is kept of a cell's group, as the definitions see it.
use Rattle.std.specs.Prelude.{◌≡◌, ℕ, ◌&&◌, ◌||◌, false, List, [], ◌∷◌, Option, None, Some, map, unwrap_or, is_some}
use Rattle.std.specs.List.{flat_map}
use Rattle.std.specs.Option.{option_map}
use Rattle.list_defs.specs.Members.{same_name}
use Rattle.pw_defs.specs.declared.cells.Dir.{Dir}
use Rattle.text_defs.specs.FirstPlace.{firsts}
use Rattle.lib_cells.specs.Groups.{CellGroup, CellPart, present}
use Rattle.lib_cells.specs.CellsMeant.{KnownPin, cell_of, is_input, places_where, the_only}
use Rattle.pw_defs.specs.declared.cells.Cell.{Cell}
use Rattle.lib_cells.specs.Marks.{CellSaid, PinsSaid, cell_said, marks_for, marks_of}
use Rattle.lib_cells.specs.declared.cells.CellDraft.{CellDraft}
use Rattle.lib_cells.specs.declared.cells.CellEntry.{CellEntry}
use Rattle.lib_cells.specs.declared.cells.PinGroup.{PinGroup}
use Rattle.lib_cells.specs.declared.libraries.PlacedCell.{PlacedCell}
use Rattle.lib_cells.specs.declared.marks.Marks.{Marks}
use Rattle.lib_cells.specs.declared.pins.KeptPins.{KeptPins}
use Rattle.lib_cells.specs.declared.pins.PinRoles.{PinRoles}
use Rattle.lib_cells.specs.declared.tables.PinTable.{PinTable}

abbrev pub pins_view : PinGroup → PinsSaid
pins_view g = record { names = map (λ n. n.now) g.names; marks = g.marks }

-- a group of pins, or none, as what is said of a cell
abbrev pub group_view : Option PinGroup → CellSaid
group_view group = record { marks = marks_of []; groups = present (option_map pins_view group ∷ []) }

abbrev pub entry_view : CellEntry → CellSaid
entry_view e = record { marks = e.marks; groups = present (option_map pins_view e.group ∷ []) }

abbrev pub draft_view : CellDraft → CellSaid
draft_view d = record { marks = d.marks; groups = map pins_view d.groups }

-- what an entry says of a cell
abbrev pub part_said : Option CellPart → CellSaid
part_said part = cell_said (present (part ∷ []))

-- the cell of a group, with the group's line
abbrev pub placed_of : CellGroup → PlacedCell
placed_of group = record { cell = cell_of group; line = group.line }

-- the cell of these parts
abbrev pub placed_by : ℕ → List ℕ → List (Option CellPart) → PlacedCell
placed_by line name parts = placed_of (record { name = name; line = line; parts = present parts })

-- the table has the pins that groups name, each at the place where it is first named, with what the groups say of it
pub record IsTableOf (groups : List PinsSaid) (t : PinTable) : Type 0 where
  pub names : t.names ≡ firsts same_name (flat_map (λ (g : PinsSaid). g.names) groups)
  pub marks : t.marks.items ≡ map (λ name. marks_for name groups) t.names

-- the roles of a pin that netlists know
abbrev pub roles_of : KnownPin → PinRoles
roles_of p = record { is_data = p.is_data; enables = is_input p.pin.dir && p.is_enable }

-- the roles of a pin of this direction, by what is said of it
abbrev pub roles_by : Dir → Marks → PinRoles
roles_by dir marks =
    record {
      is_data = unwrap_or marks.isolation_data false || unwrap_or marks.shifter_data false;
      enables = is_input dir && (unwrap_or marks.isolation_enable false || unwrap_or marks.shifter_enable false);
    }

-- the first of a list
abbrev pub first_of : List ℕ → Option ℕ
first_of [] = None
first_of (n ∷ ns) = Some n

-- the pins, and their roles
pub record AreKept (known : List KnownPin) (k : KeptPins) : Type 0 where
  pub pins : k.pins ≡ map (λ (p : KnownPin). p.pin) known
  pub roles : k.roles ≡ map roles_of known

-- the cell of a name, by what is said of it and the pins that are kept
abbrev pub cell_with : List ℕ → Marks → KeptPins → Cell
cell_with name marks kept =
    record {
      name = name;
      pins = kept.pins;
      iso = unwrap_or marks.isolation false || (unwrap_or marks.shifter false && is_some (first_of (places_where (λ (r : PinRoles). r.enables) kept.roles)));
      shift = unwrap_or marks.shifter false;
      through = the_only (places_where (λ (r : PinRoles). r.is_data) kept.roles);
      enable = first_of (places_where (λ (r : PinRoles). r.enables) kept.roles);
    }
