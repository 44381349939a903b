-- The cell of a group, by what is said of it and of its pins.
use Rattle.std.proofs.Common.{◌≡◌, ℕ, Bool, true, false, ◌||◌, ◌&&◌, List, [], ◌∷◌, ◌++◌, codes, map, Option, Some, None, refl, sym, ap, ◌∙◌, if◌then◌else◌, unwrap_or, is_some}
use Rattle.std.specs.List.{filter_map, flat_map, list_any}
use Rattle.std.specs.Option.{option_map}
use Rattle.std.proofs.lemmas.List.{append-nil, append_assoc}
use Rattle.std.proofs.lemmas.Grind.{flat_map-append}
use Rattle.std.proofs.lemmas.List.Elements.{filter_map-append}
use Rattle.list_defs.specs.Members.{same_name}
use Rattle.pw_defs.specs.declared.cells.Cell.{Cell}
use Rattle.pw_defs.specs.declared.cells.Dir.{Dir}
use Rattle.text_defs.specs.FirstPlace.{firsts}
use Rattle.lib_cells.specs.Groups.{Attribute, CellGroup, CellPart, HasPins, Says, present}
use Rattle.lib_cells.specs.CellsMeant.{KnownPin, cell_from, cell_of, direction_of, enable_of, is_set, known_pins, pin_from, pins_named, places_where, said_of_cell, said_of_pin, the_only}
use Rattle.lib_cells.specs.Marks.{CellSaid, PinsSaid, cell_by, cell_said, lone_dir, lone_flag, marks_for, marks_of, overlaid, pin_by, pins_by, pins_said, said, said_then}
use Rattle.lib_cells.specs.CellViews.{placed_by, placed_of}
use Rattle.lib_cells.specs.declared.libraries.PlacedCell.{PlacedCell}
use Rattle.lib_cells.proofs.MarkLaws.{dir-said, marks-append, none-overlaid, overlaid-assoc, overlaid-none, present-first, set-said}

-- the names of the pins that are named
same_names : (parts : List CellPart) → flat_map pins_named parts ≡ flat_map (λ (g : PinsSaid). g.names) (filter_map pins_said parts)
same_names [] = refl
same_names (Says a ∷ parts) = same_names parts
same_names (HasPins names given ∷ parts) = ap (λ l. names ++ l) (same_names parts)

-- what is said of a pin
said_of_one : (name : List ℕ) (parts : List CellPart) → marks_of (flat_map (said_of_pin name) parts) ≡ marks_for name (filter_map pins_said parts)
said_of_one name [] = refl
said_of_one name (Says a ∷ parts) = said_of_one name parts
said_of_one name (HasPins names given ∷ parts) = by (said_of_one name parts) (list_any (same_name name) names)
  where
    by : marks_of (flat_map (said_of_pin name) parts) ≡ marks_for name (filter_map pins_said parts) → (b : Bool) → marks_of ((if b then given else []) ++ flat_map (said_of_pin name) parts)
        ≡ (if b then overlaid (marks_of given) (marks_for name (filter_map pins_said parts)) else marks_for name (filter_map pins_said parts))
    by rest true = marks-append given (flat_map (said_of_pin name) parts) ∙ ap (overlaid (marks_of given)) rest
    by rest false = rest

-- a pin by what is said of it
pin_of_marks : (name : List ℕ) (given : List Attribute) → pin_from name given ≡ pin_by name (marks_of given)
unfolding marks_of
pin_of_marks name given =
    let make : Option Dir → Bool → Bool → Bool → Bool → Option KnownPin =
    λ d a b c e. option_map (λ (dir : Dir). record { pin = record { name = name; dir = dir }; is_data = a || b; is_enable = c || e }) d in
    let d = direction_of given in
    let a = is_set (codes "isolation_cell_data_pin") given in
    let b = is_set (codes "level_shifter_data_pin") given in
    let c = is_set (codes "isolation_cell_enable_pin") given in
    let e = is_set (codes "level_shifter_enable_pin") given in
    let d2 = unwrap_or (said lone_dir (codes "direction") given) None in
    let a2 = unwrap_or (said lone_flag (codes "isolation_cell_data_pin") given) false in
    let b2 = unwrap_or (said lone_flag (codes "level_shifter_data_pin") given) false in
    let c2 = unwrap_or (said lone_flag (codes "isolation_cell_enable_pin") given) false in
    ap (λ (x : Option Dir). make x a b c e) (dir-said given)
    ∙ ap (λ (x : Bool). make d2 x b c e) (set-said (codes "isolation_cell_data_pin") given)
    ∙ ap (λ (x : Bool). make d2 a2 x c e) (set-said (codes "level_shifter_data_pin") given)
    ∙ ap (λ (x : Bool). make d2 a2 b2 x e) (set-said (codes "isolation_cell_enable_pin") given)
    ∙ ap (λ (x : Bool). make d2 a2 b2 c2 x) (set-said (codes "level_shifter_enable_pin") given)

-- the pins that netlists know
same_pins : (parts : List CellPart) → known_pins parts ≡ pins_by (filter_map pins_said parts)
same_pins parts =
    let each : (name : List ℕ) → pin_from name (flat_map (said_of_pin name) parts) ≡ pin_by name (marks_for name (filter_map pins_said parts)) =
    λ name. pin_of_marks name (flat_map (said_of_pin name) parts) ∙ ap (pin_by name) (said_of_one name parts) in
    let names = firsts same_name (flat_map pins_named parts) in
    let one : List ℕ → Option KnownPin = λ name. pin_from name (flat_map (said_of_pin name) parts) in
    let other : List ℕ → Option KnownPin = λ name. pin_by name (marks_for name (filter_map pins_said parts)) in
    let alike : one ≡ other = λ i name. each name i in
    ap (λ (f : List ℕ → Option KnownPin). filter_map f names) alike
    ∙ ap (λ l. filter_map (λ name. pin_by name (marks_for name (filter_map pins_said parts))) (firsts same_name l)) (same_names parts)

cell_of_marks : (name : List ℕ) (given : List Attribute) (pins : List KnownPin) → cell_from name given pins ≡ cell_by name (marks_of given) pins
unfolding cell_by marks_of
cell_of_marks name given pins =
    let make : Bool → Bool → Cell =
    λ iso shift. record {
      name = name;
      pins = map (λ (p : KnownPin). p.pin) pins;
      iso = iso || (shift && is_some (enable_of pins));
      shift = shift;
      through = the_only (places_where (λ (p : KnownPin). p.is_data) pins);
      enable = enable_of pins;
    } in
    ap (λ (iso : Bool). make iso (is_set (codes "is_level_shifter") given)) (set-said (codes "is_isolation_cell") given)
    ∙ ap (λ (shift : Bool). make (unwrap_or (said lone_flag (codes "is_isolation_cell") given) false) shift) (set-said (codes "is_level_shifter") given)

-- the cell of a group
pub cell_meant : (g : CellGroup) → cell_of g ≡ cell_by g.name (cell_said g.parts).marks (pins_by (cell_said g.parts).groups)
unfolding cell_of
cell_meant g =
    ap (cell_from g.name (flat_map said_of_cell g.parts)) (same_pins g.parts)
    ∙ cell_of_marks g.name (flat_map said_of_cell g.parts) (pins_by (filter_map pins_said g.parts))

said_of_parts : (xs ys : List CellPart) → cell_said (xs ++ ys) ≡ said_then (cell_said xs) (cell_said ys)
said_of_parts xs ys =
    let marks : marks_of (flat_map said_of_cell (xs ++ ys)) ≡ overlaid (marks_of (flat_map said_of_cell xs)) (marks_of (flat_map said_of_cell ys)) =
    ap marks_of (flat_map-append said_of_cell xs ys) ∙ marks-append (flat_map said_of_cell xs) (flat_map said_of_cell ys) in
    let groups : filter_map pins_said (xs ++ ys) ≡ filter_map pins_said xs ++ filter_map pins_said ys = filter_map-append pins_said xs ys in
    λ i. record { marks = marks i; groups = groups i }

said_assoc : (a b c : CellSaid) → said_then (said_then a b) c ≡ said_then a (said_then b c)
said_assoc a b c =
    let marks = overlaid-assoc a.marks b.marks c.marks in
    let groups = append_assoc a.groups b.groups c.groups in
    λ i. record { marks = marks i; groups = groups i }

-- an entry, and those behind it
pub said_more_parts : (all entry longer : CellSaid) (x : Option CellPart) (xs : List (Option CellPart)) → longer ≡ said_then all entry → entry ≡ cell_said (present (x ∷ []))
    → said_then longer (cell_said (present xs)) ≡ said_then all (cell_said (present (x ∷ xs)))
said_more_parts all entry longer x xs long one =
    ap (λ s. said_then s (cell_said (present xs))) (long ∙ ap (said_then all) one)
    ∙ said_assoc all (cell_said (present (x ∷ []))) (cell_said (present xs))
    ∙ ap (said_then all) (sym (said_of_parts (present (x ∷ [])) (present xs)) ∙ ap cell_said (sym (present-first x xs)))

pub nothing_said_then : (before behind : CellSaid) → before.marks ≡ marks_of [] → before.groups ≡ [] → said_then before behind ≡ behind
nothing_said_then before behind unmarked ungrouped =
    let marks : overlaid before.marks behind.marks ≡ behind.marks = ap (λ m. overlaid m behind.marks) unmarked ∙ none-overlaid behind.marks in
    let groups : before.groups ++ behind.groups ≡ behind.groups = ap (λ l. l ++ behind.groups) ungrouped in
    λ i. record { marks = marks i; groups = groups i }

pub said_nothing_more : (all : CellSaid) → said_then all (cell_said (present [])) ≡ all
said_nothing_more all =
    let marks = overlaid-none all.marks in
    let groups = append-nil all.groups in
    λ i. record { marks = marks i; groups = groups i }

-- a cell, if there is one, and those behind it
pub placed_more : (all longer : List PlacedCell) (cell : Option PlacedCell) (x : Option CellGroup) (xs : List (Option CellGroup)) → longer ≡ all ++ present (cell ∷ [])
    → cell ≡ option_map placed_of x → longer ++ map placed_of (present xs) ≡ all ++ map placed_of (present (x ∷ xs))
placed_more all longer cell x xs long one =
    ap (λ (l : List PlacedCell). l ++ map placed_of (present xs)) (long ∙ ap (λ (o : Option PlacedCell). all ++ present (o ∷ [])) one)
    ∙ append_assoc all (present (option_map placed_of x ∷ [])) (map placed_of (present xs))
    ∙ ap (λ (l : List PlacedCell). all ++ l) (by x)
  where
    by : (o : Option CellGroup) → present (option_map placed_of o ∷ []) ++ map placed_of (present xs) ≡ map placed_of (present (o ∷ xs))
    by None = refl
    by (Some g) = refl

-- a group of a cell makes its cell
pub placed_meant : (line : ℕ) (name : List ℕ) (parts : List (Option CellPart)) (cell : Cell) (s : CellSaid) → s ≡ cell_said (present parts)
    → cell ≡ cell_by name s.marks (pins_by s.groups) → (let p : PlacedCell = record { cell = cell; line = line } in p) ≡ placed_by line name parts
placed_meant line name parts cell s said is =
    let whole : cell ≡ cell_of (record { name = name; line = line; parts = present parts }) =
    is ∙ ap (λ (x : CellSaid). cell_by name x.marks (pins_by x.groups)) said ∙ sym (cell_meant (record { name = name; line = line; parts = present parts })) in
    λ i. record { cell = whole i; line = line }
