-- Names that are met one after the other, each with its place, and the first place at which one is met again.
use Rattle.std.specs.Prelude.{◌≡◌, ℕ, ◌∷◌, ◌++◌, List, [], Option, Some, None, map, slice_get, if◌then◌else◌}
use Rattle.std.specs.List.{flat_map, list_any, range_with_len}
use Rattle.std.specs.Ordering.{nat_cmp, on, then_cmp}
use Rattle.std.specs.declared.cmp.Ordering.{Ordering}
use Rattle.std.specs.declared.cmp.Ordering.TheVariants.{Less, Equal, Greater}
use Rattle.pw_defs.specs.declared.cells.Cell.{Cell}
use Rattle.pw_defs.specs.declared.cells.Cells.{Cells}
use Rattle.pw_defs.specs.declared.model.Model.{Model}
use Rattle.pw_defs.specs.declared.netlist.Port.{Port}
use Rattle.list_defs.specs.Members.{same_name}
use Rattle.list_defs.specs.Orders.{name_cmp}
use Rattle.design_defs.specs.Names.{joined}
use Rattle.design_defs.specs.Ports.{port_of_pin}
use Rattle.design_defs.specs.Ranges.{bit_name, width}
use Rattle.net_names.specs.declared.meeting.Meeting.{Meeting}
use Rattle.net_names.specs.declared.meeting.NameAt.{NameAt}
use Rattle.net_names.specs.declared.meeting.Place.{Place}

-- by instance, then by line, then by name
abbrev pub name_at_cmp : NameAt → NameAt → Ordering
name_at_cmp =
    then_cmp (on (λ (x : NameAt). x.place.holder) nat_cmp) (then_cmp (on (λ (x : NameAt). x.place.line) nat_cmp) (on (λ (x : NameAt). x.name) name_cmp))

-- the first of two
abbrev pub by_order : NameAt → NameAt → Ordering → NameAt
by_order before next Less = next
by_order before next Equal = before
by_order before next Greater = before

-- the first of what was met again before, if any, and the next
abbrev pub first_of : Option NameAt → NameAt → NameAt
first_of None next = next
first_of (Some before) next = by_order before next (name_at_cmp next before)

-- a name is met: where it was met before it may be the first that was met again
abbrev pub met : Meeting → NameAt → Meeting
met m x =
    if list_any (same_name x.name) m.names
    then record { names = m.names; first = Some (first_of m.first x) }
    else record { names = m.names ++ x.name ∷ []; first = m.first }

-- the same for one name after the other
unfoldable pub met_all : Meeting → List NameAt → Meeting
met_all m [] = m
met_all m (x ∷ xs) = met_all (met m x) xs

-- the names of the bits of a vector port, whose own joined name is given, at a place
abbrev pub bits_at : Place → List ℕ → ℕ × ℕ → ℕ → List NameAt
bits_at place name range count = map (λ k. record { place = place; name = bit_name name (Some range) k }) (range_with_len 0 count)

-- the names of all bits of a vector port; a scalar has none
abbrev pub vector_at : Place → List ℕ → Option (ℕ × ℕ) → List NameAt
vector_at place name None = []
vector_at place name (Some range) = bits_at place name range (width (Some range))

-- the names of a port below a path, and of its bits
abbrev pub port_at : Place → List ℕ → List ℕ → Option (ℕ × ℕ) → List NameAt
port_at place path name range = record { place = place; name = joined path name } ∷ vector_at place (joined path name) range

-- the names of ports below a path
abbrev pub ports_at : Place → List ℕ → List Port → List NameAt
ports_at place path ports = flat_map (λ (p : Port). port_at place path p.name p.range) ports

-- the ports of the model of a number were met
pub record HasMetModel (models : List Model) (place : Place) (path : List ℕ) (number : ℕ) (old new : Meeting) : Type 0 where
  pub m : Model
  pub there : slice_get models number ≡ Some m
  pub met_so : new ≡ met_all old (ports_at place path m.ports)

-- the pins of the cell of a number were met
pub record HasMetCell (cells : Cells) (place : Place) (path : List ℕ) (number : ℕ) (old new : Meeting) : Type 0 where
  pub c : Cell
  pub there : slice_get cells.cells number ≡ Some c
  pub met_so : new ≡ met_all old (ports_at place path (map port_of_pin c.pins))
