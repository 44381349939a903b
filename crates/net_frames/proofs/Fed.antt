-- What feeds the bits of rows is what feeds those of the hierarchy.
use Rattle.std.proofs.Common.{◌≡◌, ℕ, ◌&&◌, Bool, true, false, cond, List, [], ◌∷◌, Option, Some, None, map, option_and_then, option_map, refl, sym, ap, ◌∙◌}
use Rattle.std.specs.List.{find, slice_get}
use Rattle.std.proofs.lemmas.Option.{same_Some}
use Rattle.pw_defs.specs.declared.cells.Cell.{Cell}
use Rattle.pw_defs.specs.declared.cells.Dir.{Dir}
use Rattle.pw_defs.specs.declared.cells.Dir.TheVariants.{Input, Output}
use Rattle.pw_defs.specs.declared.cells.Pin.{Pin}
use Rattle.pw_defs.specs.declared.design.Body.TheVariants.{Cell as CellBody}
use Rattle.pw_defs.specs.declared.design.PortBit.{PortBit}
use Rattle.pw_defs.specs.declared.netlist.Port.{Port}
use Rattle.list_defs.specs.Members.{place_of, same_name}
use Rattle.list_defs.proofs.NameLemmas.{place_of-map, same_name-equal}
use Rattle.design_defs.specs.Bits.{port_named, range_in}
use Rattle.design_defs.specs.Designs.{parts_of}
use Rattle.design_defs.specs.Drivers.{is_interface_cell, passes_on_in}
use Rattle.design_defs.specs.Hierarchy.{Sources, Way, body_at, number_named, ports_in}
use Rattle.design_defs.specs.Links.{IsThrough}
use Rattle.design_defs.specs.Ports.{dir_in, is_output, port_of_pin}
use Rattle.design_laws.proofs.FirstFound.{at_place}

-- both of two tests hold where their conjunction does
both : (a b : Bool) → (a && b) ≡ true → (a ≡ true) × (b ≡ true)
both true b e = (refl, e)
both false b e = cc

-- PINS of a cell, as its ports
module _ (s : Sources) (c : ℕ) (cell : Cell) (is_cell : slice_get s.cells.cells c ≡ Some cell) where
  pins_are : ports_in s (CellBody c) ≡ Some (map port_of_pin cell.pins)
  pins_are = ap (option_map (λ (x : Cell). map port_of_pin x.pins)) is_cell

  -- a pin that has this number by its name
  pub pin_of_number : (name : List ℕ) (k : ℕ) → option_and_then (number_named (λ (q : Port). q.name) name) (ports_in s (CellBody c)) ≡ Some k
      → (pin : Pin) × (slice_get cell.pins k ≡ Some pin) × (name ≡ pin.name) × (find (λ (q : Pin). same_name name q.name) cell.pins ≡ Some pin)
  pin_of_number name k is =
      let place : place_of (λ (q : Pin). same_name name q.name) cell.pins ≡ Some k =
      sym (place_of-map port_of_pin (λ (q : Port). same_name name q.name) cell.pins)
      ∙ sym (ap (option_and_then (number_named (λ (q : Port). q.name) name)) pins_are) ∙ is in
      let found = at_place (λ (q : Pin). same_name name q.name) cell.pins k place in
      (found.0, found.1, same_name-equal name found.0.name found.2, found.3)

  -- pins are scalars
  pub pin_scalar : (name : List ℕ) (range : Option (ℕ × ℕ)) → range_in s (CellBody c) name ≡ Some range → range ≡ None
  pin_scalar name range is = by cell.pins (sym (ap (λ (o : Option (List Port)). option_map (λ (q : Port). q.range) (option_and_then (port_named name) o)) pins_are) ∙ is)
    where
      by : (pins : List Pin) → option_map (λ (q : Port). q.range) (port_named name (map port_of_pin pins)) ≡ Some range → range ≡ None
      by [] e = cc
      by (pin ∷ pins) e = here (same_name name pin.name) e (by pins)
        where
          here : (b : Bool) → option_map (λ (q : Port). q.range) (cond b (Some (port_of_pin pin)) (port_named name (map port_of_pin pins))) ≡ Some range
              → (option_map (λ (q : Port). q.range) (port_named name (map port_of_pin pins)) ≡ Some range → range ≡ None) → range ≡ None
          here true h rest = sym (same_Some None range h)
          here false h rest = rest h

  -- an output pin that is passed on to is fed by the through pin
  pub through_of : (way : Way) (net : List ℕ) (place : ℕ) (q : PortBit) (through : ℕ) (other : List ℕ) → body_at s way ≡ Some (CellBody c)
      → passes_on_in (parts_of s) (CellBody c) q ≡ true → option_and_then (number_named (λ (p : Port). p.name) net) (ports_in s (CellBody c)) ≡ Some q.port
      → cell.through ≡ Some through → option_and_then (number_named (λ (p : Port). p.name) other) (ports_in s (CellBody c)) ≡ Some through
      → IsThrough s (record { way = way; net = net; place = place }) (record { way = way; net = other; place = 0 })
  through_of way net place q through other body passes number is_through other_number =
      let two = both (is_output (dir_in (parts_of s) (CellBody c) q.port)) (is_interface_cell (slice_get s.cells.cells c)) passes in
      let out = pin_of_number net q.port number in
      let pin = pin_of_number other through other_number in
      let dir : dir_in (parts_of s) (CellBody c) q.port ≡ Some out.0.dir =
      ap (option_and_then (λ (x : Cell). option_map (λ (p : Pin). p.dir) (slice_get x.pins q.port))) is_cell ∙ ap (option_map (λ (p : Pin). p.dir)) out.1 in
      record {
        number = c;
        cell = cell;
        body = body;
        is_cell = is_cell;
        interface_cell = sym (ap is_interface_cell is_cell) ∙ two.1;
        out_pin = out.0;
        is_out_pin = out.3;
        is_out = output out.0.dir (sym (ap is_output dir) ∙ two.0);
        through_pin = pin.0;
        is_through_pin = ap (option_and_then (slice_get cell.pins)) is_through ∙ pin.1;
        is_source = ap (λ (name : List ℕ). record { way = way; net = name; place = 0 }) pin.2;
      }
    where
      output : (dir : Dir) → is_output (Some dir) ≡ true → dir ≡ Output
      output Input e = cc
      output Output e = refl
