-- In a made design drivers and interface cells feed what they are to feed.
use Rattle.std.proofs.Common.{◌≡◌, ℕ, Bool, true, false, not, ◌&&◌, Option, Some, None, option_map, option_and_then, map, slice_get, refl, sym, ap, ◌∙◌, subst}
use Rattle.std.proofs.lemmas.Option.{same_Some, slice_get-map}
use Rattle.pw_defs.specs.declared.cells.Cell.{Cell}
use Rattle.pw_defs.specs.declared.cells.Cells.{Cells}
use Rattle.pw_defs.specs.declared.cells.Pin.{Pin}
use Rattle.pw_defs.specs.declared.design.Bit.{Bit}
use Rattle.pw_defs.specs.declared.design.Body.{Body}
use Rattle.pw_defs.specs.declared.design.Body.TheVariants.{Module as ModuleBody, Cell as CellBody, Model as ModelBody}
use Rattle.pw_defs.specs.declared.design.Design.{Design}
use Rattle.pw_defs.specs.declared.design.Feeder.TheVariants.{Through, Driver}
use Rattle.pw_defs.specs.declared.design.PortBit.{PortBit}
use Rattle.design_defs.specs.Bits.{IsSpot, Spot}
use Rattle.design_defs.specs.DesignFaults.{HasPortAt, IsFaultless}
use Rattle.design_defs.specs.Designs.{IsBitAt, IsFeederOf, IsMadeFrom, begins_signal_at, passes_on_at}
use Rattle.design_defs.specs.Drivers.{asked_at, begins_signal, begins_signal_in, is_interface_cell, passes_on, passes_on_in}
use Rattle.design_defs.specs.Hierarchy.{Sources, body_at}
use Rattle.design_defs.specs.Links.{IsThrough}
use Rattle.design_defs.specs.Ports.{body_of, dir_in, is_output, port_of_pin}
use Rattle.design_defs.specs.Sound.{HasDriversThere, HasThroughThere, IsBitOf, IsThroughBit, PassesOn}
use Rattle.design_laws.proofs.Numbered.{IsSpotOf, IsWayOf, body_of_way, is_spot, one_bit_number, passing_there, signal_there, spot_of_bit}
use Rattle.design_laws.proofs.PortBits.{bit_of_port, spot_of_port}
use Rattle.design_laws.proofs.PortSpots.{port_of_bit, port_spot}

-- a signal doesn't begin where one is passed on
pub signal_or_passing : (d : Design) (p : PortBit) → begins_signal d p ≡ true → passes_on d p ≡ true → ⊥
signal_or_passing d p = by (body_of d p.inst)
  where
    apart : (a b : Bool) → a && not b ≡ true → a && b ≡ true → ⊥
    apart true true e f = cc
    apart true false e f = cc
    apart false b e f = cc

    by : (o : Option Body) → asked_at begins_signal_in d p o ≡ true → asked_at passes_on_in d p o ≡ true → ⊥
    by None e f = cc
    by (Some (ModuleBody m)) e f = cc
    by (Some (CellBody c)) e f = apart (is_output (dir_in d (CellBody c) p.port)) (is_interface_cell (slice_get d.cells.cells c)) e f
    by (Some (ModelBody m)) e f = cc

pub true_or_false : (b : Bool) → b ≡ true → b ≡ false → ⊥
true_or_false b e f = cc

-- what is asked of the port bit that a bit is
pub record IsAskedAt (s : Sources) (d : Design) (made : IsMadeFrom s d) (x : Spot) (b : Bit) : Type 0 where
  pub signal : (p : PortBit) → b.port ≡ Some p → begins_signal d p ≡ begins_signal_at s x.way p
  pub passing : (p : PortBit) → b.port ≡ Some p → passes_on d p ≡ passes_on_at s x.way p

pub asked_there : (s : Sources) (d : Design) (made : IsMadeFrom s d) (x : Spot) (b : Bit) → IsSpot s x → IsBitAt s made.numbering.ways made.numbering.spots x b
    → IsAskedAt s d made x b
asked_there s d made x b there is =
    record {
      signal = λ p e. signal_there s d made p x.way (port_of_bit s d made x b there is p e).at_way;
      passing = λ p e. passing_there s d made p x.way (port_of_bit s d made x b there is p e).at_way;
    }

-- DRIVERS.
pub driver_there : (s : Sources) (d : Design) (made : IsMadeFrom s d) (x : Spot) (b : Bit) (p : PortBit) → IsAskedAt s d made x b
    → IsFeederOf s made.numbering.spots x b → b.feeder ≡ Driver p → (b.port ≡ Some p) × (begins_signal d p ≡ true)
driver_there s d made x b p asked (IsFeederOf.driver q port signal f) is =
    let same : q ≡ p = driver_of q p (sym f ∙ is) in
    let own : b.port ≡ Some p = port ∙ ap Some same in
    (own, asked.signal p own ∙ subst (λ z. begins_signal_at s x.way z ≡ true) same signal)
  where
    driver_of : (y z : PortBit) → Driver y ≡ Driver z → y ≡ z
    driver_of y z e = cc
driver_there s d made x b p asked (IsFeederOf.through q source n port passes pin at f) is = let e = sym f ∙ is in cc
driver_there s d made x b p asked (IsFeederOf.bit source n plain link at f) is = let e = sym f ∙ is in cc
driver_there s d made x b p asked (IsFeederOf.constant plain link f) is = let e = sym f ∙ is in cc
driver_there s d made x b p asked (IsFeederOf.nothing plain none f) is = let e = sym f ∙ is in cc

pub there_driver : (s : Sources) (d : Design) (made : IsMadeFrom s d) (x : Spot) (b : Bit) (p : PortBit) → IsAskedAt s d made x b
    → IsFeederOf s made.numbering.spots x b → b.port ≡ Some p → begins_signal d p ≡ true → b.feeder ≡ Driver p
there_driver s d made x b p asked (IsFeederOf.driver q port signal f) own begins =
    f ∙ ap Driver (same_Some q p (sym port ∙ own))
there_driver s d made x b p asked (IsFeederOf.through q source n port passes pin at f) own begins =
    let same : q ≡ p = same_Some q p (sym port ∙ own) in
    absurd (signal_or_passing d p begins (asked.passing p own ∙ subst (λ z. passes_on_at s x.way z ≡ true) same passes))
there_driver s d made x b p asked (IsFeederOf.bit source n plain link at f) own begins =
    absurd (true_or_false (begins_signal_at s x.way p) (sym (asked.signal p own) ∙ begins) (plain.no_signal p own))
there_driver s d made x b p asked (IsFeederOf.constant plain link f) own begins =
    absurd (true_or_false (begins_signal_at s x.way p) (sym (asked.signal p own) ∙ begins) (plain.no_signal p own))
there_driver s d made x b p asked (IsFeederOf.nothing plain none f) own begins =
    absurd (true_or_false (begins_signal_at s x.way p) (sym (asked.signal p own) ∙ begins) (plain.no_signal p own))

pub has_drivers_there : (s : Sources) (d : Design) → IsMadeFrom s d → HasDriversThere d
has_drivers_there s d made n b p e =
    let found = spot_of_bit s d made n b e in
    let asked = asked_there s d made found.0 b (is_spot s d made n found.0 found.1) found.2 in (
      λ is. driver_there s d made found.0 b p asked found.2.fed_so is,
      λ both. there_driver s d made found.0 b p asked found.2.fed_so both.0 both.1,
    )

-- THROUGH PINS. The pin of an instance of a cell as its port.
pub record IsPinAt (s : Sources) (x source : Spot) : Type 0 where
  pub number : ℕ
  pub cell : Cell
  pub pin : ℕ
  pub is_cell : body_at s x.way ≡ Some (CellBody number)
  pub has_cell : slice_get s.cells.cells number ≡ Some cell
  pub has_pin : cell.through ≡ Some pin
  pub through_pin : Pin
  pub at : HasPortAt s x.way pin (port_of_pin through_pin)
  pub is_source : source ≡ port_spot x.way (port_of_pin through_pin) 0

pub pin_of_through : (s : Sources) (x source : Spot) → IsThrough s x source → IsPinAt s x source
pin_of_through s x source is = by is.cell.through refl is.is_through_pin
  where
    by : (o : Option ℕ) → is.cell.through ≡ o → option_and_then (slice_get is.cell.pins) o ≡ Some is.through_pin → IsPinAt s x source
    by None none e = cc
    by (Some pin) has e =
        record {
          number = is.number;
          cell = is.cell;
          pin = pin;
          is_cell = is.body;
          has_cell = is.is_cell;
          has_pin = has;
          through_pin = is.through_pin;
          at = (
            CellBody is.number,
            map port_of_pin is.cell.pins,
            is.body,
            ap (option_map (λ (c : Cell). map port_of_pin c.pins)) is.is_cell,
            slice_get-map port_of_pin is.cell.pins pin ∙ ap (option_map port_of_pin) e,
          );
          is_source = is.is_source;
        }

through_of : (i j n m : ℕ) → Through i n ≡ Through j m → (i ≡ j) × (n ≡ m)
through_of i j n m e = (cc, cc)

-- the bit of the through pin
pub through_bit : (s : Sources) (d : Design) (made : IsMadeFrom s d) → IsFaultless s → (x source : Spot) (inst n : ℕ) → IsWayOf made inst x.way → IsThrough s x source
    → IsSpotOf made n source → IsThroughBit d inst n
through_bit s d made faultless x source inst n at is there =
    let pin = pin_of_through s x source is in
    let bit = bit_of_port s d made faultless (record { inst = inst; port = pin.pin; place = 0 }) x.way (port_of_pin pin.through_pin) at pin.at n
    (subst (IsSpotOf made n) pin.is_source there) in
    record {
      cell_number = pin.number;
      cell = pin.cell;
      pin = pin.pin;
      is_cell = body_of_way s d made inst x.way at ∙ pin.is_cell;
      has_cell = ap (λ (cs : Cells). slice_get cs.cells pin.number) made.same_cells ∙ pin.has_cell;
      has_pin = pin.has_pin;
      is_bit = (bit.0, bit.1, bit.2);
    }

-- there is one bit of a through pin
one_through_bit : (s : Sources) (d : Design) (made : IsMadeFrom s d) → IsFaultless s → (x source : Spot) (inst n m : ℕ) → IsWayOf made inst x.way → IsThrough s x source
    → IsSpotOf made n source → IsThroughBit d inst m → n ≡ m
one_through_bit s d made faultless x source inst n m at is there bit =
    let pin = pin_of_through s x source is in
    let bodies : Some (CellBody pin.number) ≡ Some (CellBody bit.cell_number) = sym pin.is_cell ∙ sym (body_of_way s d made inst x.way at) ∙ bit.is_cell in
    let numbers : pin.number ≡ bit.cell_number = cc in
    let cells : Some pin.cell ≡ Some bit.cell =
    sym pin.has_cell ∙ ap (slice_get s.cells.cells) numbers ∙ sym (ap (λ (cs : Cells). slice_get cs.cells bit.cell_number) made.same_cells) ∙ bit.has_cell in
    let pins : Some pin.pin ≡ Some bit.pin = sym pin.has_pin ∙ ap (λ (c : Cell). c.through) (same_Some pin.cell bit.cell cells) ∙ bit.has_pin in
    let same : bit.pin ≡ pin.pin = sym (same_Some pin.pin bit.pin pins) in
    let port : ℕ → PortBit = λ k. record { inst = inst; port = k; place = 0 } in
    one_bit_number s d made n m (port_spot x.way (port_of_pin pin.through_pin) 0) (subst (IsSpotOf made n) pin.is_source there)
    (spot_of_port s d made (port pin.pin) x.way (port_of_pin pin.through_pin) at pin.at m (subst (λ k. IsBitOf d (port k) m) same bit.is_bit))

passes_there : (s : Sources) (d : Design) (made : IsMadeFrom s d) → IsFaultless s → (x : Spot) (b : Bit) (inst bit : ℕ) → IsSpot s x
    → IsBitAt s made.numbering.ways made.numbering.spots x b → IsFeederOf s made.numbering.spots x b → b.feeder ≡ Through inst bit → PassesOn d b inst bit
passes_there s d made faultless x b inst bit there is (IsFeederOf.driver q port signal f) e = let g = sym f ∙ e in cc
passes_there s d made faultless x b inst bit there is (IsFeederOf.through q source n port passes pin at f) e =
    let same = through_of q.inst inst n bit (sym f ∙ e) in
    let of = port_of_bit s d made x b there is q port in
    record {
      port = q;
      is_port = port;
      interface_output = (asked_there s d made x b there is).passing q port ∙ passes;
      of_instance = same.0;
      through = through_bit s d made faultless x source inst bit (subst (λ k. IsWayOf made k x.way) same.0 of.at_way) pin
          (subst (λ k. IsSpotOf made k source) same.1 at);
    }
passes_there s d made faultless x b inst bit there is (IsFeederOf.bit source n plain link at f) e = let g = sym f ∙ e in cc
passes_there s d made faultless x b inst bit there is (IsFeederOf.constant plain link f) e = let g = sym f ∙ e in cc
passes_there s d made faultless x b inst bit there is (IsFeederOf.nothing plain none f) e = let g = sym f ∙ e in cc

pub there_passes : (s : Sources) (d : Design) (made : IsMadeFrom s d) → IsFaultless s → (x : Spot) (b : Bit) (inst bit : ℕ) → IsSpot s x
    → IsBitAt s made.numbering.ways made.numbering.spots x b → IsFeederOf s made.numbering.spots x b → PassesOn d b inst bit → b.feeder ≡ Through inst bit
there_passes s d made faultless x b inst bit there is (IsFeederOf.driver q port signal f) on =
    let same : q ≡ on.port = same_Some q on.port (sym port ∙ on.is_port) in
    let asked = asked_there s d made x b there is in
    absurd (signal_or_passing d on.port (asked.signal on.port on.is_port ∙ subst (λ z. begins_signal_at s x.way z ≡ true) same signal) on.interface_output)
there_passes s d made faultless x b inst bit there is (IsFeederOf.through q source n port passes pin at f) on =
    let same : q ≡ on.port = same_Some q on.port (sym port ∙ on.is_port) in
    let insts : q.inst ≡ inst = ap (λ (z : PortBit). z.inst) same ∙ on.of_instance in
    let of = port_of_bit s d made x b there is q port in
    let bits : n ≡ bit = one_through_bit s d made faultless x source inst n bit (subst (λ k. IsWayOf made k x.way) insts of.at_way) pin at on.through in
    f ∙ ap (λ k. Through k n) insts ∙ ap (Through inst) bits
there_passes s d made faultless x b inst bit there is (IsFeederOf.bit source n plain link at f) on =
    absurd (true_or_false (passes_on_at s x.way on.port) (sym ((asked_there s d made x b there is).passing on.port on.is_port) ∙ on.interface_output)
    (plain.not_passing on.port on.is_port))
there_passes s d made faultless x b inst bit there is (IsFeederOf.constant plain link f) on =
    absurd (true_or_false (passes_on_at s x.way on.port) (sym ((asked_there s d made x b there is).passing on.port on.is_port) ∙ on.interface_output)
    (plain.not_passing on.port on.is_port))
there_passes s d made faultless x b inst bit there is (IsFeederOf.nothing plain none f) on =
    absurd (true_or_false (passes_on_at s x.way on.port) (sym ((asked_there s d made x b there is).passing on.port on.is_port) ∙ on.interface_output)
    (plain.not_passing on.port on.is_port))

pub has_through_there : (s : Sources) (d : Design) → IsFaultless s → IsMadeFrom s d → HasThroughThere d
has_through_there s d faultless made n b inst bit e =
    let found = spot_of_bit s d made n b e in
    let there = is_spot s d made n found.0 found.1 in (
      λ is. passes_there s d made faultless found.0 b inst bit there found.2 found.2.fed_so is,
      λ on. there_passes s d made faultless found.0 b inst bit there found.2 found.2.fed_so on,
    )
