-- What feeds bits inside instances, by the numbers of bits.
use Rattle.std.proofs.Common.{◌≡◌, ℕ, ◌<◌, inl, inr, Bool, true, false, List, [], ◌∷◌, Option, None, Some, map, option_map, option_and_then, slice_get, refl, sym, ap, ◌∙◌, subst, arith}
use Rattle.std.specs.List.{find, flat_map}
use Rattle.std.proofs.lemmas.Option.{same_Some, slice_get-map}
use Rattle.pw_defs.specs.declared.cells.Cell.{Cell}
use Rattle.pw_defs.specs.declared.cells.Dir.{Dir}
use Rattle.pw_defs.specs.declared.cells.Dir.TheVariants.{Input, Output}
use Rattle.pw_defs.specs.declared.cells.Pin.{Pin}
use Rattle.pw_defs.specs.declared.chains.Element.{Element}
use Rattle.pw_defs.specs.declared.chains.Partial.{Partial}
use Rattle.pw_defs.specs.declared.chains.Partial.TheVariants.{Drive, Feed, Quiet, Take}
use Rattle.pw_defs.specs.declared.design.Body.{Body}
use Rattle.pw_defs.specs.declared.design.Body.TheVariants.{Module as ModuleBody, Cell as CellBody, Model as ModelBody}
use Rattle.pw_defs.specs.declared.model.Model.{Model}
use Rattle.list_defs.specs.Members.{IsIn, all_differ, same_name}
use Rattle.list_defs.proofs.Members.{IsIn-flat_map, IsIn-flat_map_from, IsIn-slice_get}
use Rattle.list_defs.proofs.Few.{place_of_member}
use Rattle.list_defs.proofs.NameLemmas.{place_of-own, same_name-equal}
use Rattle.list_defs.proofs.OneList.{one_place}
use Rattle.list_defs.proofs.Rising.{found_in}
use Rattle.std.specs.Cmp.{IsTotalOrder}
use Rattle.std.proofs.lemmas.Cmp.{nat_cmp_total, nat_list_cmp_total, on_total, then_total}
use Rattle.pw_defs.specs.declared.netlist.Port.{Port}
use Rattle.design_defs.specs.Bits.{Spot, port_named, range_in, range_of}
use Rattle.design_defs.specs.DesignFaults.{FaultKind, HasNoneBefore}
use Rattle.design_defs.specs.Drivers.{is_interface_cell}
use Rattle.design_defs.specs.Hierarchy.{Sources, Way, body_at}
use Rattle.design_defs.specs.Inputs.{AreReadSources}
use Rattle.design_defs.specs.Links.{IsModelFeed, IsThrough}
use Rattle.design_defs.specs.Ports.{port_of_pin}
use Rattle.design_defs.specs.Ranges.{bit_name, width}
use Rattle.net_bits.specs.Placed.{ArePlaced}
use Rattle.net_bits.specs.declared.placed.Placed.{Placed}
use Rattle.net_bits.proofs.Spots.{nets_of, plan_at}
use Rattle.net_inner.specs.Inside.{IsFedInside, local_name, named_in, names_of_bits}
use Rattle.net_inner.specs.Pairs.{pairs_if_cell, pairs_if_model, pairs_of, pairs_of_cell, pairs_of_dir, pairs_of_partial, pairs_of_pin, pairs_through}
use Rattle.net_places.specs.Nets.{AreLocalBits, LocalBit, local_bits, local_cmp, spot_of}
use Rattle.net_places.proofs.BitLaws.{local_bits_are}
use Rattle.net_loops.proofs.OwnPorts.{IsLeaf, all_differ-places, bit_alone}

-- PAIRS of names, taken apart and made.
in_dir : (pin through a b : List ℕ) (d : Dir) → IsIn (a, b) (pairs_of_dir pin through d) → (a ≡ pin) × (b ≡ through) × (d ≡ Output)
in_dir pin through a b Input there = absurd there
in_dir pin through a b Output (inl same) = (ap (λ (p : List ℕ × List ℕ). p.0) same, ap (λ (p : List ℕ × List ℕ). p.1) same, refl)
in_dir pin through a b Output (inr later) = absurd later

-- what a cell says is that an output pin is fed by the through pin
pub record IsSaidByCell (c : Cell) (a b : List ℕ) : Type 0 where
  pub interface_cell : is_interface_cell (Some c) ≡ true
  pub pin : Pin
  pub has : IsIn pin c.pins
  pub named : a ≡ pin.name
  pub output : pin.dir ≡ Output
  pub through : Pin
  pub is_through : option_and_then (slice_get c.pins) c.through ≡ Some through
  pub source : b ≡ through.name

pub said_by_cell : (c : Cell) (a b : List ℕ) → IsIn (a, b) (pairs_of_cell c) → IsSaidByCell c a b
said_by_cell c a b there = by (is_interface_cell (Some c)) refl
  where
    of_pin : (o : Option Pin) → option_and_then (slice_get c.pins) c.through ≡ o → is_interface_cell (Some c) ≡ true → IsIn (a, b) (pairs_through c.pins o) → IsSaidByCell c a b
    of_pin None e iso within = absurd within
    of_pin (Some through) e iso within =
        let from = IsIn-flat_map_from (pairs_of_pin through.name) c.pins (a, b) within in
        let parts = in_dir from.0.name through.name a b from.0.dir from.2 in
        record { interface_cell = iso; pin = from.0; has = from.1; named = parts.0; output = parts.2; through = through; is_through = e; source = parts.1 }

    by : (yes : Bool) → is_interface_cell (Some c) ≡ yes → IsSaidByCell c a b
    by true e = of_pin (option_and_then (slice_get c.pins) c.through) refl e (rw e at there)
    by false e = let none : IsIn {X = List ℕ × List ℕ} (a, b) [] = rw e at there in absurd none

pub cell_says : (c : Cell) (a b : List ℕ) → IsSaidByCell c a b → IsIn (a, b) (pairs_of_cell c)
cell_says c a b is =
    let here : IsIn (a, b) (pairs_of_pin is.through.name is.pin) =
    subst (λ d. IsIn (a, b) (pairs_of_dir is.pin.name is.through.name d)) (sym is.output) (inl (λ i. (is.named i, is.source i))) in
    let all : IsIn (a, b) (pairs_through c.pins (Some is.through)) = IsIn-flat_map (pairs_of_pin is.through.name) is.pin c.pins (a, b) is.has here in
    rw is.interface_cell (subst (λ o. IsIn (a, b) (pairs_through c.pins o)) (sym is.is_through) all)

in_partial : (a b : List ℕ) (w : Partial) → IsIn (a, b) (pairs_of_partial w) → (elements : List Element) × (w ≡ Feed a b elements)
in_partial a b (Drive bit pin set elements) there = absurd there
in_partial a b (Feed bit source elements) (inl same) =
    (elements, λ i. Feed ((sym (ap (λ (p : List ℕ × List ℕ). p.0) same)) i) ((sym (ap (λ (p : List ℕ × List ℕ). p.1) same)) i) elements)
in_partial a b (Feed bit source elements) (inr later) = absurd later
in_partial a b (Quiet bit) there = absurd there
in_partial a b (Take bit receiver set elements) there = absurd there

pub said_by_model : (m : Model) (a b : List ℕ) → IsIn (a, b) (flat_map pairs_of_partial m.partials) → (elements : List Element) × IsIn (Feed a b elements) m.partials
said_by_model m a b there =
    let from = IsIn-flat_map_from pairs_of_partial m.partials (a, b) there in
    let feed = in_partial a b from.0 from.2 in
    (feed.0, subst (λ w. IsIn w m.partials) feed.1 from.1)

pub model_says : (m : Model) (a b : List ℕ) (elements : List Element) → IsIn (Feed a b elements) m.partials → IsIn (a, b) (flat_map pairs_of_partial m.partials)
model_says m a b elements there = IsIn-flat_map pairs_of_partial (Feed a b elements) m.partials (a, b) there (inl refl)

-- PINS by their names
find_pin : (net : List ℕ) (pins : List Pin) → port_named net (map port_of_pin pins) ≡ option_map port_of_pin (find (λ (q : Pin). same_name net q.name) pins)
find_pin net [] = refl
find_pin net (pin ∷ pins) = by (find_pin net pins) (same_name net pin.name) refl
  where
    by : port_named net (map port_of_pin pins) ≡ option_map port_of_pin (find (λ (q : Pin). same_name net q.name) pins) → (yes : Bool) → same_name net pin.name ≡ yes
        → port_named net (map port_of_pin (pin ∷ pins)) ≡ option_map port_of_pin (find (λ (q : Pin). same_name net q.name) (pin ∷ pins))
    by rest true e = rw e refl
    by rest false e = rw e rest

-- the pin that a bit of a cell belongs to; it has one bit
record HasPin (c : Cell) (net : List ℕ) (range : Option (ℕ × ℕ)) : Type 0 where
  pin : Pin
  found : find (λ (q : Pin). same_name net q.name) c.pins ≡ Some pin
  scalar : range ≡ None

pin_of : (s : Sources) (number : ℕ) (c : Cell) (net : List ℕ) (range : Option (ℕ × ℕ)) → slice_get s.cells.cells number ≡ Some c → range_in s (CellBody number) net ≡ Some range → HasPin c net range
pin_of s number c net range is ranged = by (find (λ (q : Pin). same_name net q.name) c.pins) refl (sym own ∙ ranged)
  where
    own : range_in s (CellBody number) net ≡ option_map (λ (q : Port). q.range) (option_map port_of_pin (find (λ (q : Pin). same_name net q.name) c.pins))
    own =
        ap (λ o. option_map (λ (q : Port). q.range) (option_and_then (port_named net) (option_map (λ (x : Cell). map port_of_pin x.pins) o))) is
        ∙ ap (option_map (λ (q : Port). q.range)) (find_pin net c.pins)

    by : (o : Option Pin) → find (λ (q : Pin). same_name net q.name) c.pins ≡ o → option_map (λ (q : Port). q.range) (option_map port_of_pin o) ≡ Some range → HasPin c net range
    by None e h = cc
    by (Some pin) e h = record { pin = pin; found = e; scalar = sym (same_Some None range h) }

-- pins of one name are one
one_pin : (pins : List Pin) → all_differ same_name (map (λ (q : Pin). q.name) pins) ≡ true → (a b : Pin) → IsIn a pins → IsIn b pins → a.name ≡ b.name → a ≡ b
one_pin pins differ a b at_a at_b same =
    let i = place_of_member a pins at_a in
    let j = place_of_member b pins at_b in
    let names : List (List ℕ) = map (λ (q : Pin). q.name) pins in
    let name_a : slice_get names i.0 ≡ Some a.name = slice_get-map (λ (q : Pin). q.name) pins i.0 ∙ ap (option_map (λ (q : Pin). q.name)) i.1 in
    let name_b : slice_get names j.0 ≡ Some a.name = slice_get-map (λ (q : Pin). q.name) pins j.0 ∙ ap (option_map (λ (q : Pin). q.name)) j.1 ∙ ap Some (sym same) in
    let places : i.0 ≡ j.0 = same_Some i.0 j.0 (sym (place_of-own a.name names i.0 differ name_a) ∙ place_of-own a.name names j.0 differ name_b) in
    same_Some a b (sym i.1 ∙ ap (slice_get pins) places ∙ j.1)

local_total : IsTotalOrder local_cmp
local_total = then_total (on_total (λ (x : LocalBit). x.0) nat_list_cmp_total) (on_total (λ (x : LocalBit). x.1) nat_cmp_total)

module _ (s : Sources) (p : Placed) (there : ArePlaced s p) where
  -- the bits of the body of an instance
  pub local_are : (way : Way) (b : Body) → body_at s way ≡ Some b → AreLocalBits s b (local_bits (nets_of s p there (Some b)))
  local_are way b is = local_bits_are s b (nets_of s p there (Some b)) (plan_at s p there way b is).nets

  name_is : (b : Body) (x : LocalBit) (range : Option (ℕ × ℕ)) → range_in s b x.0 ≡ Some range → local_name s b x ≡ bit_name x.0 range x.1
  name_is b x range is = ap (named_in x) is

  -- a name among those of a body's bits is that of a bit
  pub record IsNameAt (b : Body) (k : ℕ) (name : List ℕ) : Type 0 where
    pub bit : LocalBit
    pub at : slice_get (local_bits (nets_of s p there (Some b))) k ≡ Some bit
    pub range : Option (ℕ × ℕ)
    pub is_range : range_in s b bit.0 ≡ Some range
    pub within : bit.1 < width range
    pub is_name : name ≡ bit_name bit.0 range bit.1

  pub name_at : (way : Way) (b : Body) → body_at s way ≡ Some b → (k : ℕ) (name : List ℕ) → slice_get (names_of_bits s p b) k ≡ Some name → IsNameAt b k name
  name_at way b is k name at = by (slice_get bits k) refl (sym (slice_get-map (local_name s b) bits k) ∙ at)
    where
      bits : List LocalBit
      bits = local_bits (nets_of s p there (Some b))

      by : (o : Option LocalBit) → slice_get bits k ≡ o → option_map (local_name s b) o ≡ Some name → IsNameAt b k name
      by None e h = cc
      by (Some x) e h =
          let own = (local_are way b is).each x (IsIn-slice_get bits k x e) in
          record { bit = x; at = e; range = own.range; is_range = own.is_range; within = own.within; is_name = sym (same_Some (local_name s b x) name h) ∙ name_is b x own.range own.is_range }

  pub at_name : (b : Body) (k : ℕ) (x : LocalBit) (range : Option (ℕ × ℕ)) → slice_get (local_bits (nets_of s p there (Some b))) k ≡ Some x → range_in s b x.0 ≡ Some range
      → slice_get (names_of_bits s p b) k ≡ Some (bit_name x.0 range x.1)
  at_name b k x range at is =
      slice_get-map (local_name s b) (local_bits (nets_of s p there (Some b))) k ∙ ap (option_map (local_name s b)) at ∙ ap Some (name_is b x range is)

  -- no two bits of a cell or model have one name
  pub names_differ : HasNoneBefore FaultKind.wire_loop s → (way : Way) (b : Body) → IsLeaf b → body_at s way ≡ Some b → all_differ same_name (names_of_bits s p b) ≡ true
  names_differ early way b leaf is = all_differ-places (names_of_bits s p b) one
    where
      one : (i j : ℕ) (name : List ℕ) → slice_get (names_of_bits s p b) i ≡ Some name → slice_get (names_of_bits s p b) j ≡ Some name → i ≡ j
      one i j name at_i at_j =
          let x = name_at way b is i name at_i in
          let y = name_at way b is j name at_j in
          let same : spot_of way x.bit ≡ spot_of way y.bit =
          bit_alone s early (spot_of way x.bit) (spot_of way y.bit) b x.range y.range leaf is refl x.is_range y.is_range x.within y.within (sym x.is_name ∙ y.is_name) in
          let bits : x.bit ≡ y.bit = λ t. ((same t).net, (same t).place) in
          one_place local_cmp local_total (local_bits (nets_of s p there (Some b))) (local_are way b is).rising i j y.bit (x.at ∙ ap Some bits) y.at

  -- SAID of names is what feeds bits of an instance.
  module _ (read : AreReadSources s) (way : Way) (x y : LocalBit) (q r : Option (ℕ × ℕ)) where
    fed_in_cell : (number : ℕ) (c : Cell) → body_at s way ≡ Some (CellBody number) → slice_get s.cells.cells number ≡ Some c → range_in s (CellBody number) x.0 ≡ Some q
        → range_in s (CellBody number) y.0 ≡ Some r → y.1 < width r → IsSaidByCell c (bit_name x.0 q x.1) (bit_name y.0 r y.1) → IsThrough s (spot_of way x) (spot_of way y)
    fed_in_cell number c is is_cell range_x range_y within said = record {
      number = number;
      cell = c;
      body = is;
      is_cell = is_cell;
      interface_cell = said.interface_cell;
      out_pin = pin_x.pin;
      is_out_pin = pin_x.found;
      is_out = ap (λ (z : Pin). z.dir) same_pin ∙ said.output;
      through_pin = said.through;
      is_through_pin = said.is_through;
      is_source = λ i. record { way = way; net = net_y i; place = place_y i };
    }
      where
        pin_x : HasPin c x.0 q
        pin_x = pin_of s number c x.0 q is_cell range_x

        pin_y : HasPin c y.0 r
        pin_y = pin_of s number c y.0 r is_cell range_y

        found : IsIn (pin_x.pin) c.pins × (same_name x.0 (pin_x.pin.name) ≡ true)
        found = found_in (λ (z : Pin). same_name x.0 z.name) c.pins pin_x.pin pin_x.found

        names : pin_x.pin.name ≡ said.pin.name
        names = sym (same_name-equal x.0 pin_x.pin.name found.1) ∙ sym (ap (λ o. bit_name x.0 o x.1) pin_x.scalar) ∙ said.named

        same_pin : pin_x.pin ≡ said.pin
        same_pin = one_pin c.pins (read.each_cell c (IsIn-slice_get s.cells.cells number c is_cell)).pin_names pin_x.pin said.pin found.0 said.has names

        net_y : y.0 ≡ said.through.name
        net_y = sym (ap (λ o. bit_name y.0 o y.1) pin_y.scalar) ∙ said.source

        place_y : y.1 ≡ 0
        place_y = let one : y.1 < 1 = subst (λ o. y.1 < width o) pin_y.scalar within in omega (arith, one)

    cell_fed : (number : ℕ) (c : Cell) → slice_get s.cells.cells number ≡ Some c → body_at s way ≡ Some (CellBody number) → range_in s (CellBody number) x.0 ≡ Some q
        → range_in s (CellBody number) y.0 ≡ Some r → IsThrough s (spot_of way x) (spot_of way y) → IsSaidByCell c (bit_name x.0 q x.1) (bit_name y.0 r y.1)
    cell_fed number c is_cell is range_x range_y through = record {
      interface_cell = ap (λ (z : Cell). is_interface_cell (Some z)) same ∙ through.interface_cell;
      pin = through.out_pin;
      has = subst (λ (z : Cell). IsIn through.out_pin z.pins) (sym same) found.0;
      named = ap (λ o. bit_name x.0 o x.1) (pin_of s number c x.0 q is_cell range_x).scalar ∙ same_name-equal x.0 through.out_pin.name found.1;
      output = through.is_out;
      through = through.through_pin;
      is_through = ap (λ (z : Cell). option_and_then (slice_get z.pins) z.through) same ∙ through.is_through_pin;
      source = ap (λ o. bit_name y.0 o y.1) (pin_of s number c y.0 r is_cell range_y).scalar ∙ ap (λ (z : Spot). z.net) through.is_source;
    }
      where
        numbers : CellBody number ≡ CellBody through.number
        numbers = same_Some (CellBody number) (CellBody through.number) (sym is ∙ through.body)

        same : c ≡ through.cell
        same = by numbers
          where
            by : CellBody number ≡ CellBody through.number → c ≡ through.cell
            by e = let one : number ≡ through.number = cc in same_Some c through.cell (sym is_cell ∙ ap (slice_get s.cells.cells) one ∙ through.is_cell)

        found : IsIn (through.out_pin) (through.cell.pins) × (same_name x.0 (through.out_pin.name) ≡ true)
        found = found_in (λ (z : Pin). same_name x.0 z.name) through.cell.pins through.out_pin through.is_out_pin

    ranged : (b : Body) (z : LocalBit) (o : Option (ℕ × ℕ)) → body_at s way ≡ Some b → range_in s b z.0 ≡ Some o → range_of s (spot_of way z) ≡ Some o
    ranged b z o is range = ap (option_and_then (λ body. range_in s body z.0)) is ∙ range

    fed_in_model : (number : ℕ) (m : Model) → body_at s way ≡ Some (ModelBody number) → slice_get s.models number ≡ Some m → range_in s (ModelBody number) x.0 ≡ Some q
        → range_in s (ModelBody number) y.0 ≡ Some r → (elements : List Element) → IsIn (Feed (bit_name x.0 q x.1) (bit_name y.0 r y.1) elements) m.partials
        → IsModelFeed s (spot_of way x) (spot_of way y)
    fed_in_model number m is is_model range_x range_y elements says = record {
      number = number;
      model = m;
      body = is;
      is_model = is_model;
      one_instance = refl;
      out_range = q;
      in_range = r;
      is_out_range = ranged (ModelBody number) x q is range_x;
      is_in_range = ranged (ModelBody number) y r is range_y;
      elements = elements;
      says = says;
    }

    model_fed : (number : ℕ) (m : Model) → slice_get s.models number ≡ Some m → body_at s way ≡ Some (ModelBody number) → range_in s (ModelBody number) x.0 ≡ Some q
        → range_in s (ModelBody number) y.0 ≡ Some r → (feed : IsModelFeed s (spot_of way x) (spot_of way y)) → IsIn (Feed (bit_name x.0 q x.1) (bit_name y.0 r y.1) (feed.elements)) m.partials
    model_fed number m is_model is range_x range_y feed =
        subst (λ (z : Model). IsIn (Feed (bit_name x.0 q x.1) (bit_name y.0 r y.1) feed.elements) z.partials) (sym same)
        (subst (λ o. IsIn (Feed (bit_name x.0 o x.1) (bit_name y.0 r y.1) feed.elements) feed.model.partials) out
        (subst (λ o. IsIn (Feed (bit_name x.0 feed.out_range x.1) (bit_name y.0 o y.1) feed.elements) feed.model.partials) inn feed.says))
      where
        numbers : ModelBody number ≡ ModelBody feed.number
        numbers = same_Some (ModelBody number) (ModelBody feed.number) (sym is ∙ feed.body)

        same : m ≡ feed.model
        same = by numbers
          where
            by : ModelBody number ≡ ModelBody feed.number → m ≡ feed.model
            by e = let one : number ≡ feed.number = cc in same_Some m feed.model (sym is_model ∙ ap (slice_get s.models) one ∙ feed.is_model)

        out : feed.out_range ≡ q
        out = same_Some feed.out_range q (sym feed.is_out_range ∙ ranged (ModelBody number) x q is range_x)

        inn : feed.in_range ≡ r
        inn = same_Some feed.in_range r (sym feed.is_in_range ∙ ranged (ModelBody number) y r is range_y)

    -- what a body says is what feeds its bits
    pub said_feeds : (b : Body) → body_at s way ≡ Some b → range_in s b x.0 ≡ Some q → range_in s b y.0 ≡ Some r → y.1 < width r
        → IsIn (bit_name x.0 q x.1, bit_name y.0 r y.1) (pairs_of s b) → IsFedInside s (spot_of way x) (spot_of way y)
    said_feeds (ModuleBody n) is range_x range_y within said = absurd said
    said_feeds (CellBody number) is range_x range_y within said = by (slice_get s.cells.cells number) refl said
      where
        by : (o : Option Cell) → slice_get s.cells.cells number ≡ o → IsIn (bit_name x.0 q x.1, bit_name y.0 r y.1) (pairs_if_cell o) → IsFedInside s (spot_of way x) (spot_of way y)
        by None e h = absurd h
        by (Some c) e h = IsFedInside.through (fed_in_cell number c is e range_x range_y within (said_by_cell c (bit_name x.0 q x.1) (bit_name y.0 r y.1) h))
    said_feeds (ModelBody number) is range_x range_y within said = by (slice_get s.models number) refl said
      where
        by : (o : Option Model) → slice_get s.models number ≡ o → IsIn (bit_name x.0 q x.1, bit_name y.0 r y.1) (pairs_if_model o) → IsFedInside s (spot_of way x) (spot_of way y)
        by None e h = absurd h
        by (Some m) e h = let line = said_by_model m (bit_name x.0 q x.1) (bit_name y.0 r y.1) h in IsFedInside.feed (fed_in_model number m is e range_x range_y line.0 line.1)

    pub feeds_said : (b : Body) → body_at s way ≡ Some b → range_in s b x.0 ≡ Some q → range_in s b y.0 ≡ Some r → IsFedInside s (spot_of way x) (spot_of way y)
        → IsIn (bit_name x.0 q x.1, bit_name y.0 r y.1) (pairs_of s b)
    feeds_said b is range_x range_y (IsFedInside.through t) =
        let body : b ≡ CellBody t.number = same_Some b (CellBody t.number) (sym is ∙ t.body) in
        let here = cell_says t.cell (bit_name x.0 q x.1) (bit_name y.0 r y.1) (cell_fed t.number t.cell t.is_cell t.body
        (ap (λ z. range_in s z x.0) (sym body) ∙ range_x) (ap (λ z. range_in s z y.0) (sym body) ∙ range_y) t) in
        subst (λ z. IsIn (bit_name x.0 q x.1, bit_name y.0 r y.1) (pairs_of s z)) (sym body)
        (subst (λ o. IsIn (bit_name x.0 q x.1, bit_name y.0 r y.1) (pairs_if_cell o)) (sym t.is_cell) here)
    feeds_said b is range_x range_y (IsFedInside.feed f) =
        let body : b ≡ ModelBody f.number = same_Some b (ModelBody f.number) (sym is ∙ f.body) in
        let here = model_says f.model (bit_name x.0 q x.1) (bit_name y.0 r y.1) f.elements (model_fed f.number f.model f.is_model f.body
        (ap (λ z. range_in s z x.0) (sym body) ∙ range_x) (ap (λ z. range_in s z y.0) (sym body) ∙ range_y) f) in
        subst (λ z. IsIn (bit_name x.0 q x.1, bit_name y.0 r y.1) (pairs_of s z)) (sym body)
        (subst (λ o. IsIn (bit_name x.0 q x.1, bit_name y.0 r y.1) (pairs_if_model o)) (sym f.is_model) here)
