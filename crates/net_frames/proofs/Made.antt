-- Rows that have all instances and all bits are those of the design.
use Rattle.std.proofs.Common.{◌≡◌, ℕ, zero, suc, ◌+◌, ◌-◌, ◌<◌, true, List, [], ◌∷◌, Option, Some, None, length, map, option_and_then, option_map, refl, sym, ap, ◌∙◌, subst, arith}
use Rattle.std.specs.List.{AllZip, slice_get}
use Rattle.std.proofs.lemmas.Option.{get_or_from_slice_get, same_Some, slice_get_within}
use Rattle.std.proofs.lemmas.Slice.Zip.{AllZip-long}
use Rattle.pw_defs.specs.declared.cells.Cell.{Cell}
use Rattle.pw_defs.specs.declared.cells.Cells.{Cells}
use Rattle.pw_defs.specs.declared.design.Bit.{Bit}
use Rattle.pw_defs.specs.declared.design.Body.{Body}
use Rattle.pw_defs.specs.declared.design.Body.TheVariants.{Cell as CellBody}
use Rattle.pw_defs.specs.declared.design.Feeder.TheVariants.{Through as ThroughFeeder}
use Rattle.pw_defs.specs.declared.design.PortBit.{PortBit}
use Rattle.pw_defs.specs.declared.netlist.Port.{Port}
use Rattle.list_defs.specs.Orders.{AreAllRising}
use Rattle.list_defs.proofs.Members.{IsIn-slice_get}
use Rattle.design_defs.specs.Bits.{HasSpotName, IsSpot, Spot, port_bit_of, range_in, spot_cmp}
use Rattle.design_defs.specs.Designs.{IsBitAt, IsFeederOf, IsInstanceAt, IsMadeFrom, IsParentOf, IsPlainBit, begins_signal_at, head_of, parts_of, passes_on_at}
use Rattle.design_defs.specs.Drivers.{asked_at, begins_signal_in, passes_on_in}
use Rattle.design_defs.specs.Hierarchy.{Sources, Way, body_at, number_named, path, ports_in, AreNamedInsts}
use Rattle.design_defs.specs.Names.{joined}
use Rattle.design_defs.specs.Ranges.{width}
use Rattle.design_defs.specs.Links.{IsThrough}
use Rattle.design_laws.proofs.FirstFound.{right_of}
use Rattle.design_rows.specs.declared.tables.Feed.{Feed}
use Rattle.design_rows.specs.declared.tables.PlaceRow.{PlaceRow}
use Rattle.design_rows.specs.declared.tables.Rows.{Rows}
use Rattle.design_rows.specs.Children.{HasNames}
use Rattle.design_rows.specs.View.{bit_at, design_of, driver_in, feed_at, feeder_in, inst_at, instance_at, kind_of, name_at}
use Rattle.design_rows.specs.View.{no_feed, owner_at, parent_in, path_at, place_at, place_name, place_of_bit, port_in}
use Rattle.design_rows.proofs.Owners.{owner_owns}
use Rattle.design_rows.proofs.RowLemmas.{bit_get, instance_get, length_bits, length_instances}
use Rattle.module_rows.specs.declared.plain.Netlist.{Netlist}
use Rattle.net_feeds.specs.Feeds.{AreFedSo, IsFedSo}
use Rattle.net_instances.specs.declared.numbering.InstanceRow.{InstanceRow}
use Rattle.net_instances.specs.declared.numbering.Instances.{Instances}
use Rattle.net_instances.specs.Instances.{AreInstances, IsInsideAt}
use Rattle.net_places.specs.declared.plans.Plans.{Plans}
use Rattle.net_places.specs.Plans.{ArePlans, IsOf}
use Rattle.net_sizes.specs.declared.sizes.Counts.{Counts}
use Rattle.net_frames.specs.Feeding.{IsBitFeed, IsFeed, IsPlainPort, IsThroughPin, body_in, feed_of, own_place, own_port}
use Rattle.net_frames.specs.Framed.{IsRowOf}
use Rattle.net_frames.proofs.Fed.{pin_scalar, through_of}
use Rattle.net_frames.proofs.ListLemmas.{zip_by_place}
use Rattle.net_frames.proofs.Signals.{same_passing, same_signal}
use Rattle.net_frames.proofs.Standing.{IsAt, IsBit, IsWhole, as_many, at_way, bit_of_inst, body_is, first_is_top, inst_name, one_owner, owned, path_is, top_is_first, way_at}

-- a bit of the design, by its owner and its place
made_bit : (r : Rows) (k o : ℕ) (place : PlaceRow) → owner_at r k ≡ o → place_of_bit r k ≡ place
    → bit_at r k ≡ record { name = joined (path_at r o) (name_at r (place_name place)); owner = o; port = port_in o place; feeder = feeder_in o place (feed_at r k) }
unfolding bit_at
made_bit r k o place owner is = λ i. record {
  name = joined (path_at r (owner i)) (name_at r (place_name (is i)));
  owner = owner i;
  port = port_in (owner i) (is i);
  feeder = feeder_in (owner i) (is i) (feed_at r k);
}

-- a port bit with its instance, its port and its place
port_parts : (o k : ℕ) (port : Option ℕ) (q : PortBit) → option_map (λ x. record { inst = o; port = x; place = k }) port ≡ Some q
    → (port ≡ Some q.port) × (q.inst ≡ o)
port_parts o k None q e = cc
port_parts o k (Some x) q e =
    let same : record { inst = o; port = x; place = k } ≡ q = same_Some _ q e in
    (ap (λ (y : PortBit). Some y.port) same, sym (ap (λ (y : PortBit). y.inst) same))

module _ (s : Sources) (n : Netlist) (p : Plans) (made : Instances) (counts : Counts) (r : Rows) (whole : IsWhole n p made.rows r) (is_of : IsOf n r.cells r.models s)
    (insts : AreInstances s n counts made) where
  abbrev heads : r.modules ≡ map head_of s.modules
  heads = whole.heads ∙ ap (map head_of) (sym is_of.0)

  abbrev ways : List Way
  ways = insts.ways

  abbrev IsHere : ℕ → Way → Type 0
  IsHere = IsAt s n p made counts r whole is_of insts

  -- INSTANCES
  parent_is : (o : ℕ) (w : Way) → slice_get ways o ≡ Some w → (instance : InstanceRow) → IsRowOf r instance (inst_at r o) → IsInsideAt s n.symbols ways instance w
      → IsParentOf ways w (parent_in o (inst_at r o).parent)
  parent_is o w there instance row IsInsideAt.top = ap (λ (k : ℕ). parent_in k (inst_at r o).parent) (top_is_first s n p made counts r whole is_of insts o there)
  parent_is o w there instance row (IsInsideAt.inner name outer outer_at named line) =
      ((inst_at r o).parent, some o there, ap (slice_get ways) row.inside ∙ outer_at)
    where
      some : (k : ℕ) → slice_get ways k ≡ Some (name ∷ outer) → parent_in k (inst_at r o).parent ≡ Some (inst_at r o).parent
      some zero at = let no = first_is_top s n p made counts r whole is_of insts (name ∷ outer) at in cc
      some (suc k) at = refl

  instance_is : (o : ℕ) (way : Way) → IsHere o way → IsInstanceAt s ways way (instance_at r o)
  unfolding instance_at
  instance_is o way at = record {
    path_there = path_is s n p made counts r whole is_of insts o way at.there;
    parent_there = parent_is o way at.there at.instance at.row at.is.inside;
    body_there = body_is s n p made counts r whole is_of insts o way at;
  }

  pub instances_are : AllZip (IsInstanceAt s ways) ways (design_of r).insts
  instances_are =
      zip_by_place (IsInstanceAt s ways) ways (design_of r).insts (sym (as_many s n p made counts r whole is_of insts) ∙ sym (length_instances r)) (λ o way i there at.
      let here = at_way s n p made counts r whole is_of insts o way there in
      subst (IsInstanceAt s ways way) (same_Some (instance_at r o) i (sym (instance_get r o here.within) ∙ at)) (instance_is o way here))

  -- no instance below the top has the empty name
  pub names_are : AreNamedInsts s → HasNames r
  names_are named o inner empty =
      let found = way_at s n p made counts r whole is_of insts o inner.1 in
      by found.0 found.1.there found.1.instance found.1.row found.1.is.inside
    where
      by : (w : Way) → slice_get ways o ≡ Some w → (instance : InstanceRow) → IsRowOf r instance (inst_at r o) → IsInsideAt s n.symbols ways instance w → ⊥
      by w there instance row IsInsideAt.top = let first = top_is_first s n p made counts r whole is_of insts o there in absurd (omega (arith, inner.0))
      by w there instance row (IsInsideAt.inner name outer outer_at spelled line) =
          named line.number line.m line.i line.of_module.is_module (IsIn-slice_get line.m.insts instance.inst line.i line.there)
          (line.same ∙ sym (inst_name s n p made counts r whole is_of insts o name instance row spelled) ∙ empty)

  -- SIGNALS
  begins_there : (o : ℕ) (way : Way) → IsHere o way → (q : PortBit) → begins_signal_at s way q ≡ begins_signal_in (design_of r) (body_in r o) q
  begins_there o way at q =
      ap (asked_at begins_signal_in (parts_of s) q) (body_is s n p made counts r whole is_of insts o way at)
      ∙ sym (same_signal s r (sym is_of.1) heads (sym is_of.2) (body_in r o) q)

  passes_there : (o : ℕ) (way : Way) → IsHere o way → (q : PortBit) → passes_on_at s way q ≡ passes_on_in (design_of r) (body_in r o) q
  passes_there o way at q =
      ap (asked_at passes_on_in (parts_of s) q) (body_is s n p made counts r whole is_of insts o way at)
      ∙ sym (same_passing s r (sym is_of.1) heads (sym is_of.2) (body_in r o) q)

  module _ (plans : ArePlans s n.symbols p) (spots : List Spot) (all : AreAllRising spot_cmp (IsSpot s) spots) where
    abbrev IsOne : Way → ℕ → ℕ → Type 0
    IsOne = IsBit s n p made counts r whole is_of insts plans

    -- the spot of a bit of an instance
    abbrev spot : (way : Way) (o at : ℕ) → IsOne way o at → Spot
    spot way o at one = record { way = way; net = one.bit.0.name; place = one.bit.1 }

    -- the number of the port of a bit
    port_of_one : (way : Way) (o at : ℕ) (one : IsOne way o at) (q : PortBit) → own_port r o at ≡ Some q → (one.bit.0.port ≡ Some q.port) × (q.inst ≡ o)
    port_of_one way o at one q is = port_parts o one.bit.1 one.bit.0.port q (sym (one.place.ported o) ∙ is)

    number_of_one : (way : Way) (o at : ℕ) (one : IsOne way o at) (c : ℕ) → body_in r o ≡ CellBody c → (k : ℕ) → one.bit.0.port ≡ Some k
        → option_and_then (number_named (λ (x : Port). x.name) one.bit.0.name) (ports_in s (CellBody c)) ≡ Some k
    number_of_one way o at one c is k port =
        ap (λ (body : Body). option_and_then (number_named (λ (x : Port). x.name) one.bit.0.name) (ports_in s body)) (sym is)
        ∙ sym (owned s (body_in r o) one.bit.0.name one.bit.0 one.own).1 ∙ port

    -- FEEDERS
    module _ (o at : ℕ) (way : Way) (here : IsHere o way) (one : IsOne way o at) (b : Bit) (port : b.port ≡ own_port r o at) where
      plain_bit : ((q : PortBit) → own_port r o at ≡ Some q → IsPlainPort r o q) → IsPlainBit s (spot way o at one) b
      plain_bit plain = record {
        no_signal = λ q is. begins_there o way here q ∙ (plain q (sym port ∙ is)).no_signal;
        not_passing = λ q is. passes_there o way here q ∙ (plain q (sym port ∙ is)).not_passing;
      }

      by_link : ((q : PortBit) → own_port r o at ≡ Some q → IsPlainPort r o q) → (linked : Feed) → b.feeder ≡ feeder_in o (own_place r o at) linked
          → IsFedSo s spots (spot way o at one) linked → IsFeederOf s spots (spot way o at one) b
      by_link plain linked feeder (IsFedSo.bit source m is there) = IsFeederOf.bit source m (plain_bit plain) is there feeder
      by_link plain linked feeder (IsFedSo.constant is) = IsFeederOf.constant (plain_bit plain) is feeder
      by_link plain linked feeder (IsFedSo.nothing none) = IsFeederOf.nothing (plain_bit plain) none feeder

      through_pin : (q : PortBit) (other : ℕ) → own_port r o at ≡ Some q → passes_on_in (design_of r) (body_in r o) q ≡ true → IsThroughPin r o other
          → b.feeder ≡ ThroughFeeder o ((inst_at r o).first_bit + other) → IsFeederOf s spots (spot way o at one) b
      through_pin q other is passes pin feeder =
          IsFeederOf.through q source ((inst_at r o).first_bit + other) (port ∙ is) (passes_there o way here q ∙ passes) through number
          (feeder ∙ ap (λ (i : ℕ). ThroughFeeder i ((inst_at r o).first_bit + other)) (sym own.1))
        where
          c : ℕ
          c = pin.has.number

          cell : Cell
          cell = pin.has.cell

          is_cell : slice_get s.cells.cells c ≡ Some cell
          is_cell = ap (λ (cells : Cells). slice_get cells.cells c) is_of.1 ∙ pin.has.is_cell

          own : (one.bit.0.port ≡ Some q.port) × (q.inst ≡ o)
          own = port_of_one way o at one q is

          two : IsOne way o other
          two = bit_of_inst s n p made counts r whole is_of insts plans o other way here pin.within

          other_port : two.bit.0.port ≡ Some pin.pin
          other_port =
              let found = pin.of_pin o in
              (port_of_one way o other two found.0 found.1).0 ∙ ap Some found.2

          range : two.bit.0.range ≡ None
          range =
              let owns : range_in s (body_in r o) two.bit.0.name ≡ Some two.bit.0.range = (owned s (body_in r o) two.bit.0.name two.bit.0 two.own).0 in
              pin_scalar s c cell is_cell two.bit.0.name two.bit.0.range (subst (λ (body : Body). range_in s body two.bit.0.name ≡ Some two.bit.0.range) pin.has.is_body owns)

          first : two.bit.1 ≡ 0
          first = let within : two.bit.1 < 1 = subst (λ (x : Option (ℕ × ℕ)). two.bit.1 < width x) range two.within in omega arith

          source : Spot
          source = record { way = way; net = two.bit.0.name; place = 0 }

          number : slice_get spots ((inst_at r o).first_bit + other) ≡ Some source
          number = two.number spots all ∙ ap (λ (k : ℕ). Some (record { way = way; net = two.bit.0.name; place = k })) first

          through : IsThrough s (spot way o at one) source
          through =
              through_of s c cell is_cell way one.bit.0.name one.bit.1 q pin.pin two.bit.0.name (body_is s n p made counts r whole is_of insts o way here ∙ ap Some pin.has.is_body)
              (sym (ap (λ (body : Body). passes_on_in (parts_of s) body q) pin.has.is_body) ∙ sym (same_passing s r (sym is_of.1) heads (sym is_of.2) (body_in r o) q) ∙ passes)
              (number_of_one way o at one c pin.has.is_body q.port own.0) pin.has.is_through (number_of_one way o other two c pin.has.is_body pin.pin other_port)

      pub feeder_is : (linked feed : Feed) → b.feeder ≡ feeder_in o (own_place r o at) feed → IsFeed r o at linked feed → IsFedSo s spots (spot way o at one) linked
          → IsFeederOf s spots (spot way o at one) b
      feeder_is linked feed feeder (IsFeed.begins q is begins) links =
          IsFeederOf.driver q (port ∙ is) (begins_there o way here q ∙ begins) (feeder ∙ ap driver_in is)
      feeder_is linked feed feeder (IsFeed.passes q other is passes pin) links = through_pin q other is passes pin feeder
      feeder_is linked feed feeder (IsFeed.by_link plain) links = by_link plain linked feeder links

    -- BITS
    module _ (linked : List Feed) (links : AreFedSo s spots linked) (count : length linked ≡ length r.feeds.items)
        (fed : (k : ℕ) → k < length r.feeds.items → IsBitFeed r k (feed_of linked k) (feed_at r k)) where
      link_of : (k : ℕ) (x : Spot) → slice_get spots k ≡ Some x → IsFedSo s spots x (feed_of linked k)
      link_of k x there =
          let found = right_of (IsFedSo s spots) spots linked links k x there in
          subst (IsFedSo s spots x) (sym (get_or_from_slice_get linked k found.0 no_feed found.1)) found.2

      bit_is : (k : ℕ) (x : Spot) → slice_get spots k ≡ Some x → k < length r.feeds.items → IsBitAt s ways spots x (bit_at r k)
      bit_is k x there within = subst (λ (b : Bit). IsBitAt s ways spots x b) (sym is_bit) (subst (λ (y : Spot). IsBitAt s ways spots y bit) same_spot at_spot)
        where
          here : IsBitFeed r k (feed_of linked k) (feed_at r k)
          here = fed k within

          o : ℕ
          o = here.inst

          at : ℕ
          at = here.at

          found : (way : Way) × IsHere o way
          found = way_at s n p made counts r whole is_of insts o here.there

          way : Way
          way = found.0

          one : IsOne way o at
          one = bit_of_inst s n p made counts r whole is_of insts plans o at way found.1 here.within

          place : PlaceRow
          place = own_place r o at

          bit : Bit
          bit = record { name = joined (path_at r o) (name_at r (place_name place)); owner = o; port = port_in o place; feeder = feeder_in o place (feed_at r k) }

          owner : owner_at r k ≡ o
          owner =
              one_owner r whole.rows (owner_at r k) o k (owner_owns r whole.rows k within)
              (record { there = here.there; from = omega (arith, here.number); to = omega (arith, here.number, here.within) })

          is_place : place_of_bit r k ≡ place
          is_place =
              let behind : k - (inst_at r o).first_bit ≡ at = omega (arith, here.number) in
              ap (λ (i : ℕ). place_at r ((kind_of r (inst_at r i)).first + (k - (inst_at r i).first_bit))) owner
              ∙ ap (λ (j : ℕ). place_at r ((kind_of r (inst_at r o)).first + j)) behind

          is_bit : bit_at r k ≡ bit
          is_bit = made_bit r k o place owner is_place

          same_spot : spot way o at one ≡ x
          same_spot = same_Some _ x (sym (one.number spots all) ∙ ap (slice_get spots) here.number ∙ there)

          owns : (range_in s (body_in r o) one.bit.0.name ≡ Some one.bit.0.range)
              × (one.bit.0.port ≡ option_and_then (number_named (λ (q : Port). q.name) one.bit.0.name) (ports_in s (body_in r o)))
          owns = owned s (body_in r o) one.bit.0.name one.bit.0 one.own

          body : body_at s way ≡ Some (body_in r o)
          body = body_is s n p made counts r whole is_of insts o way found.1

          named : HasSpotName s (spot way o at one) bit.name
          named = (
            one.bit.0.range,
            ap (option_and_then (λ body. range_in s body one.bit.0.name)) body ∙ owns.0,
            ap (λ xs. joined xs (name_at r (place_name place))) (path_is s n p made counts r whole is_of insts o way found.1.there)
                ∙ ap (joined (path way)) (get_or_from_slice_get r.names (place_name place) _ [] one.place.named),
          )

          ported : port_in o place ≡ port_bit_of s (spot way o at one) o
          ported =
              one.place.ported o
              ∙ ap (option_map (λ (port : ℕ). record { inst = o; port = port; place = one.bit.1 }))
              (owns.1 ∙ sym (ap (λ (b : Option Body). option_and_then (number_named (λ (q : Port). q.name) one.bit.0.name) (option_and_then (ports_in s) b)) body))

          at_spot : IsBitAt s ways spots (spot way o at one) bit
          at_spot = record {
            name_there = named;
            owner_there = found.1.there;
            port_there = ported;
            fed_so = feeder_is o at way found.1 one bit refl (feed_of linked k) (feed_at r k) refl here.fed
                (subst (λ (y : Spot). IsFedSo s spots y (feed_of linked k)) (sym same_spot) (link_of k x there));
          }

      pub made_from : IsMadeFrom s (design_of r)
      made_from = record {
        same_cells = sym is_of.1;
        heads = heads;
        same_models = sym is_of.2;
        numbering = record { ways = ways; spots = spots; all_ways = insts.all_ways; all_spots = all };
        instances = instances_are;
        all_bits = zip_by_place (IsBitAt s ways spots) spots (design_of r).bits long (λ k x b there is.
            let within : k < length r.feeds.items = omega (arith, slice_get_within (design_of r).bits k b is, length_bits r) in
            subst (IsBitAt s ways spots x) (same_Some (bit_at r k) b (sym (bit_get r k within) ∙ is)) (bit_is k x there within));
      }
        where
          long : length spots ≡ length (design_of r).bits
          long = sym (AllZip-long (IsFedSo s spots) spots linked links) ∙ count ∙ sym (length_bits r)
