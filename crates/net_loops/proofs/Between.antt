-- What is fed and feeds something is a bit that there is.
use Rattle.std.proofs.Common.{◌≡◌, ℕ, ◌⊎◌, inl, inr, Bool, true, false, List, [], ◌∷◌, ◌++◌, Option, None, Some, map, option_map, option_and_then, slice_get, refl, sym, ap, ◌∙◌, subst, arith}
use Rattle.std.specs.List.{slice_index_or}
use Rattle.std.specs.Option.{IsSomeAnd, MatchOption}
use Rattle.std.proofs.lemmas.Slice.Zip.{AllZip-left}
use Rattle.pw_defs.specs.declared.cells.Cell.{Cell}
use Rattle.pw_defs.specs.declared.cells.Pin.{Pin}
use Rattle.pw_defs.specs.declared.chains.Partial.TheVariants.{Feed}
use Rattle.pw_defs.specs.declared.model.Model.{Model}
use Rattle.pw_defs.specs.declared.netlist.Inst.{Inst}
use Rattle.pw_defs.specs.declared.netlist.Net.{Net}
use Rattle.pw_defs.specs.declared.netlist.Port.{Port}
use Rattle.list_defs.specs.Members.{IsIn, same_name}
use Rattle.list_defs.specs.Orders.{AreAllRising}
use Rattle.list_defs.proofs.Few.{place_of_member}
use Rattle.list_defs.proofs.Members.{IsIn-slice_get}
use Rattle.list_defs.proofs.NameLemmas.{same_name-equal, same_name-itself, differ_behind}
use Rattle.design_defs.specs.Bits.{IsSpot, Spot, port_named, range_in, range_of, spot_cmp}
use Rattle.design_defs.specs.DesignFaults.{FaultKind, HasNoneBefore}
use Rattle.design_defs.specs.Designs.{IsLinked}
use Rattle.design_defs.specs.Hierarchy.{Sources}
use Rattle.design_defs.specs.Inputs.{AreReadSources}
use Rattle.design_defs.specs.Links.{Feeds, IsLink, IsModelFeed, IsThrough, links_in, spot_of}
use Rattle.design_defs.specs.Models.{HasWellFormedFields}
use Rattle.design_defs.specs.Ports.{is_input, port_of_pin}
use Rattle.design_defs.specs.Ranges.{bit_name}
use Rattle.design_laws.proofs.FirstFound.{own_place}
use Rattle.design_laws.proofs.ModelFeeds.{IsBitAmong, in_of_line, model_port}
use Rattle.net_bits.specs.Placed.{ArePlaced}
use Rattle.net_bits.specs.declared.placed.Placed.{Placed}
use Rattle.net_feeds.specs.LinkNumbers.{AreAllLocal, HasSpotAt, end_number}
use Rattle.net_feeds.proofs.LinkLemmas.{end_there}
use Rattle.net_hierarchy.specs.Graph.{AreInstsApart}
use Rattle.net_links.specs.LocalLinks.{IsLocalLink, LocalLink, locals}
use Rattle.net_links.specs.declared.rows.LinkRow.{LinkRow}
use Rattle.design_laws.proofs.NoTwoNames.{one_port}
use Rattle.design_laws.proofs.OneFeed.{IsFedFrom, fed_from, model_of, one_model}

-- instances of a module that was read have names of their own
pub insts_apart : (s : Sources) → AreReadSources s → AreInstsApart s
insts_apart s read n m is =
    differ_behind (map (λ (p : Port). p.name) m.ports ++ map (λ (w : Net). w.name) m.nets) (map (λ (i : Inst). i.name) m.insts)
    (read.each_module m (IsIn-slice_get s.modules n m is)).own_names

-- a pin is among the ports of its cell under its name
pin_there : (name : List ℕ) (pins : List Pin) → (pin : Pin) → IsIn pin pins → name ≡ pin.name → (port : Port) × (port_named name (map port_of_pin pins) ≡ Some port) × (port.range ≡ None)
pin_there name [] pin there same = absurd there
pin_there name (first ∷ pins) pin there same = by (λ later. pin_there name pins pin later same) (same_name name first.name) refl there
  where
    by : (IsIn pin pins → (port : Port) × (port_named name (map port_of_pin pins) ≡ Some port) × (port.range ≡ None)) → (yes : Bool)
        → same_name name first.name ≡ yes → (pin ≡ first) ⊎ IsIn pin pins → (port : Port) × (port_named name (map port_of_pin (first ∷ pins)) ≡ Some port) × (port.range ≡ None)
    by rest true e at = (port_of_pin first, rw e refl, refl)
    by rest false e (inl is) = let never : true ≡ false = sym (same_name-itself name) ∙ ap (same_name name) (same ∙ ap (λ (q : Pin). q.name) is) ∙ e in cc
    by rest false e (inr later) = let found = rest later in (found.0, rw e found.1, found.2)

pub through_spot : (s : Sources) (x y : Spot) → IsThrough s x y → IsSpot s y
through_spot s x y t = subst (IsSpot s) (sym t.is_source) (None, ranged, omega arith)
  where
    place : (o : Option ℕ) → option_and_then (slice_get t.cell.pins) o ≡ Some t.through_pin → IsIn t.through_pin t.cell.pins
    place None e = cc
    place (Some k) e = IsIn-slice_get t.cell.pins k t.through_pin e

    port : (port : Port) × (port_named t.through_pin.name (map port_of_pin t.cell.pins) ≡ Some port) × (port.range ≡ None)
    port = pin_there t.through_pin.name t.cell.pins t.through_pin (place t.cell.through t.is_through_pin) refl

    ranged : range_of s (record { way = x.way; net = t.through_pin.name; place = 0 }) ≡ Some None
    ranged =
        ap (option_and_then (λ b. range_in s b t.through_pin.name)) t.body
        ∙ ap (λ o. option_map (λ (q : Port). q.range) (option_and_then (port_named t.through_pin.name) (option_map (λ (z : Cell). map port_of_pin z.pins) o))) t.is_cell
        ∙ ap (option_map (λ (q : Port). q.range)) port.1 ∙ ap Some port.2

module _ (s : Sources) (read : AreReadSources s) (early : HasNoneBefore FaultKind.wire_loop s) where
  -- the input bit that a model says to feed an output
  pub record HasInput (x y : Spot) : Type 0 where
    pub bit : Spot
    pub is_bit : IsSpot s bit
    pub feeds : IsModelFeed s x bit

  pub input_of : (x y : Spot) → IsModelFeed s x y → HasInput x y
  input_of x y f = record {
    bit = bit;
    is_bit = (input.port.range, ranged, input.within);
    feeds = record {
      number = f.number;
      model = f.model;
      body = f.body;
      is_model = f.is_model;
      one_instance = refl;
      out_range = f.out_range;
      in_range = input.port.range;
      is_out_range = f.is_out_range;
      is_in_range = ranged;
      elements = f.elements;
      says = subst (λ name. IsIn (Feed (bit_name x.net f.out_range x.place) name f.elements) f.model.partials) input.named f.says;
    };
  }
    where
      well : HasWellFormedFields f.model
      well = model_of s read x y f

      input : IsBitAmong (λ (q : Port). is_input (Some q.dir)) f.model.ports (bit_name y.net f.in_range y.place)
      input = in_of_line f.model well (bit_name x.net f.out_range x.place) (bit_name y.net f.in_range y.place) f.elements f.says

      bit : Spot
      bit = record { way = x.way; net = input.port.name; place = input.place }

      named : port_named input.port.name f.model.ports ≡ Some input.port
      named =
          (own_place (λ (q : Port). same_name input.port.name q.name) f.model.ports input.at input.port input.is_port (same_name-itself input.port.name)
          (λ l q at same. one_port s early x.way l input.at q input.port (model_port s x.way f.number f.model f.body f.is_model l q at)
          (model_port s x.way f.number f.model f.body f.is_model input.at input.port input.is_port) (sym (same_name-equal input.port.name q.name same)))).1

      ranged : range_of s bit ≡ Some input.port.range
      ranged =
          ap (option_and_then (λ b. range_in s b input.port.name)) f.body
          ∙ ap (λ o. option_map (λ (q : Port). q.range) (option_and_then (port_named input.port.name) (option_map (λ (z : Model). z.ports) o))) f.is_model
          ∙ ap (option_map (λ (q : Port). q.range)) named

  module _ (p : Placed) (there : ArePlaced s p) (spots : List Spot) (all : AreAllRising spot_cmp (IsSpot s) spots) (links : List (List LinkRow)) (local : AreAllLocal s links) where
    -- what a link feeds a bit from is a bit that there is
    pub link_spot : (x y : Spot) → IsLinked s x (Some y) → IsSpot s y
    link_spot x y linked = numbered (end_number p.instances.now inst.0 at.0.source) (subst (HasSpotAt spots (end_number p.instances.now inst.0 at.0.source)) l.source_there ends)
      where
        l : IsLink s linked.0 linked.1 linked.2 x (Some y)
        l = linked.3

        inst : (n : ℕ) × (slice_get there.instances.ways n ≡ Some linked.0)
        inst = place_of_member linked.0 there.instances.ways (there.instances.all_ways.all linked.0 (_, l.is_module.body))

        zipped : (o : Option LocalLink) → IsSomeAnd o (IsLocalLink s l.module_number l.of_module l.link) → (a : LocalLink) × IsLocalLink s l.module_number l.of_module l.link a
        zipped None is = absurd is
        zipped (Some a) is = (a, is)

        at : (a : LocalLink) × IsLocalLink s l.module_number l.of_module l.link a
        at =
            zipped (slice_get (locals (slice_index_or links l.module_number [])) linked.1)
            (subst (λ o. MatchOption o (Unit {0}) (λ z. IsSomeAnd (slice_get (locals (slice_index_or links l.module_number [])) linked.1) (IsLocalLink s l.module_number l.of_module z)))
            l.there (AllZip-left (IsLocalLink s l.module_number l.of_module) (links_in s l.of_module) (locals (slice_index_or links l.module_number []))
            (local linked.0 l.module_number l.of_module l.is_module) linked.1))

        ends : HasSpotAt spots (end_number p.instances.now inst.0 at.0.source) (spot_of linked.0 l.link.source)
        ends = end_there s p there spots all (insts_apart s read) inst.0 linked.0 inst.1 l.module_number l.of_module l.is_module l.link.source at.0.source at.1.source

        numbered : (o : Option ℕ) → HasSpotAt spots o (Some y) → IsSpot s y
        numbered None has = absurd has
        numbered (Some k) has = all.each y (IsIn-slice_get spots k y has)

    pub between : (x y z : Spot) → Feeds s x y → Feeds s y z → IsSpot s y
    between x y z first second = by (fed_from s x y first)
      where
        by : IsFedFrom s x y → IsSpot s y
        by (IsFedFrom.by_link link) = link_spot x y link
        by (IsFedFrom.by_through t) = through_spot s x y t
        by (IsFedFrom.by_model f) =
            let input = input_of x y f in
            elim (one_model s read early x input.bit y input.is_bit input.feeds f) [ inl same ↦ subst (IsSpot s) (sym same) input.is_bit | inr ghost ↦ absurd (ghost.dead z second) ]
