-- Where no fault comes before rings, a bit is fed by one bit. (A line of a model that names an input bit is also met by places
-- outside the range of the port that are spelled alike; but there is no bit there, and nothing feeds it.)
use Rattle.std.proofs.Common.{◌≡◌, ℕ, ◌<◌, ◌≤◌, ◌⊎◌, true, List, [], ◌∷◌, Option, Some, option_and_then, option_map, length, map, slice_get, inl, inr, refl, sym, ap, ◌∙◌, subst, arith}
use Rattle.std.proofs.lemmas.Bool.{cases_lt}
use Rattle.std.proofs.lemmas.Option.{same_Some, slice_get-map, slice_get_within}
use Rattle.pw_defs.specs.declared.chains.Partial.TheVariants.{Feed}
use Rattle.pw_defs.specs.declared.cells.Cell.{Cell}
use Rattle.pw_defs.specs.declared.cells.Dir.{Dir}
use Rattle.pw_defs.specs.declared.cells.Dir.TheVariants.{Input, Output}
use Rattle.pw_defs.specs.declared.cells.Pin.{Pin}
use Rattle.pw_defs.specs.declared.design.Body.TheVariants.{Module as ModuleBody, Cell as CellBody, Model as ModelBody}
use Rattle.pw_defs.specs.declared.model.Model.{Model}
use Rattle.pw_defs.specs.declared.netlist.Conn.{Conn}
use Rattle.pw_defs.specs.declared.netlist.Expr.{Expr}
use Rattle.pw_defs.specs.declared.netlist.Inst.{Inst}
use Rattle.pw_defs.specs.declared.netlist.Module.{Module}
use Rattle.pw_defs.specs.declared.netlist.Port.{Port}
use Rattle.list_defs.specs.Members.{IsIn, same_name}
use Rattle.list_defs.proofs.Few.{place_of_member}
use Rattle.list_defs.proofs.Members.{IsIn-slice_get}
use Rattle.list_defs.proofs.NameLemmas.{same_name-equal}
use Rattle.list_defs.proofs.Rising.{found_in}
use Rattle.design_defs.specs.Bits.{HasSpotName, IsSpot, Spot}
use Rattle.design_defs.specs.DesignFaults.{FaultKind, HasPortAt, IsFault, at_line, HasNoneBefore}
use Rattle.design_defs.specs.Designs.{IsLinked}
use Rattle.design_defs.specs.Hierarchy.{IsOfModule, Sources, Way, body_at, path}
use Rattle.design_defs.specs.Inputs.{AllDiffer, AreReadSources, declared_names}
use Rattle.design_defs.specs.Links.{End, Feeds, IsFed, IsLink, IsModelFeed, IsThrough, Link, links_in, port_of_conn, spot_of}
use Rattle.design_defs.specs.Models.{HasWellFormedFields}
use Rattle.design_defs.specs.Names.{joined}
use Rattle.design_defs.specs.Places.{misselected, signals}
use Rattle.design_defs.specs.Ports.{is_input, is_output, port_of_pin}
use Rattle.design_defs.specs.Ranges.{bit_name, width}
use Rattle.design_defs.proofs.BitOrders.{spot_of_parts}
use Rattle.design_laws.proofs.LinkCases.{IsInputSpot, IsLinkBy, link_by, no_child, port_there}
use Rattle.design_laws.proofs.ModelFeeds.{in_of_line, model_port, out_of_line, port_of_net, one_line}
use Rattle.design_laws.proofs.PortBitNames.{same_unless, one_port_bit}
use Rattle.design_laws.proofs.PortBits.{port_of_way}
use Rattle.design_defs.proofs.OneDesign.{no_early, one_source}
use Rattle.design_laws.proofs.NoTwoNames.{one_port}

-- INPUTS AND OUTPUTS. A bit of an output port of an instance.
record IsOutputSpot (s : Sources) (x : Spot) : Type 0 where
  number : ℕ
  port : Port
  has : HasPortAt s x.way number port
  name : x.net ≡ port.name
  output : port.dir ≡ Output

not_both_ways : (s : Sources) → HasNoneBefore FaultKind.wire_loop s → (x : Spot) → IsInputSpot s x → IsOutputSpot s x → ⊥
not_both_ways s early x i o =
    let numbers : i.number ≡ o.number = one_port s early x.way i.number o.number i.port o.port i.has o.has (sym i.name ∙ o.name) in
    let moved : HasPortAt s x.way o.number i.port = subst (λ n. HasPortAt s x.way n i.port) numbers i.has in
    let ports : i.port ≡ o.port = port_of_way s x.way x.way o.number i.port o.port refl moved o.has in
    let dirs : Input ≡ Output = sym i.input ∙ ap (λ (p : Port). p.dir) ports ∙ o.output in
    cc

-- WIDTHS. What is connected to a port is as wide as the port.
as_wide : (s : Sources) → HasNoneBefore FaultKind.wire_loop s → (way : Way) (n : ℕ) (m : Module) (i : Inst) (c : Conn) (e : Expr) (p : Port) → IsOfModule s way n m → IsIn i m.insts
    → IsIn c i.conns → c.expr ≡ Some e → port_of_conn s i c ≡ Some p → length (signals m e) ≡ width p.range
as_wide s early way n m i c e p is in_m in_i expr port = by (misselected m e) refl
  where
    by : (names : List (List ℕ)) → misselected m e ≡ names → length (signals m e) ≡ width p.range
    by [] none =
        same_unless (length (signals m e)) (width p.range) (λ differ.
        no_early s early (at_line FaultKind.wrong_width way n i.line c.port) (IsFault.width_of_conn way n m i c e p is in_m in_i expr port none differ) (omega arith))
    by (name ∷ names) some =
        absurd (no_early s early (at_line FaultKind.wrong_width way n i.line name)
        (IsFault.selected_in_conn way n m i c e name is in_m in_i expr (subst (IsIn name) (sym some) (inl refl))) (omega arith))

-- an input bit that a link feeds, within the width of its port
pub record IsFedInput (s : Sources) (x : Spot) : Type 0 where
  spot : IsInputSpot s x
  within : x.place < width spot.port.range

fed_child : (s : Sources) → HasNoneBefore FaultKind.wire_loop s → (way : Way) (n : ℕ) (m : Module) (l : Link) → IsOfModule s way n m → AllDiffer (declared_names m) → IsLinkBy s m l
    → (inst port : List ℕ) (place : ℕ) → l.fed ≡ End.child inst port place → IsFedInput s (record { way = inst ∷ way; net = port; place = place })
fed_child s early way n m l is differ (IsLinkBy.to_input i c e p at from in_m in_i expr port_is dir found same) inst port place fed =
    let ends : End.child i.name p.name at ≡ End.child inst port place = sym (ap (λ (x : Link). x.fed) same) ∙ fed in
    let insts : i.name ≡ inst = cc in
    let ports : p.name ≡ port = cc in
    let places : at ≡ place = cc in
    let there = port_there s way n m i c p is differ in_m port_is in
    let wide = as_wide s early way n m i c e p is in_m in_i expr port_is in
    let in_signals : at < length (signals m e) = slice_get_within (signals m e) at from found in
    record {
      spot = record { number = there.0; port = p; has = subst (λ name. HasPortAt s (name ∷ way) there.0 p) insts there.1; name = sym ports; input = dir };
      within = subst (λ k. k < width p.range) places (subst (λ k. at < k) wide in_signals);
    }
fed_child s early way n m l is differ (IsLinkBy.to_output i c e p at net to in_m in_i expr port_is dir found same) inst port place fed =
    let ends : End.inner net to ≡ End.child inst port place = sym (ap (λ (x : Link). x.fed) same) ∙ fed in
    cc
fed_child s early way n m l is differ (IsLinkBy.to_left a left right in_m found same) inst port place fed =
    absurd (no_child left inst port place (sym (ap (λ (x : Link). x.fed) same) ∙ fed))

-- a link feeds a net of a module, or an input
pub of_module : Sources → Spot → Type 0
of_module s x = (n : ℕ) × (body_at s x.way ≡ Some (ModuleBody n))

pub linked_at : (s : Sources) → AreReadSources s → HasNoneBefore FaultKind.wire_loop s → (x : Spot) (source : Option Spot) → IsLinked s x source → of_module s x ⊎ IsFedInput s x
unfolding of_module
linked_at s read early x source linked = by l.link.fed refl
  where
    way : Way
    way = linked.0

    l : IsLink s way linked.1 linked.2 x source
    l = linked.3

    by : (end : End) → l.link.fed ≡ end → ((n : ℕ) × (body_at s x.way ≡ Some (ModuleBody n))) ⊎ IsFedInput s x
    by (End.inner net place) is =
        let same : record { way = way; net = net; place = place } ≡ x = same_Some (record { way = way; net = net; place = place }) x (sym (ap (spot_of way) is) ∙ l.fed_there) in
        inl (l.module_number, ap (λ (z : Spot). body_at s z.way) (sym same) ∙ l.is_module.body)
    by (End.child inst port place) is =
        let same : record { way = inst ∷ way; net = port; place = place } ≡ x =
        same_Some (record { way = inst ∷ way; net = port; place = place }) x (sym (ap (spot_of way) is) ∙ l.fed_there) in
        inr (subst (IsFedInput s) same (fed_child s early way l.module_number l.of_module l.link l.is_module
        (read.each_module l.of_module (IsIn-slice_get s.modules l.module_number l.of_module l.is_module.is_module)).own_names
        (link_by s l.of_module l.link (IsIn-slice_get (links_in s l.of_module) linked.1 l.link l.there)) inst port place is))
    by End.constant is = let none = sym (ap (spot_of way) is) ∙ l.fed_there in cc

-- the output of an interface cell is one
through_output : (s : Sources) (x y : Spot) → IsThrough s x y → IsOutputSpot s x
through_output s x y is =
    let found = found_in (λ (p : Pin). same_name x.net p.name) is.cell.pins is.out_pin is.is_out_pin in
    let at = place_of_member is.out_pin is.cell.pins found.0 in
    record {
      number = at.0;
      port = port_of_pin is.out_pin;
      has = (
        CellBody is.number,
        map port_of_pin is.cell.pins,
        is.body,
        ap (option_map (λ (c : Cell). map port_of_pin c.pins)) is.is_cell,
        slice_get-map port_of_pin is.cell.pins at.0 ∙ ap (option_map port_of_pin) at.1,
      );
      name = same_name-equal x.net is.out_pin.name found.1;
      output = is.is_out;
    }

pub model_of : (s : Sources) → AreReadSources s → (x y : Spot) (is : IsModelFeed s x y) → HasWellFormedFields is.model
model_of s read x y is = read.each_model is.model (IsIn-slice_get s.models is.number is.model is.is_model)

dir_out : (d : Dir) → is_output (Some d) ≡ true → d ≡ Output
dir_out Input e = cc
dir_out Output e = refl

dir_in_out : (d : Dir) → is_input (Some d) ≡ true → is_output (Some d) ≡ true → ⊥
dir_in_out Input e f = cc
dir_in_out Output e f = cc

-- so is what a model says to be fed
model_output : (s : Sources) → AreReadSources s → HasNoneBefore FaultKind.wire_loop s → (x y : Spot) → IsSpot s x → IsModelFeed s x y → IsOutputSpot s x
model_output s read early x y there is =
    let own = port_of_net s x is.out_range is.number is.model is.body is.is_model is.is_out_range in
    let line = out_of_line is.model (model_of s read x y is) (bit_name x.net is.out_range x.place) (bit_name y.net is.in_range y.place) is.elements is.says in
    let has = model_port s x.way is.number is.model is.body is.is_model line.at line.port line.is_port in
    let ranges : there.0 ≡ own.1.range = same_Some there.0 is.out_range (sym there.1 ∙ is.is_out_range) ∙ own.4 in
    let within : x.place < width own.1.range = subst (λ r. x.place < width r) ranges there.2 in
    let names : bit_name own.1.name own.1.range x.place ≡ bit_name line.port.name line.port.range line.place =
    ap (λ name. bit_name name own.1.range x.place) (sym own.3) ∙ ap (λ r. bit_name x.net r x.place) (sym own.4) ∙ line.named in
    let same = one_port_bit s early x.way own.0 line.at own.1 line.port x.place line.place own.2 has within line.within names in
    let ports : own.1 ≡ line.port = port_of_way s x.way x.way line.at own.1 line.port refl (subst (λ k. HasPortAt s x.way k own.1) same.0 own.2) has in
    record {
      number = own.0;
      port = own.1;
      has = own.2;
      name = own.3;
      output = ap (λ (p : Port). p.dir) ports ∙ dir_out line.port.dir line.passes;
    }

-- WHAT FEEDS a bit, without the line that says so.
pub data IsFedFrom (s : Sources) (x y : Spot) : Type 0 where
  by_link : IsLinked s x (Some y) → IsFedFrom s x y
  by_through : IsThrough s x y → IsFedFrom s x y
  by_model : IsModelFeed s x y → IsFedFrom s x y

pub fed_from : (s : Sources) (x y : Spot) → Feeds s x y → IsFedFrom s x y
fed_from s x y feeds = by feeds.2
  where
    by : IsFed s x y feeds.0 feeds.1 → IsFedFrom s x y
    by (IsFed.link number is) = IsFedFrom.by_link (feeds.0, number, feeds.1, is)
    by (IsFed.through name inside line is) = IsFedFrom.by_through is
    by (IsFed.feed name inside line is) = IsFedFrom.by_model is

-- a place that is spelled as a bit, where there is none
pub record IsGhost (s : Sources) (y z : Spot) : Type 0 where
  pub no_bit : IsSpot s y → ⊥
  pub dead : (w : Spot) → Feeds s y w → ⊥
  pub named : (name : List ℕ) → HasSpotName s y name → HasSpotName s z name

not_cell_and_module : (s : Sources) (x : Spot) (c : ℕ) → body_at s x.way ≡ Some (CellBody c) → of_module s x → ⊥
unfolding of_module
not_cell_and_module s x c is m = let both : Some (CellBody c) ≡ Some (ModuleBody m.0) = sym is ∙ m.1 in cc

not_model_and_module : (s : Sources) (x : Spot) (c : ℕ) → body_at s x.way ≡ Some (ModelBody c) → of_module s x → ⊥
unfolding of_module
not_model_and_module s x c is m = let both : Some (ModelBody c) ≡ Some (ModuleBody m.0) = sym is ∙ m.1 in cc

link_or_through : (s : Sources) → AreReadSources s → HasNoneBefore FaultKind.wire_loop s → (x y : Spot) (o : Option Spot) → IsLinked s x o → IsThrough s x y → ⊥
link_or_through s read early x y o link is =
    elim (linked_at s read early x o link) [
      | inl m ↦ not_cell_and_module s x is.number is.body m
      | inr input ↦ not_both_ways s early x input.spot (through_output s x y is)
    ]

link_or_model : (s : Sources) → AreReadSources s → HasNoneBefore FaultKind.wire_loop s → (x y : Spot) → IsSpot s x → (o : Option Spot) → IsLinked s x o → IsModelFeed s x y → ⊥
link_or_model s read early x y there o link is =
    elim (linked_at s read early x o link) [
      | inl m ↦ not_model_and_module s x is.number is.body m
      | inr input ↦ not_both_ways s early x input.spot (model_output s read early x y there is)
    ]

through_or_model : (s : Sources) (x y z : Spot) → IsThrough s x y → IsModelFeed s x z → ⊥
through_or_model s x y z is of = let both : Some (CellBody is.number) ≡ Some (ModelBody of.number) = sym is.body ∙ of.body in cc

one_through : (s : Sources) (x y z : Spot) → IsThrough s x y → IsThrough s x z → y ≡ z
one_through s x y z p q =
    let bodies : Some (CellBody p.number) ≡ Some (CellBody q.number) = sym p.body ∙ q.body in
    let numbers : p.number ≡ q.number = cc in
    let cells : p.cell ≡ q.cell = same_Some p.cell q.cell (sym p.is_cell ∙ ap (slice_get s.cells.cells) numbers ∙ q.is_cell) in
    let pins : p.through_pin ≡ q.through_pin =
    same_Some p.through_pin q.through_pin (sym p.is_through_pin ∙ ap (λ (c : Cell). option_and_then (slice_get c.pins) c.through) cells ∙ q.is_through_pin) in
    let spot : Pin → Spot = λ pin. record { way = x.way; net = pin.name; place = 0 } in
    p.is_source ∙ ap spot pins ∙ sym q.is_source

-- the input of a model that a line names: the bit itself, or a place that is spelled alike
pub one_model : (s : Sources) → AreReadSources s → HasNoneBefore FaultKind.wire_loop s → (x z y : Spot) → IsSpot s z → IsModelFeed s x z → IsModelFeed s x y → (y ≡ z) ⊎ IsGhost s y z
one_model s read early x z y there p q = by (cases_lt y.place (width q.in_range))
  where
    bodies : Some (ModelBody p.number) ≡ Some (ModelBody q.number)
    bodies = sym p.body ∙ q.body

    numbers : p.number ≡ q.number
    numbers = by_body (same_Some (ModelBody p.number) (ModelBody q.number) bodies)
      where
        by_body : ModelBody p.number ≡ ModelBody q.number → p.number ≡ q.number
        by_body e = cc

    models : q.model ≡ p.model
    models = same_Some q.model p.model (sym q.is_model ∙ ap (slice_get s.models) (sym numbers) ∙ p.is_model)

    outs : q.out_range ≡ p.out_range
    outs = same_Some q.out_range p.out_range (sym q.is_out_range ∙ p.is_out_range)

    well : HasWellFormedFields p.model
    well = model_of s read x z p

    out : List ℕ
    out = bit_name x.net p.out_range x.place

    says : IsIn (Feed out (bit_name y.net q.in_range y.place) q.elements) p.model.partials
    says =
        subst (λ r. IsIn (Feed (bit_name x.net r x.place) (bit_name y.net q.in_range y.place) q.elements) p.model.partials) outs
        (subst (λ (m : Model). IsIn (Feed (bit_name x.net q.out_range x.place) (bit_name y.net q.in_range y.place) q.elements) m.partials) models q.says)

    sources : bit_name z.net p.in_range z.place ≡ bit_name y.net q.in_range y.place
    sources =
        one_line s early x.way p.number p.model p.body p.is_model well out (bit_name z.net p.in_range z.place) (bit_name y.net q.in_range y.place)
        p.elements q.elements p.says says

    ways : y.way ≡ z.way
    ways = q.one_instance ∙ sym p.one_instance

    model_at : body_at s z.way ≡ Some (ModelBody p.number)
    model_at = ap (body_at s) p.one_instance ∙ p.body

    model_at_y : body_at s y.way ≡ Some (ModelBody p.number)
    model_at_y = ap (body_at s) ways ∙ model_at

    z_port : (k : ℕ) × (port : Port) × HasPortAt s z.way k port × (z.net ≡ port.name) × (p.in_range ≡ port.range)
    z_port = port_of_net s z p.in_range p.number p.model model_at p.is_model p.is_in_range

    y_port : (k : ℕ) × (port : Port) × HasPortAt s y.way k port × (y.net ≡ port.name) × (q.in_range ≡ port.range)
    y_port = port_of_net s y q.in_range p.number p.model model_at_y p.is_model q.is_in_range

    z_within : z.place < width z_port.1.range
    z_within = subst (λ r. z.place < width r) (same_Some there.0 p.in_range (sym there.1 ∙ p.is_in_range) ∙ z_port.4) there.2

    z_name : bit_name z_port.1.name z_port.1.range z.place ≡ bit_name z.net p.in_range z.place
    z_name = ap (λ name. bit_name name z_port.1.range z.place) (sym z_port.3) ∙ ap (λ r. bit_name z.net r z.place) (sym z_port.4)

    same_bit : y.place < width q.in_range → y ≡ z
    same_bit within =
        let y_within : y.place < width y_port.1.range = subst (λ r. y.place < width r) y_port.4 within in
        let y_name : bit_name y_port.1.name y_port.1.range y.place ≡ bit_name y.net q.in_range y.place =
        ap (λ name. bit_name name y_port.1.range y.place) (sym y_port.3) ∙ ap (λ r. bit_name y.net r y.place) (sym y_port.4) in
        let has : HasPortAt s z.way y_port.0 y_port.1 = subst (λ w. HasPortAt s w y_port.0 y_port.1) ways y_port.2 in
        let same = one_port_bit s early z.way y_port.0 z_port.0 y_port.1 z_port.1 y.place z.place has z_port.2 y_within z_within
        (y_name ∙ sym sources ∙ sym z_name) in
        let ports : y_port.1 ≡ z_port.1 =
        port_of_way s z.way z.way z_port.0 y_port.1 z_port.1 refl (subst (λ k. HasPortAt s z.way k y_port.1) same.0 has) z_port.2 in
        spot_of_parts y z ways (y_port.3 ∙ ap (λ (port : Port). port.name) ports ∙ sym z_port.3) same.1

    ghost : width q.in_range ≤ y.place → IsGhost s y z
    ghost past = record { no_bit = no_bit; dead = dead; named = named }
      where
        no_bit : IsSpot s y → ⊥
        no_bit is =
            let within : y.place < width q.in_range = subst (λ r. y.place < width r) (same_Some is.0 q.in_range (sym is.1 ∙ q.is_in_range)) is.2 in
            omega (arith, past, within)

        named : (name : List ℕ) → HasSpotName s y name → HasSpotName s z name
        named name is = (
          p.in_range,
          p.is_in_range,
          is.2 ∙ ap (λ r. joined (path y.way) (bit_name y.net r y.place)) (same_Some is.0 q.in_range (sym is.1 ∙ q.is_in_range))
              ∙ ap (joined (path y.way)) (sym sources) ∙ ap (λ w. joined (path w) (bit_name z.net p.in_range z.place)) ways,
        )

        linked : (w : Spot) → IsLinked s y (Some w) → ⊥
        linked w link =
            elim (linked_at s read early y (Some w) link) [
              | inl m ↦ not_model_and_module s y p.number model_at_y m
              | inr input ↦
                  (let one : input.spot.number ≡ y_port.0 =
                  one_port s early y.way input.spot.number y_port.0 input.spot.port y_port.1 input.spot.has y_port.2 (sym input.spot.name ∙ y_port.3) in
                  let port : input.spot.port ≡ y_port.1 =
                  port_of_way s y.way y.way y_port.0 input.spot.port y_port.1 refl (subst (λ k. HasPortAt s y.way k input.spot.port) one input.spot.has) y_port.2 in
                  let within : y.place < width q.in_range =
                  subst (λ r. y.place < width r) (ap (λ (r : Port). r.range) port ∙ sym y_port.4) input.within in
                  omega (arith, past, within))
            ]

        modelled : (w : Spot) → IsModelFeed s y w → ⊥
        modelled w feed =
            let other : Some (ModelBody p.number) ≡ Some (ModelBody feed.number) = sym model_at_y ∙ feed.body in
            let same_model : slice_get s.models feed.number ≡ Some p.model = subst (λ k. slice_get s.models k ≡ Some p.model) (number_of p.number feed.number other) p.is_model in
            let model : feed.model ≡ p.model = same_Some feed.model p.model (sym feed.is_model ∙ same_model) in
            let range : feed.out_range ≡ q.in_range = same_Some feed.out_range q.in_range (sym feed.is_out_range ∙ q.is_in_range) in
            let line : IsIn (Feed (bit_name y.net feed.out_range y.place) (bit_name w.net feed.in_range w.place) feed.elements) p.model.partials =
            subst (λ (m : Model). IsIn (Feed (bit_name y.net feed.out_range y.place) (bit_name w.net feed.in_range w.place) feed.elements) m.partials) model feed.says in
            let output = out_of_line p.model well (bit_name y.net feed.out_range y.place) (bit_name w.net feed.in_range w.place) feed.elements line in
            let input = in_of_line p.model well out (bit_name y.net q.in_range y.place) q.elements says in
            let names : bit_name output.port.name output.port.range output.place ≡ bit_name input.port.name input.port.range input.place =
            sym output.named ∙ ap (λ r. bit_name y.net r y.place) range ∙ input.named in
            let one = one_port_bit s early y.way output.at input.at output.port input.port output.place input.place
            (model_port s y.way p.number p.model model_at_y p.is_model output.at output.port output.is_port)
            (model_port s y.way p.number p.model model_at_y p.is_model input.at input.port input.is_port) output.within input.within names in
            let ports : output.port ≡ input.port =
            same_Some output.port input.port (sym output.is_port ∙ ap (slice_get p.model.ports) one.0 ∙ input.is_port) in
            dir_in_out input.port.dir input.passes (ap (λ (r : Port). is_output (Some r.dir)) (sym ports) ∙ output.passes)
          where
            number_of : (n m : ℕ) → Some (ModelBody n) ≡ Some (ModelBody m) → n ≡ m
            number_of n m e = cc

        dead_by : (w : Spot) → IsFedFrom s y w → ⊥
        dead_by w (IsFedFrom.by_link link) = linked w link
        dead_by w (IsFedFrom.by_through is) = through_model_at is
          where
            through_model_at : IsThrough s y w → ⊥
            through_model_at of = let both : Some (CellBody of.number) ≡ Some (ModelBody p.number) = sym of.body ∙ model_at_y in cc
        dead_by w (IsFedFrom.by_model feed) = modelled w feed

        dead : (w : Spot) → Feeds s y w → ⊥
        dead w feeds = dead_by w (fed_from s y w feeds)

    by : (y.place < width q.in_range) ⊎ (width q.in_range ≤ y.place) → (y ≡ z) ⊎ IsGhost s y z
    by (inl within) = inl (same_bit within)
    by (inr past) = inr (ghost past)

one_from : (s : Sources) → AreReadSources s → HasNoneBefore FaultKind.wire_loop s → (x z y : Spot) → IsSpot s x → IsSpot s z → IsFedFrom s x z → IsFedFrom s x y → (y ≡ z) ⊎ IsGhost s y z
one_from s read early x z y at there (IsFedFrom.by_link p) (IsFedFrom.by_link q) = inl (same_Some y z (one_source s early x at (Some y) (Some z) q p))
one_from s read early x z y at there (IsFedFrom.by_link p) (IsFedFrom.by_through q) = absurd (link_or_through s read early x y (Some z) p q)
one_from s read early x z y at there (IsFedFrom.by_link p) (IsFedFrom.by_model q) = absurd (link_or_model s read early x y at (Some z) p q)
one_from s read early x z y at there (IsFedFrom.by_through p) (IsFedFrom.by_link q) = absurd (link_or_through s read early x z (Some y) q p)
one_from s read early x z y at there (IsFedFrom.by_through p) (IsFedFrom.by_through q) = inl (one_through s x y z q p)
one_from s read early x z y at there (IsFedFrom.by_through p) (IsFedFrom.by_model q) = absurd (through_or_model s x z y p q)
one_from s read early x z y at there (IsFedFrom.by_model p) (IsFedFrom.by_link q) = absurd (link_or_model s read early x z at (Some y) q p)
one_from s read early x z y at there (IsFedFrom.by_model p) (IsFedFrom.by_through q) = absurd (through_or_model s x y z q p)
one_from s read early x z y at there (IsFedFrom.by_model p) (IsFedFrom.by_model q) = one_model s read early x z y there p q

-- What feeds a bit is one bit, or a place that is spelled as this.
pub one_feed : (s : Sources) → AreReadSources s → HasNoneBefore FaultKind.wire_loop s → (x z y : Spot) → IsSpot s x → IsSpot s z → Feeds s x z → Feeds s x y → (y ≡ z) ⊎ IsGhost s y z
one_feed s read early x z y at there p q = one_from s read early x z y at there (fed_from s x z p) (fed_from s x y q)
