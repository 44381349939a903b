-- In a made design no list of feeders comes back to where it began.
use Rattle.std.proofs.Common.{◌≡◌, ◌≢◌, ℕ, ◌⊎◌, List, [], ◌∷◌, Some, slice_get, inl, inr, refl, sym, ap, ◌∙◌, subst}
use Rattle.std.specs.declared.cmp.Ordering.TheVariants.{Less}
use Rattle.std.proofs.lemmas.Cmp.{nat_list_cmp_total}
use Rattle.std.proofs.lemmas.Option.{same_Some}
use Rattle.pw_defs.specs.declared.chains.Element.{Element}
use Rattle.pw_defs.specs.declared.chains.Partial.TheVariants.{Feed}
use Rattle.pw_defs.specs.declared.design.Bit.{Bit}
use Rattle.pw_defs.specs.declared.design.Body.TheVariants.{Cell as CellBody, Model as ModelBody}
use Rattle.pw_defs.specs.declared.design.Design.{Design}
use Rattle.pw_defs.specs.declared.design.Feeder.TheVariants.{Driver}
use Rattle.pw_defs.specs.declared.design.PortBit.{PortBit}
use Rattle.pw_defs.specs.declared.model.Model.{Model}
use Rattle.pw_defs.specs.declared.netlist.Module.{Module}
use Rattle.pw_defs.specs.declared.netlist.Port.{Port}
use Rattle.list_defs.specs.Members.{IsIn}
use Rattle.list_defs.specs.Orders.{name_cmp}
use Rattle.list_defs.specs.Rings.{HasNoRing, IsReached}
use Rattle.design_defs.specs.Bits.{HasSpotName, Spot, range_of}
use Rattle.design_defs.specs.DesignFaults.{FaultKind, IsFault, IsFaultless, at_line}
use Rattle.design_defs.specs.Designs.{IsBitAt, IsFeederOf, IsMadeFrom}
use Rattle.design_defs.specs.Hierarchy.{IsOfModule, Sources, Way, body_at, path}
use Rattle.design_defs.specs.Inputs.{AreReadSources}
use Rattle.design_defs.specs.Links.{Feeds, IsFed, IsModelFeed, IsThrough}
use Rattle.design_defs.specs.Names.{joined}
use Rattle.design_defs.specs.Ranges.{bit_name}
use Rattle.design_defs.specs.Sound.{IsFedBy}
use Rattle.design_defs.specs.Walks.{next_of}
use Rattle.design_defs.proofs.WalkEnds.{feeder_of_bit}
use Rattle.design_laws.proofs.Lines.{cell_inside, inst_line, line_of, model_inside}
use Rattle.design_laws.proofs.ModelFeeds.{model_port}
use Rattle.design_laws.proofs.Numbered.{IsSpotOf, IsWayOf, bit_of_spot, body_of_way, is_spot, one_bit_number, one_spot, one_way, spot_of_bit}
use Rattle.design_laws.proofs.OneFeed.{one_feed}
use Rattle.design_laws.proofs.PortBits.{port_of_way}
use Rattle.design_laws.proofs.PortSpots.{port_of_bit}
use Rattle.design_laws.proofs.RingLemmas.{first_step, no_descent, on_ring}
use Rattle.design_defs.proofs.OneDesign.{early_of}

-- STEPS. One bit is fed by another, by their numbers.
Step : (s : Sources) (d : Design) → IsMadeFrom s d → ℕ → ℕ → Type 0
Step s d made n m = (x : Spot) × (y : Spot) × IsSpotOf made n x × IsSpotOf made m y × Feeds s x y

-- a cell or a model is fed by the line that makes it
through_feeds : (s : Sources) (x y : Spot) → IsThrough s x y → Feeds s x y
through_feeds s x y is = by x.way refl
  where
    by : (w : Way) → x.way ≡ w → Feeds s x y
    by [] top = cell_inside s is.number (sym (ap (body_at s) top) ∙ is.body)
    by (name ∷ outer) inside =
        let line = line_of s name outer (CellBody is.number) (sym (ap (body_at s) inside) ∙ is.body) in
        (outer, line.inst.line, IsFed.through name inside (inst_line s name outer (CellBody is.number) line) is)

model_feeds : (s : Sources) (x y : Spot) → IsModelFeed s x y → Feeds s x y
model_feeds s x y is = by x.way refl
  where
    by : (w : Way) → x.way ≡ w → Feeds s x y
    by [] top = model_inside s is.number (sym (ap (body_at s) top) ∙ is.body)
    by (name ∷ outer) inside =
        let line = line_of s name outer (ModelBody is.number) (sym (ap (body_at s) inside) ∙ is.body) in
        (outer, line.inst.line, IsFed.feed name inside (inst_line s name outer (ModelBody is.number) line) is)

-- the bit that a feeder leads to
step_of_feeder : (s : Sources) (d : Design) (made : IsMadeFrom s d) (n next : ℕ) (x : Spot) (b : Bit) → IsSpotOf made n x
    → IsFeederOf s made.numbering.spots x b → next_of b.feeder ≡ Some next → Step s d made n next
unfolding Step
step_of_feeder s d made n next x b at (IsFeederOf.driver p port signal f) e = let none = ap next_of (sym f) ∙ e in cc
step_of_feeder s d made n next x b at (IsFeederOf.through p source m port passes pin there f) e =
    let same : m ≡ next = same_Some m next (ap next_of (sym f) ∙ e) in
    (x, source, at, subst (λ k. IsSpotOf made k source) same there, through_feeds s x source pin)
step_of_feeder s d made n next x b at (IsFeederOf.bit source m plain link there f) e =
    let same : m ≡ next = same_Some m next (ap next_of (sym f) ∙ e) in
    (x, source, at, subst (λ k. IsSpotOf made k source) same there, (link.0, link.2, IsFed.link link.1 link.3))
step_of_feeder s d made n next x b at (IsFeederOf.constant plain link f) e = let none = ap next_of (sym f) ∙ e in cc
step_of_feeder s d made n next x b at (IsFeederOf.nothing plain none f) e = let no_next = ap next_of (sym f) ∙ e in cc

-- a port bit of a driver
port_of_driver : (s : Sources) (spots : List Spot) (x : Spot) (b : Bit) (p : PortBit) → IsFeederOf s spots x b → b.feeder ≡ Driver p → b.port ≡ Some p
port_of_driver s spots x b p (IsFeederOf.driver q port signal f) e = port ∙ ap Some (driver_of q p (sym f ∙ e))
  where
    driver_of : (y z : PortBit) → Driver y ≡ Driver z → y ≡ z
    driver_of y z h = cc
port_of_driver s spots x b p (IsFeederOf.through q source m port passes pin there f) e = let none = sym f ∙ e in cc
port_of_driver s spots x b p (IsFeederOf.bit source m plain link there f) e = let none = sym f ∙ e in cc
port_of_driver s spots x b p (IsFeederOf.constant plain link f) e = let none = sym f ∙ e in cc
port_of_driver s spots x b p (IsFeederOf.nothing plain none f) e = let no_driver = sym f ∙ e in cc

-- the name of a bit of a port, at an instance of a model
record IsModelBit (s : Sources) (x : Spot) (place : ℕ) (port : Port) : Type 0 where
  net : x.net ≡ port.name
  range : range_of s x ≡ Some port.range
  place_there : place ≡ x.place

model_bit : (s : Sources) (d : Design) (made : IsMadeFrom s d) (n : ℕ) (b : Bit) (x : Spot) (m : ℕ) (model : Model) (p : PortBit) (port : Port)
    → IsSpotOf made n x → IsBitAt s made.numbering.ways made.numbering.spots x b → b.port ≡ Some p → body_at s x.way ≡ Some (ModelBody m) → slice_get s.models m ≡ Some model
    → slice_get model.ports p.port ≡ Some port → IsModelBit s x p.place port
model_bit s d made n b x m model p port at is own body model_is port_is =
    let of = port_of_bit s d made x b (is_spot s d made n x at) is p own in
    let same : of.port ≡ port = port_of_way s x.way x.way p.port of.port port refl of.of_port.has (model_port s x.way m model body model_is p.port port port_is) in
    record {
      net = of.of_port.name ∙ ap (λ (q : Port). q.name) same;
      range = of.of_port.range ∙ ap (λ (q : Port). Some q.range) same;
      place_there = of.same_place;
    }

-- what a model says of an instance of it
feed_of : (s : Sources) (x y : Spot) (m : ℕ) (model : Model) (out_place in_place : ℕ) (output input : Port) (elements : List Element)
    → body_at s x.way ≡ Some (ModelBody m) → slice_get s.models m ≡ Some model → y.way ≡ x.way → IsModelBit s x out_place output → IsModelBit s y in_place input
    → IsIn (Feed (bit_name output.name output.range out_place) (bit_name input.name input.range in_place) elements) model.partials → IsModelFeed s x y
feed_of s x y m model out_place in_place output input elements body is ways out inp says =
    let first : bit_name output.name output.range out_place ≡ bit_name x.net output.range x.place =
    ap (λ name. bit_name name output.range out_place) (sym out.net) ∙ ap (bit_name x.net output.range) out.place_there in
    let second : bit_name input.name input.range in_place ≡ bit_name y.net input.range y.place =
    ap (λ name. bit_name name input.range in_place) (sym inp.net) ∙ ap (bit_name y.net input.range) inp.place_there in
    record {
      number = m;
      model = model;
      body = body;
      is_model = is;
      one_instance = ways;
      out_range = output.range;
      in_range = input.range;
      is_out_range = out.range;
      is_in_range = inp.range;
      elements = elements;
      says =
          subst (λ name. IsIn (Feed (bit_name x.net output.range x.place) name elements) model.partials) second
          (subst (λ name. IsIn (Feed name (bit_name input.name input.range in_place) elements) model.partials) first says);
    }

-- each step of the design is one of the hierarchy
step_of : (s : Sources) (d : Design) (made : IsMadeFrom s d) (n next : ℕ) → IsFedBy d n next → Step s d made n next
unfolding Step
step_of s d made n next (IsFedBy.feeder f e more) =
    let bit = feeder_of_bit d.bits n f e in
    let found = spot_of_bit s d made n bit.0 bit.1 in
    step_of_feeder s d made n next found.0 bit.0 found.1 found.2.fed_so (ap next_of bit.2 ∙ more)
step_of s d made n next (IsFedBy.model p q m model e body is_model inst says other) =
    let bit = feeder_of_bit d.bits n (Driver p) e in
    let first = spot_of_bit s d made n bit.0 bit.1 in
    let second = spot_of_bit s d made next other.0 other.1 in
    let own = port_of_driver s made.numbering.spots first.0 bit.0 p first.2.fed_so bit.2 in
    let out_of = port_of_bit s d made first.0 bit.0 (is_spot s d made n first.0 first.1) first.2 p own in
    let in_of = port_of_bit s d made second.0 other.0 (is_spot s d made next second.0 second.1) second.2 q other.2 in
    let ways : second.0.way ≡ first.0.way =
    one_way s d made p.inst second.0.way first.0.way (subst (λ k. IsWayOf made k second.0.way) inst in_of.at_way) out_of.at_way in
    let body_there : body_at s first.0.way ≡ Some (ModelBody m) = sym (body_of_way s d made p.inst first.0.way out_of.at_way) ∙ body in
    let other_body : body_at s second.0.way ≡ Some (ModelBody m) = ap (body_at s) ways ∙ body_there in
    let model_there : slice_get s.models m ≡ Some model = ap (λ (ms : List Model). slice_get ms m) (sym made.same_models) ∙ is_model in
    let output = model_bit s d made n bit.0 first.0 m model p says.output first.1 first.2 own body_there model_there says.is_output_port in
    let input = model_bit s d made next other.0 second.0 m model q says.input second.1 second.2 other.2 other_body model_there says.is_input_port in (
      first.0,
      second.0,
      first.1,
      second.1,
      model_feeds s first.0 second.0 (feed_of s first.0 second.0 m model p.place q.place says.output says.input says.elements body_there model_there ways output input says.line),
    )

-- a bit leads to one
one_step : (s : Sources) (d : Design) (made : IsMadeFrom s d) → AreReadSources s → IsFaultless s → (n m k : ℕ) → Step s d made n m → Step s d made n k → m ≡ k
unfolding Step
one_step s d made read faultless n m k p q =
    let start : q.0 ≡ p.0 = one_spot s d made n q.0 p.0 q.2 p.2 in
    let there = is_spot s d made n p.0 p.2 in
    let end = is_spot s d made m p.1 p.3 in
    let other = is_spot s d made k q.1 q.3 in
    elim (one_feed s read (early_of s faultless) p.0 p.1 q.1 there end p.4 (subst (λ x. Feeds s x q.1) start q.4)) [
      | inl same ↦ one_bit_number s d made m k p.1 p.3 (subst (IsSpotOf made k) same q.3)
      | inr ghost ↦ absurd (ghost.no_bit other)
    ]

reached_steps : (s : Sources) (d : Design) (made : IsMadeFrom s d) (n m : ℕ) → IsReached (IsFedBy d) n m → IsReached (Step s d made) n m
reached_steps s d made _ _ (IsReached.one n m step) = IsReached.one n m (step_of s d made n m step)
reached_steps s d made _ _ (IsReached.more n k m step rest) = IsReached.more n k m (step_of s d made n k step) (reached_steps s d made k m rest)

ring_feeds : (s : Sources) (d : Design) (made : IsMadeFrom s d) (n m : ℕ) (x y : Spot) → IsSpotOf made n x → IsSpotOf made m y → IsReached (Step s d made) n m
    → IsReached (Feeds s) x y
unfolding Step
ring_feeds s d made _ _ x y at there (IsReached.one n m step) =
    let first : step.0 ≡ x = one_spot s d made n step.0 x step.2 at in
    let last : step.1 ≡ y = one_spot s d made m step.1 y step.3 there in
    IsReached.one x y (subst (Feeds s x) last (subst (λ z. Feeds s z step.1) first step.4))
ring_feeds s d made _ _ x y at there (IsReached.more n k m step rest) =
    let first : step.0 ≡ x = one_spot s d made n step.0 x step.2 at in
    IsReached.more x step.1 y (subst (λ z. Feeds s z step.1) first step.4) (ring_feeds s d made k m step.1 y step.3 there rest)

-- WHAT IS REACHED from a bit on a ring is a bit on a ring, or is spelled as one.
record IsOnRing (s : Sources) (d : Design) (made : IsMadeFrom s d) (y : Spot) : Type 0 where
  number : ℕ
  spot : Spot
  at : IsSpotOf made number spot
  ring : IsReached (Step s d made) number number
  named : (name : List ℕ) → HasSpotName s y name → HasSpotName s spot name

-- one step from a bit on a ring
step_on_ring : (s : Sources) (d : Design) (made : IsMadeFrom s d) → AreReadSources s → IsFaultless s → (n : ℕ) (x y : Spot) → IsSpotOf made n x
    → IsReached (Step s d made) n n → Feeds s x y → ((m : ℕ) × IsSpotOf made m y × IsReached (Step s d made) m m) ⊎ (IsOnRing s d made y × ((z : Spot) → Feeds s y z → ⊥))
unfolding Step
step_on_ring s d made read faultless n x y at ring feeds = by (first_step (Step s d made) n n ring)
  where
    by : (m : ℕ) × Step s d made n m → ((m : ℕ) × IsSpotOf made m y × IsReached (Step s d made) m m) ⊎ (IsOnRing s d made y × ((z : Spot) → Feeds s y z → ⊥))
    by next =
        let step = next.1 in
        let start : step.0 ≡ x = one_spot s d made n step.0 x step.2 at in
        let again = on_ring (Step s d made) (one_step s d made read faultless) n next.0 (IsReached.one n next.0 step) ring in
        elim (one_feed s read (early_of s faultless) x step.1 y (is_spot s d made n x at) (is_spot s d made next.0 step.1 step.3)
        (subst (λ z. Feeds s z step.1) start step.4) feeds) [
          | inl same ↦ inl (next.0, subst (IsSpotOf made next.0) (sym same) step.3, again)
          | inr ghost ↦
              inr (record { number = next.0; spot = step.1; at = step.3; ring = again; named = ghost.named }, ghost.dead)
        ]

reached_on_ring : (s : Sources) (d : Design) (made : IsMadeFrom s d) → AreReadSources s → IsFaultless s → (x y : Spot) → IsReached (Feeds s) x y → (n : ℕ)
    → IsSpotOf made n x → IsReached (Step s d made) n n → IsOnRing s d made y
reached_on_ring s d made read faultless _ _ (IsReached.one x y feeds) n at ring =
    elim (step_on_ring s d made read faultless n x y at ring feeds) [
      | inl bit ↦ record { number = bit.0; spot = y; at = bit.1; ring = bit.2; named = λ name is. is }
      | inr ghost ↦ ghost.0
    ]
reached_on_ring s d made read faultless _ _ (IsReached.more x y z feeds rest) n at ring =
    elim (step_on_ring s d made read faultless n x y at ring feeds) [
      | inl bit ↦ reached_on_ring s d made read faultless y z rest bit.0 bit.1 bit.2
      | inr ghost ↦ (let next = first_step (Feeds s) y z rest in absurd (ghost.1 next.0 next.1))
    ]

-- a bit has one name
one_name : (s : Sources) (x : Spot) (a b : List ℕ) → HasSpotName s x a → HasSpotName s x b → a ≡ b
one_name s x a b p q =
    let ranges : p.0 ≡ q.0 = same_Some p.0 q.0 (sym p.1 ∙ q.1) in
    p.2 ∙ ap (λ range. joined (path x.way) (bit_name x.net range x.place)) ranges ∙ sym q.2

-- the line that feeds a bit stands in a module
module_of_line : (s : Sources) (x y : Spot) (way : Way) (line : ℕ) → IsFed s x y way line → (n : ℕ) × (m : Module) × IsOfModule s way n m
module_of_line s x y way line (IsFed.link number is) = (is.module_number, is.of_module, is.is_module)
module_of_line s x y way line (IsFed.through name inside at is) = (at.module_number, at.of_module, at.is_module)
module_of_line s x y way line (IsFed.feed name inside at is) = (at.module_number, at.of_module, at.is_module)

-- a ring has no bit of the least name, since that would be a fault
no_least : (s : Sources) (d : Design) (made : IsMadeFrom s d) → AreReadSources s → IsFaultless s → (n : ℕ) (b : Bit) → slice_get d.bits n ≡ Some b
    → IsReached (Step s d made) n n
    → ((m : ℕ) (c : Bit) → slice_get d.bits m ≡ Some c → IsReached (Step s d made) m m → name_cmp c.name b.name ≡ Less → ⊥) → ⊥
no_least s d made read faultless n b e ring none =
    let line = first_step (Feeds s) found.0 found.0 reached in
    let fed = line.1 in
    let at = module_of_line s found.0 line.0 fed.0 fed.1 fed.2 in
    faultless (at_line FaultKind.wire_loop fed.0 at.0 fed.1 b.name)
    (IsFault.wire_loop fed.0 at.0 fed.1 at.1 found.0 line.0 b.name (record { named = found.2.name_there; ring = reached; least = least }) fed.2 at.2)
  where
    found : (x : Spot) × IsSpotOf made n x × IsBitAt s made.numbering.ways made.numbering.spots x b
    found = spot_of_bit s d made n b e

    reached : IsReached (Feeds s) found.0 found.0
    reached = ring_feeds s d made n n found.0 found.0 found.1 found.1 ring

    least : (y : Spot) (other : List ℕ) → IsReached (Feeds s) found.0 y → HasSpotName s y other → name_cmp other b.name ≢ Less
    least y other leads named less =
        let on = reached_on_ring s d made read faultless found.0 y leads n found.1 ring in
        let bit = bit_of_spot s d made on.number on.spot on.at in
        let same : bit.0.name ≡ other = one_name s on.spot bit.0.name other bit.2.name_there (on.named other named) in
        none on.number bit.0 bit.1 on.ring (ap (λ name. name_cmp name b.name) same ∙ less)

-- No list of feeders comes back.
pub has_no_ring : (s : Sources) (d : Design) → AreReadSources s → IsFaultless s → IsMadeFrom s d → HasNoRing (IsFedBy d)
unfolding Step
has_no_ring s d read faultless made n ring = by (first_step (Step s d made) n n steps)
  where
    steps : IsReached (Step s d made) n n
    steps = reached_steps s d made n n ring

    by : (m : ℕ) × Step s d made n m → ⊥
    by next =
        let bit = bit_of_spot s d made n next.1.0 next.1.2 in
        no_descent name_cmp nat_list_cmp_total (λ (b : Bit). b.name) d.bits (λ m b. IsReached (Step s d made) m m)
        (λ m b at there none. no_least s d made read faultless m b at there (λ k c at' there' less. none k c at' there' less)) n bit.0 bit.1 steps
