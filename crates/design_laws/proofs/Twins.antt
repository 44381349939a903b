-- Two instances of one module, and what stands in the same way below each.
use Rattle.std.proofs.Common.{◌≡◌, ℕ, true, false, List, [], ◌∷◌, ◌++◌, Option, Some, None, option_and_then, option_map, slice_get, refl, sym, ap, ◌∙◌, subst}
use Rattle.std.proofs.lemmas.Option.{same_Some}
use Rattle.pw_defs.specs.declared.design.Body.TheVariants.{Module as ModuleBody}
use Rattle.pw_defs.specs.declared.design.Design.{Design}
use Rattle.pw_defs.specs.declared.netlist.Module.{Module}
use Rattle.pw_defs.specs.declared.netlist.Port.{Port}
use Rattle.list_defs.proofs.Members.{IsIn-slice_get}
use Rattle.design_defs.specs.Alike.{AreSameBit, AreSameInstance}
use Rattle.design_defs.specs.Bits.{IsSpot, Spot, port_number, range_in, range_of}
use Rattle.design_defs.specs.DesignFaults.{HasPortAt, IsFaultless}
use Rattle.design_defs.specs.Designs.{IsLinked, IsMadeFrom, parts_of}
use Rattle.design_defs.specs.Hierarchy.{Sources, Way, body_at, body_inside, module_at, number_named, path, ports_in}
use Rattle.design_defs.specs.Inputs.{AreReadSources}
use Rattle.design_defs.specs.Links.{End, IsLink, links_in, spot_of}
use Rattle.design_defs.specs.Ports.{dir_in, is_input}
use Rattle.design_defs.proofs.Lookups.{body_of_spot}
use Rattle.design_laws.proofs.Below.{named_by_way}
use Rattle.design_laws.proofs.LinkCases.{IsInputSpot, child_is_input, link_by}
use Rattle.design_laws.proofs.Numbered.{IsSpotOf, IsWayOf, is_spot, way_number}
use Rattle.design_laws.proofs.OwnBits.{bit_place}
use Rattle.design_laws.proofs.PortSpots.{port_spot, range_of_port}
use Rattle.design_laws.specs.FullNames.{HaveFullNames}
use Rattle.design_laws.specs.OwnPlaces.{spot_at}

-- two instances of one module in a design made from sources without faults
pub record ArePair (s : Sources) (d : Design) (made : IsMadeFrom s d) (a b : ℕ) : Type 0 where
  pub read : AreReadSources s
  pub faultless : IsFaultless s
  pub full : HaveFullNames s
  pub way : Way
  pub other : Way
  pub at : IsWayOf made a way
  pub at_other : IsWayOf made b other
  pub module_number : ℕ
  pub body : body_at s way ≡ Some (ModuleBody module_number)
  pub body_other : body_at s other ≡ Some (ModuleBody module_number)

-- the pair the other way round
abbrev pub turned : (s : Sources) (d : Design) (made : IsMadeFrom s d) (a b : ℕ) → ArePair s d made a b → ArePair s d made b a
turned s d made a b pair =
    record {
      read = pair.read;
      faultless = pair.faultless;
      full = pair.full;
      way = pair.other;
      other = pair.way;
      at = pair.at_other;
      at_other = pair.at;
      module_number = pair.module_number;
      body = pair.body_other;
      body_other = pair.body;
    }

-- below the one stands what stands below the other
pub same_body : (s : Sources) (v w : Way) → body_at s v ≡ body_at s w → (below : Way) → body_at s (below ++ v) ≡ body_at s (below ++ w)
same_body s v w same [] = same
same_body s v w same (name ∷ below) = ap (option_and_then (body_inside s name)) (same_body s v w same below)

pub same_below : (s : Sources) (d : Design) (made : IsMadeFrom s d) (a b : ℕ) (pair : ArePair s d made a b) (below : Way)
    → body_at s (below ++ pair.way) ≡ body_at s (below ++ pair.other)
same_below s d made a b pair = same_body s pair.way pair.other (pair.body ∙ sym pair.body_other)

pub same_range : (s : Sources) (d : Design) (made : IsMadeFrom s d) (a b : ℕ) (pair : ArePair s d made a b) (below : Way) (e : List ℕ × ℕ)
    → range_of s (spot_at (below ++ pair.way) e) ≡ range_of s (spot_at (below ++ pair.other) e)
same_range s d made a b pair below e = ap (option_and_then (λ body. range_in s body e.0)) (same_below s d made a b pair below)

pub same_port_number : (s : Sources) (d : Design) (made : IsMadeFrom s d) (a b : ℕ) (pair : ArePair s d made a b) (below : Way) (e : List ℕ × ℕ)
    → port_number s (spot_at (below ++ pair.way) e) ≡ port_number s (spot_at (below ++ pair.other) e)
same_port_number s d made a b pair below e =
    ap (λ o. option_and_then (number_named (λ (p : Port). p.name) e.0) (option_and_then (ports_in s) o)) (same_below s d made a b pair below)

-- a bit stands below the one where one stands below the other
pub same_spot : (s : Sources) (d : Design) (made : IsMadeFrom s d) (a b : ℕ) (pair : ArePair s d made a b) (below : Way) (e : List ℕ × ℕ)
    → IsSpot s (spot_at (below ++ pair.way) e) → IsSpot s (spot_at (below ++ pair.other) e)
same_spot s d made a b pair below e there = (there.0, sym (same_range s d made a b pair below e) ∙ there.1, there.2)

-- TWINS: the instances at one way below the two, and their bits.
pub twin_instances : (s : Sources) (d : Design) (made : IsMadeFrom s d) (a b : ℕ) (pair : ArePair s d made a b) (below : Way) (i j : ℕ)
    → IsWayOf made i (below ++ pair.way) → IsWayOf made j (below ++ pair.other) → AreSameInstance d a b i j
twin_instances s d made a b pair below i j at other =
    record {
      name = path below;
      first = named_by_way s d made pair.full a pair.way pair.at below i at;
      second = named_by_way s d made pair.full b pair.other pair.at_other below j other;
    }

pub twin_bits : (s : Sources) (d : Design) (made : IsMadeFrom s d) (a b : ℕ) (pair : ArePair s d made a b) (below : Way) (e : List ℕ × ℕ) (n m : ℕ)
    → IsSpotOf made n (spot_at (below ++ pair.way) e) → IsSpotOf made m (spot_at (below ++ pair.other) e) → AreSameBit d a b n m
twin_bits s d made a b pair below e n m at other =
    let there = is_spot s d made n (spot_at (below ++ pair.way) e) at in
    let body = body_of_spot s (spot_at (below ++ pair.way) e) there.0 there.1 in
    let is_other : body_at s (below ++ pair.other) ≡ Some body.0 = sym (same_below s d made a b pair below) ∙ body.1 in
    let i = way_number s d made (below ++ pair.way) (body.0, body.1) in
    let j = way_number s d made (below ++ pair.other) (body.0, is_other) in
    let place = bit_place s d made i.0 j.0 (below ++ pair.way) (below ++ pair.other) body.0 i.1 j.1 body.1 is_other n m e at other there in
    record {
      i = i.0;
      j = j.0;
      owners = twin_instances s d made a b pair below i.0 j.0 i.1 j.1;
      place = place.0;
      first = place.1;
      second = place.2;
    }

-- ends of links below the two
pub data AreTwins (way other : Way) : Option Spot → Option Spot → Type 0 where
  bits : (below : Way) (e : List ℕ × ℕ) → AreTwins way other (Some (spot_at (below ++ way) e)) (Some (spot_at (below ++ other) e))
  constant : AreTwins way other None None

twin_ends : (way other below : Way) (end : End) → AreTwins way other (spot_of (below ++ way) end) (spot_of (below ++ other) end)
twin_ends way other below (End.inner net place) = AreTwins.bits below (net, place)
twin_ends way other below (End.child inst port place) = AreTwins.bits (inst ∷ below) (port, place)
twin_ends way other below End.constant = AreTwins.constant

-- no input bit of the one of the two itself
unfoldable pub IsInner : (s : Sources) (d : Design) (made : IsMadeFrom s d) (a b : ℕ) (pair : ArePair s d made a b) → Way → List ℕ × ℕ → Type 0
IsInner s d made a b pair below e =
    below ≡ [] → (k : ℕ) → port_number s (spot_at pair.way e) ≡ Some k → is_input (dir_in (parts_of s) (ModuleBody pair.module_number) k) ≡ false

-- the direction of a port of a module
dir_of_port : (s : Sources) (way : Way) (n k : ℕ) (p : Port) → body_at s way ≡ Some (ModuleBody n) → HasPortAt s way k p
    → dir_in (parts_of s) (ModuleBody n) k ≡ Some p.dir
dir_of_port s way n k p is has = by (module_at s n) (ap (option_and_then (ports_in s)) (sym is ∙ has.2) ∙ has.3)
  where
    by : (o : Option Module) → option_map (λ (x : Module). x.ports) o ≡ Some has.1
        → option_and_then (λ (x : Module). option_map (λ (q : Port). q.dir) (slice_get x.ports k)) o ≡ Some p.dir
    by None h = cc
    by (Some m) h = ap (λ (ports : List Port). option_map (λ (q : Port). q.dir) (slice_get ports k)) (same_Some m.ports has.1 h) ∙ ap (option_map (λ (q : Port). q.dir)) has.4

-- an input of the one of the two isn't inner
not_inner : (s : Sources) (d : Design) (made : IsMadeFrom s d) (a b : ℕ) (pair : ArePair s d made a b) (e : List ℕ × ℕ) → IsInner s d made a b pair [] e
    → IsInputSpot s (spot_at pair.way e) → ⊥
unfolding IsInner
not_inner s d made a b pair e inner input =
    let number : port_number s (port_spot pair.way input.port e.1) ≡ Some input.number =
    (range_of_port s pair.faultless pair.way input.number input.port e.1 input.has).1 in
    let same : port_number s (spot_at pair.way e) ≡ Some input.number =
    subst (λ net. port_number s (record { way = pair.way; net = net; place = e.1 }) ≡ Some input.number) (sym input.name) number in
    let dir = dir_of_port s pair.way pair.module_number input.number input.port pair.body input.has in
    true_is_false (sym (ap is_input (dir ∙ ap Some input.input)) ∙ inner refl input.number same)
  where
    true_is_false : true ≡ false → ⊥
    true_is_false e = cc

-- A link to an inner bit below the one is also one to its twin, from the twin of its source.
pub twin_link : (s : Sources) (d : Design) (made : IsMadeFrom s d) (a b : ℕ) (pair : ArePair s d made a b) (below : Way) (e : List ℕ × ℕ)
    → IsInner s d made a b pair below e → (source : Option Spot) → IsLinked s (spot_at (below ++ pair.way) e) source
    → (twin : Option Spot) × IsLinked s (spot_at (below ++ pair.other) e) twin × AreTwins pair.way pair.other source twin
twin_link s d made a b pair below e inner source linked = by l.link.fed refl
  where
    way : Way
    way = linked.0

    l : IsLink s way linked.1 linked.2 (spot_at (below ++ pair.way) e) source
    l = linked.3

    -- the same line in the twin of its instance
    moved : (v : Way) → way ≡ v ++ pair.way → spot_of (v ++ pair.other) l.link.fed ≡ Some (spot_at (below ++ pair.other) e)
        → (twin : Option Spot) × IsLinked s (spot_at (below ++ pair.other) e) twin × AreTwins pair.way pair.other source twin
    moved v same fed = (
      spot_of (v ++ pair.other) l.link.source,
      (
        v ++ pair.other,
        linked.1,
        linked.2,
        record {
          module_number = l.module_number;
          of_module = l.of_module;
          is_module =
              record {
                body = sym (same_below s d made a b pair v) ∙ ap (body_at s) (sym same) ∙ l.is_module.body;
                is_module = l.is_module.is_module;
              };
          link = l.link;
          there = l.there;
          on_line = l.on_line;
          fed_there = fed;
          source_there = refl;
        },
      ),
      subst (λ o. AreTwins pair.way pair.other o (spot_of (v ++ pair.other) l.link.source)) (ap (λ w. spot_of w l.link.source) (sym same) ∙ l.source_there)
          (twin_ends pair.way pair.other v l.link.source),
    )

    child : (inst port : List ℕ) (place : ℕ) → l.link.fed ≡ End.child inst port place → IsInputSpot s (record { way = inst ∷ way; net = port; place = place })
    child inst port place is =
        child_is_input s way l.module_number l.of_module l.link l.is_module
        (pair.read.each_module l.of_module (IsIn-slice_get s.modules l.module_number l.of_module l.is_module.is_module)).own_names
        (link_by s l.of_module l.link (IsIn-slice_get (links_in s l.of_module) linked.1 l.link l.there)) inst port place is

    spot_parts : (x y : Spot) → Some x ≡ Some y → (x.way ≡ y.way) × (x.net ≡ y.net) × (x.place ≡ y.place)
    spot_parts x y same = let one = same_Some x y same in (ap (λ (z : Spot). z.way) one, ap (λ (z : Spot). z.net) one, ap (λ (z : Spot). z.place) one)

    by_child : (u : Way) → IsInner s d made a b pair u e → u ≡ below → (inst port : List ℕ) (place : ℕ) → l.link.fed ≡ End.child inst port place → inst ∷ way ≡ u ++ pair.way
        → port ≡ e.0 → place ≡ e.1 → (twin : Option Spot) × IsLinked s (spot_at (below ++ pair.other) e) twin × AreTwins pair.way pair.other source twin
    by_child [] none same inst port place is ways nets places =
        absurd (not_inner s d made a b pair e none (subst (IsInputSpot s) (λ k. record { way = ways k; net = nets k; place = places k }) (child inst port place is)))
    by_child (name ∷ v) none same inst port place is ways nets places =
        let outer : way ≡ v ++ pair.way = cc in
        let insts : inst ≡ name = cc in
        moved v outer (ap (spot_of (v ++ pair.other)) is
        ∙ ap Some (λ k. record { way = insts k ∷ (v ++ pair.other); net = nets k; place = places k })
        ∙ ap (λ (w : Way). Some (spot_at (w ++ pair.other) e)) same)

    by : (end : End) → l.link.fed ≡ end → (twin : Option Spot) × IsLinked s (spot_at (below ++ pair.other) e) twin × AreTwins pair.way pair.other source twin
    by (End.inner net place) is =
        let parts = spot_parts (record { way = way; net = net; place = place }) (spot_at (below ++ pair.way) e) (sym (ap (spot_of way) is) ∙ l.fed_there) in
        moved below parts.0 (ap (spot_of (below ++ pair.other)) is ∙ ap Some (λ k. record { way = below ++ pair.other; net = parts.1 k; place = parts.2 k }))
    by (End.child inst port place) is =
        let parts = spot_parts (record { way = inst ∷ way; net = port; place = place }) (spot_at (below ++ pair.way) e) (sym (ap (spot_of way) is) ∙ l.fed_there) in
        by_child below inner refl inst port place is parts.0 parts.1 parts.2
    by End.constant is = let none = sym (ap (spot_of way) is) ∙ l.fed_there in cc
