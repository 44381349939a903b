-- Ports of instances, and the bits of these.
use Rattle.std.proofs.Common.{◌≡◌, ℕ, ◌<◌, List, Option, Some, None, option_map, option_and_then, refl, sym, ap, ◌∙◌, subst}
use Rattle.std.specs.List.{find}
use Rattle.std.proofs.lemmas.Option.{same_Some}
use Rattle.pw_defs.specs.declared.design.Bit.{Bit}
use Rattle.pw_defs.specs.declared.design.Body.{Body}
use Rattle.pw_defs.specs.declared.design.Design.{Design}
use Rattle.pw_defs.specs.declared.design.PortBit.{PortBit}
use Rattle.pw_defs.specs.declared.netlist.Port.{Port}
use Rattle.list_defs.specs.Members.{place_of, same_name}
use Rattle.list_defs.proofs.NameLemmas.{same_name-equal, same_name-itself}
use Rattle.design_defs.specs.Bits.{IsSpot, Spot, port_number, range_in, range_of}
use Rattle.design_defs.specs.DesignFaults.{HasPortAt, IsFaultless}
use Rattle.design_defs.specs.Designs.{IsBitAt, IsMadeFrom}
use Rattle.design_defs.specs.Hierarchy.{Sources, Way, body_at, number_named, ports_in}
use Rattle.design_defs.specs.Ports.{IsPortBit}
use Rattle.design_defs.specs.Ranges.{width}
use Rattle.design_defs.proofs.Lookups.{body_of_spot}
use Rattle.design_laws.proofs.FirstFound.{at_place, own_place}
use Rattle.design_laws.proofs.NoTwoNames.{one_port}
use Rattle.design_laws.proofs.Numbered.{IsWayOf, number_of_port}
use Rattle.design_defs.proofs.BodiesThere.{found_range}
use Rattle.design_defs.proofs.OneDesign.{early_of}

-- where a bit of a port stands
abbrev pub port_spot : Way → Port → ℕ → Spot
port_spot way p place = record { way = way; net = p.name; place = place }

-- the net of a port of an instance has the range of the port and is the port
pub range_of_port : (s : Sources) → IsFaultless s → (way : Way) (k : ℕ) (p : Port) (place : ℕ) → HasPortAt s way k p
    → (range_of s (port_spot way p place) ≡ Some p.range) × (port_number s (port_spot way p place) ≡ Some k)
range_of_port s faultless way k p place has = (
  ap (option_and_then (λ body. range_in s body p.name)) has.2 ∙ found_range s has.0 has.1 p.name p has.3 own.1,
  ap (λ o. option_and_then (number_named (λ (q : Port). q.name) p.name) (option_and_then (ports_in s) o)) has.2
      ∙ ap (option_and_then (number_named (λ (q : Port). q.name) p.name)) has.3 ∙ own.0,
)
  where
    own : (place_of (λ (q : Port). same_name p.name q.name) has.1 ≡ Some k) × (find (λ (q : Port). same_name p.name q.name) has.1 ≡ Some p)
    own =
        own_place (λ (q : Port). same_name p.name q.name) has.1 k p has.4 (same_name-itself p.name)
        (λ l q at same. one_port s (early_of s faultless) way l k q p (has.0, has.1, has.2, has.3, at) has (sym (same_name-equal p.name q.name same)))

-- the port that a bit is of
pub record IsOfPort (s : Sources) (x : Spot) (k : ℕ) (p : Port) : Type 0 where
  pub has : HasPortAt s x.way k p
  pub name : x.net ≡ p.name
  pub range : range_of s x ≡ Some p.range

pub port_of_spot : (s : Sources) (x : Spot) (range : Option (ℕ × ℕ)) (k : ℕ) → range_of s x ≡ Some range → port_number s x ≡ Some k → (p : Port) × IsOfPort s x k p
port_of_spot s x range k in_range number =
    by (ports_in s owner.0) refl
    (sym (ap (λ o. option_and_then (number_named (λ (q : Port). q.name) x.net) (option_and_then (ports_in s) o)) owner.1) ∙ number)
  where
    owner : (b : Body) × (body_at s x.way ≡ Some b) × (range_in s b x.net ≡ Some range)
    owner = body_of_spot s x range in_range

    by : (o : Option (List Port)) → ports_in s owner.0 ≡ o → option_and_then (number_named (λ (q : Port). q.name) x.net) o ≡ Some k → (p : Port) × IsOfPort s x k p
    by None none h = cc
    by (Some ports) are h =
        let found = at_place (λ (q : Port). same_name x.net q.name) ports k h in (
          found.0,
          record {
            has = (owner.0, ports, owner.1, are, found.1);
            name = same_name-equal x.net found.0.name found.2;
            range = ap (option_and_then (λ body. range_in s body x.net)) owner.1 ∙ found_range s owner.0 ports x.net found.0 are found.3;
          },
        )

-- the port bit that a bit of a design is
pub record IsPortOfBit (s : Sources) (d : Design) (made : IsMadeFrom s d) (x : Spot) (owner : ℕ) (p : PortBit) : Type 0 where
  pub of_owner : p.inst ≡ owner
  pub at_way : IsWayOf made p.inst x.way
  pub same_place : p.place ≡ x.place
  pub number : port_number s x ≡ Some p.port
  pub port : Port
  pub of_port : IsOfPort s x p.port port
  pub within : x.place < width port.range

pub port_of_bit : (s : Sources) (d : Design) (made : IsMadeFrom s d) (x : Spot) (b : Bit) → IsSpot s x → IsBitAt s made.numbering.ways made.numbering.spots x b → (p : PortBit)
    → b.port ≡ Some p → IsPortOfBit s d made x b.owner p
port_of_bit s d made x b there is p e = by (port_number s x) refl (sym is.port_there ∙ e)
  where
    by : (o : Option ℕ) → port_number s x ≡ o → option_map (λ (port : ℕ). record { inst = b.owner; port = port; place = x.place }) o ≡ Some p → IsPortOfBit s d made x b.owner p
    by None none h = cc
    by (Some k) number h =
        let whole : record { inst = b.owner; port = k; place = x.place } ≡ p = same_Some _ p h in
        let inst : b.owner ≡ p.inst = ap (λ (q : PortBit). q.inst) whole in
        let port : k ≡ p.port = ap (λ (q : PortBit). q.port) whole in
        let is_number : port_number s x ≡ Some p.port = number ∙ ap Some port in
        let of_port = port_of_spot s x there.0 p.port there.1 is_number in
        record {
          of_owner = sym inst;
          at_way = subst (λ n. IsWayOf made n x.way) inst is.owner_there;
          same_place = sym (ap (λ (q : PortBit). q.place) whole);
          number = is_number;
          port = of_port.0;
          of_port = of_port.1;
          within = subst (λ range. x.place < width range) (same_Some there.0 of_port.0.range (sym there.1 ∙ of_port.1.range)) there.2;
        }

-- it is a port bit of the design
pub port_bit_there : (s : Sources) (d : Design) (made : IsMadeFrom s d) (x : Spot) (owner : ℕ) (p : PortBit) → IsPortOfBit s d made x owner p → IsPortBit d p
port_bit_there s d made x owner p is =
    record {
      of_port = is.port;
      is_port = number_of_port s d made p.inst x.way p.port is.port is.at_way is.of_port.has;
      within = subst (λ n. n < width is.port.range) (sym is.same_place) is.within;
    }
