-- In a made design each port bit is one bit, and its instance owns it.
use Rattle.std.proofs.Common.{◌≡◌, ℕ, List, Option, Some, option_and_then, option_map, slice_get, sym, ap, ◌∙◌, subst}
use Rattle.std.proofs.lemmas.Option.{same_Some}
use Rattle.pw_defs.specs.declared.design.Bit.{Bit}
use Rattle.pw_defs.specs.declared.design.Design.{Design}
use Rattle.pw_defs.specs.declared.design.PortBit.{PortBit}
use Rattle.pw_defs.specs.declared.netlist.Port.{Port}
use Rattle.design_defs.specs.Bits.{IsSpot, port_bit_of}
use Rattle.design_defs.specs.DesignFaults.{HasPortAt, IsFaultless}
use Rattle.design_defs.specs.Designs.{IsMadeFrom}
use Rattle.design_defs.specs.Hierarchy.{Sources, Way, body_at, ports_in}
use Rattle.design_defs.specs.Sound.{HasPortBits, IsBitOf}
use Rattle.design_defs.proofs.BitOrders.{spot_of_parts}
use Rattle.design_laws.proofs.Numbered.{IsSpotOf, IsWayOf, bit_of_spot, is_spot, one_bit_number, one_number, one_way, spot_number, spot_of_bit, way_of_port}
use Rattle.design_laws.proofs.PortSpots.{port_of_bit, port_spot, range_of_port}

-- a bit is a bit of a port, where it stands at a port
pub bit_of_port : (s : Sources) (d : Design) (made : IsMadeFrom s d) → IsFaultless s → (p : PortBit) (way : Way) (port : Port) → IsWayOf made p.inst way → HasPortAt s way p.port port
    → (n : ℕ) → IsSpotOf made n (port_spot way port p.place) → (b : Bit) × (slice_get d.bits n ≡ Some b) × (b.port ≡ Some p) × (b.owner ≡ p.inst)
bit_of_port s d made faultless p way port at has n is =
    let found = bit_of_spot s d made n (port_spot way port p.place) is in
    let owner : found.0.owner ≡ p.inst = one_number s d made found.0.owner p.inst way found.2.owner_there at in
    let number = (range_of_port s faultless way p.port port p.place has).1 in (
      found.0,
      found.1,
      found.2.port_there ∙ ap (port_bit_of s (port_spot way port p.place)) owner
          ∙ ap (option_map (λ (k : ℕ). record { inst = p.inst; port = k; place = p.place })) number,
      owner,
    )

-- an instance has one port under a number
pub port_of_way : (s : Sources) (v w : Way) (k : ℕ) (p q : Port) → v ≡ w → HasPortAt s v k p → HasPortAt s w k q → p ≡ q
port_of_way s v w k p q same has other = same_Some p q (sym (found v p has) ∙ ap at same ∙ found w q other)
  where
    at : Way → Option Port
    at way = option_and_then (λ (ports : List Port). slice_get ports k) (option_and_then (ports_in s) (body_at s way))

    found : (way : Way) (r : Port) → HasPortAt s way k r → at way ≡ Some r
    found way r is =
        ap (λ o. option_and_then (λ (ports : List Port). slice_get ports k) (option_and_then (ports_in s) o)) is.2
        ∙ ap (option_and_then (λ (ports : List Port). slice_get ports k)) is.3 ∙ is.4

-- bits of one port bit stand at one place
pub spot_of_port : (s : Sources) (d : Design) (made : IsMadeFrom s d) (p : PortBit) (way : Way) (port : Port) → IsWayOf made p.inst way
    → HasPortAt s way p.port port → (n : ℕ) → IsBitOf d p n → IsSpotOf made n (port_spot way port p.place)
spot_of_port s d made p way port at has n is =
    let found = spot_of_bit s d made n is.0 is.1 in
    let of = port_of_bit s d made found.0 is.0 (is_spot s d made n found.0 found.1) found.2 p is.2 in
    let ways : found.0.way ≡ way = one_way s d made p.inst found.0.way way of.at_way at in
    let ports : of.port ≡ port = port_of_way s found.0.way way p.port of.port port ways of.of_port.has has in
    let net : found.0.net ≡ port.name = of.of_port.name ∙ ap (λ (q : Port). q.name) ports in
    subst (IsSpotOf made n) (spot_of_parts found.0 (port_spot way port p.place) ways net (sym of.same_place)) found.1

-- Each port bit is one bit.
pub has_port_bits : (s : Sources) (d : Design) → IsFaultless s → IsMadeFrom s d → HasPortBits d
has_port_bits s d faultless made p is =
    let found = way_of_port s d made p.inst p.port is.of_port is.is_port in
    let range = (range_of_port s faultless found.0 p.port is.of_port p.place found.2).0 in
    let there : IsSpot s (port_spot found.0 is.of_port p.place) = (is.of_port.range, range, is.within) in
    let number = spot_number s d made (port_spot found.0 is.of_port p.place) there in
    let bit = bit_of_port s d made faultless p found.0 is.of_port found.1 found.2 number.0 number.1 in
    record {
      number = number.0;
      bit = bit.0;
      there = bit.1;
      is_port_bit = bit.2;
      owned = bit.3;
      alone = λ n of. one_bit_number s d made n number.0 (port_spot found.0 is.of_port p.place)
          (spot_of_port s d made p found.0 is.of_port found.1 found.2 n of) number.1;
    }
