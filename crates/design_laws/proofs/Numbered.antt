-- The instances and the bits of a made design by their numbers.
use Rattle.std.proofs.Common.{◌≡◌, ℕ, List, Option, Some, None, option_map, option_and_then, slice_get, refl, sym, ap, ◌∙◌, subst}
use Rattle.std.proofs.lemmas.Option.{same_Some}
use Rattle.pw_defs.specs.declared.design.Bit.{Bit}
use Rattle.pw_defs.specs.declared.design.Body.{Body}
use Rattle.pw_defs.specs.declared.design.Design.{Design}
use Rattle.pw_defs.specs.declared.design.Instance.{Instance}
use Rattle.pw_defs.specs.declared.design.PortBit.{PortBit}
use Rattle.pw_defs.specs.declared.netlist.Port.{Port}
use Rattle.list_defs.proofs.Few.{place_of_member}
use Rattle.list_defs.proofs.Members.{IsIn-slice_get}
use Rattle.list_defs.proofs.OneList.{one_place}
use Rattle.design_defs.specs.Bits.{IsSpot, Spot, spot_cmp}
use Rattle.design_defs.specs.DesignFaults.{HasPortAt}
use Rattle.design_defs.specs.Designs.{IsBitAt, IsInstanceAt, IsMadeFrom, IsParentOf, begins_signal_at, parts_of, passes_on_at}
use Rattle.design_defs.specs.Drivers.{asked_at, begins_signal, begins_signal_in, passes_on, passes_on_in}
use Rattle.design_defs.specs.Hierarchy.{IsInstance, Sources, Way, body_at, path, ports_in, way_cmp}
use Rattle.design_defs.specs.Joined.{parent_of, path_of}
use Rattle.design_defs.specs.Ports.{body_of, port_at, ports_among, ports_of}
use Rattle.design_defs.proofs.BitOrders.{spot_total, way_total}
use Rattle.design_laws.proofs.FirstFound.{left_of, right_of}
use Rattle.design_laws.proofs.Parts.{same_passing, same_ports, same_signals}

-- the way of the instance with this number
abbrev pub IsWayOf : {s : Sources} {d : Design} → IsMadeFrom s d → ℕ → Way → Type 0
IsWayOf made n way = slice_get made.numbering.ways n ≡ Some way

-- where the bit with this number stands
abbrev pub IsSpotOf : {s : Sources} {d : Design} → IsMadeFrom s d → ℕ → Spot → Type 0
IsSpotOf made n x = slice_get made.numbering.spots n ≡ Some x

-- INSTANCES. Each has a number, and no two have the same.
pub way_number : (s : Sources) (d : Design) (made : IsMadeFrom s d) (way : Way) → IsInstance s way → (n : ℕ) × IsWayOf made n way
way_number s d made way there = place_of_member way made.numbering.ways (made.numbering.all_ways.all way there)

pub one_number : (s : Sources) (d : Design) (made : IsMadeFrom s d) (n m : ℕ) (way : Way) → IsWayOf made n way → IsWayOf made m way → n ≡ m
one_number s d made = one_place way_cmp way_total made.numbering.ways made.numbering.all_ways.rising

pub one_way : (s : Sources) (d : Design) (made : IsMadeFrom s d) (n : ℕ) (v w : Way) → IsWayOf made n v → IsWayOf made n w → v ≡ w
one_way s d made n v w e f = same_Some v w (sym e ∙ f)

pub is_instance : (s : Sources) (d : Design) (made : IsMadeFrom s d) (n : ℕ) (way : Way) → IsWayOf made n way → IsInstance s way
is_instance s d made n way e = made.numbering.all_ways.each way (IsIn-slice_get made.numbering.ways n way e)

pub way_of_inst : (s : Sources) (d : Design) (made : IsMadeFrom s d) (n : ℕ) (i : Instance) → slice_get d.insts n ≡ Some i
    → (way : Way) × IsWayOf made n way × IsInstanceAt s made.numbering.ways way i
way_of_inst s d made = left_of (IsInstanceAt s made.numbering.ways) made.numbering.ways d.insts made.instances

pub inst_of_way : (s : Sources) (d : Design) (made : IsMadeFrom s d) (n : ℕ) (way : Way) → IsWayOf made n way
    → (i : Instance) × (slice_get d.insts n ≡ Some i) × IsInstanceAt s made.numbering.ways way i
inst_of_way s d made = right_of (IsInstanceAt s made.numbering.ways) made.numbering.ways d.insts made.instances

-- what an instance is, its path, and what it is inside
pub body_of_way : (s : Sources) (d : Design) (made : IsMadeFrom s d) (n : ℕ) (way : Way) → IsWayOf made n way → body_of d n ≡ body_at s way
body_of_way s d made n way e =
    let found = inst_of_way s d made n way e in
    ap (option_map (λ (i : Instance). i.body)) found.1 ∙ sym found.2.body_there

pub path_of_way : (s : Sources) (d : Design) (made : IsMadeFrom s d) (n : ℕ) (way : Way) → IsWayOf made n way → path_of d n ≡ Some (path way)
path_of_way s d made n way e =
    let found = inst_of_way s d made n way e in
    ap (option_map (λ (i : Instance). i.path)) found.1 ∙ ap Some found.2.path_there

pub parent_of_way : (s : Sources) (d : Design) (made : IsMadeFrom s d) (n : ℕ) (way : Way) → IsWayOf made n way
    → (parent : Option ℕ) × (parent_of d n ≡ Some parent) × IsParentOf made.numbering.ways way parent
parent_of_way s d made n way e =
    let found = inst_of_way s d made n way e in
    (found.0.parent, ap (option_map (λ (i : Instance). i.parent)) found.1, found.2.parent_there)

-- an instance of the design has a way
some_inst : {X : Type 0} (f : Instance → X) (o : Option Instance) (x : X) → option_map f o ≡ Some x → (i : Instance) × (o ≡ Some i) × (f i ≡ x)
some_inst f None x e = cc
some_inst f (Some i) x e = (i, refl, same_Some (f i) x e)

pub way_of_body : (s : Sources) (d : Design) (made : IsMadeFrom s d) (n : ℕ) (body : Body) → body_of d n ≡ Some body
    → (way : Way) × IsWayOf made n way × (body_at s way ≡ Some body)
way_of_body s d made n body e =
    let inst = some_inst (λ (i : Instance). i.body) (slice_get d.insts n) body e in
    let found = way_of_inst s d made n inst.0 inst.1 in
    (found.0, found.1, sym (body_of_way s d made n found.0 found.1) ∙ e)

pub way_of_path : (s : Sources) (d : Design) (made : IsMadeFrom s d) (n : ℕ) (name : List ℕ) → path_of d n ≡ Some name
    → (way : Way) × IsWayOf made n way × (path way ≡ name)
way_of_path s d made n name e =
    let inst = some_inst (λ (i : Instance). i.path) (slice_get d.insts n) name e in
    let found = way_of_inst s d made n inst.0 inst.1 in
    (found.0, found.1, same_Some (path found.0) name (sym (path_of_way s d made n found.0 found.1) ∙ e))

pub way_of_parent : (s : Sources) (d : Design) (made : IsMadeFrom s d) (n : ℕ) (parent : Option ℕ) → parent_of d n ≡ Some parent
    → (way : Way) × IsWayOf made n way × IsParentOf made.numbering.ways way parent
way_of_parent s d made n parent e =
    let inst = some_inst (λ (i : Instance). i.parent) (slice_get d.insts n) parent e in
    let found = way_of_inst s d made n inst.0 inst.1 in
    (found.0, found.1, subst (IsParentOf made.numbering.ways found.0) inst.2 found.2.parent_there)

-- BITS.
pub spot_number : (s : Sources) (d : Design) (made : IsMadeFrom s d) (x : Spot) → IsSpot s x → (n : ℕ) × IsSpotOf made n x
spot_number s d made x there = place_of_member x made.numbering.spots (made.numbering.all_spots.all x there)

pub one_bit_number : (s : Sources) (d : Design) (made : IsMadeFrom s d) (n m : ℕ) (x : Spot) → IsSpotOf made n x → IsSpotOf made m x → n ≡ m
one_bit_number s d made = one_place spot_cmp spot_total made.numbering.spots made.numbering.all_spots.rising

pub one_spot : (s : Sources) (d : Design) (made : IsMadeFrom s d) (n : ℕ) (x y : Spot) → IsSpotOf made n x → IsSpotOf made n y → x ≡ y
one_spot s d made n x y e f = same_Some x y (sym e ∙ f)

pub is_spot : (s : Sources) (d : Design) (made : IsMadeFrom s d) (n : ℕ) (x : Spot) → IsSpotOf made n x → IsSpot s x
is_spot s d made n x e = made.numbering.all_spots.each x (IsIn-slice_get made.numbering.spots n x e)

pub spot_of_bit : (s : Sources) (d : Design) (made : IsMadeFrom s d) (n : ℕ) (b : Bit) → slice_get d.bits n ≡ Some b
    → (x : Spot) × IsSpotOf made n x × IsBitAt s made.numbering.ways made.numbering.spots x b
spot_of_bit s d made = left_of (IsBitAt s made.numbering.ways made.numbering.spots) made.numbering.spots d.bits made.all_bits

pub bit_of_spot : (s : Sources) (d : Design) (made : IsMadeFrom s d) (n : ℕ) (x : Spot) → IsSpotOf made n x
    → (b : Bit) × (slice_get d.bits n ≡ Some b) × IsBitAt s made.numbering.ways made.numbering.spots x b
bit_of_spot s d made = right_of (IsBitAt s made.numbering.ways made.numbering.spots) made.numbering.spots d.bits made.all_bits

-- PORTS of an instance, and what is asked of its port bits.
pub ports_of_way : (s : Sources) (d : Design) (made : IsMadeFrom s d) (n : ℕ) (way : Way) → IsWayOf made n way
    → ports_of d n ≡ option_and_then (ports_in s) (body_at s way)
ports_of_way s d made n way e = ap (option_and_then (ports_among d.modules d.cells d.models)) (body_of_way s d made n way e) ∙ by (body_at s way)
  where
    by : (o : Option Body) → option_and_then (ports_among d.modules d.cells d.models) o ≡ option_and_then (ports_in s) o
    by None = refl
    by (Some body) = same_ports s d made body

-- a port that an instance has by its number
pub has_port : (s : Sources) (way : Way) (port : ℕ) (p : Port) → option_and_then (λ (ports : List Port). slice_get ports port) (option_and_then (ports_in s) (body_at s way)) ≡ Some p
    → HasPortAt s way port p
has_port s way port p e = of_body (body_at s way) refl e
  where
    of_ports : (body : Body) → body_at s way ≡ Some body → (o : Option (List Port)) → ports_in s body ≡ o
        → option_and_then (λ (ports : List Port). slice_get ports port) o ≡ Some p → HasPortAt s way port p
    of_ports body there None none h = cc
    of_ports body there (Some ports) are h = (body, ports, there, are, h)

    of_body : (o : Option Body) → body_at s way ≡ o → option_and_then (λ (ports : List Port). slice_get ports port) (option_and_then (ports_in s) o) ≡ Some p
        → HasPortAt s way port p
    of_body None none h = cc
    of_body (Some body) there h = of_ports body there (ports_in s body) refl h

pub port_of_number : (s : Sources) (d : Design) (made : IsMadeFrom s d) (n : ℕ) (way : Way) (port : ℕ) (p : Port) → IsWayOf made n way
    → port_at d n port ≡ Some p → HasPortAt s way port p
port_of_number s d made n way port p at e =
    has_port s way port p (ap (option_and_then (λ (ports : List Port). slice_get ports port)) (sym (ports_of_way s d made n way at)) ∙ e)

pub number_of_port : (s : Sources) (d : Design) (made : IsMadeFrom s d) (n : ℕ) (way : Way) (port : ℕ) (p : Port) → IsWayOf made n way
    → HasPortAt s way port p → port_at d n port ≡ Some p
number_of_port s d made n way port p at has =
    ap (option_and_then (λ (ports : List Port). slice_get ports port))
    (ports_of_way s d made n way at ∙ ap (option_and_then (ports_in s)) has.2 ∙ has.3) ∙ has.4

-- an instance that has a port has a way
pub way_of_port : (s : Sources) (d : Design) (made : IsMadeFrom s d) (n : ℕ) (port : ℕ) (p : Port) → port_at d n port ≡ Some p
    → (way : Way) × IsWayOf made n way × HasPortAt s way port p
way_of_port s d made n port p e = by (body_of d n) refl e
  where
    by : (o : Option Body) → body_of d n ≡ o
        → option_and_then (λ (ports : List Port). slice_get ports port) (option_and_then (ports_among d.modules d.cells d.models) o) ≡ Some p
        → (way : Way) × IsWayOf made n way × HasPortAt s way port p
    by None none h = cc
    by (Some body) is h =
        let found = way_of_body s d made n body is in
        (found.0, found.1, port_of_number s d made n found.0 port p found.1 e)

pub signal_there : (s : Sources) (d : Design) (made : IsMadeFrom s d) (p : PortBit) (way : Way) → IsWayOf made p.inst way
    → begins_signal d p ≡ begins_signal_at s way p
signal_there s d made p way e = ap (asked_at begins_signal_in d p) (body_of_way s d made p.inst way e) ∙ by (body_at s way)
  where
    by : (o : Option Body) → asked_at begins_signal_in d p o ≡ asked_at begins_signal_in (parts_of s) p o
    by None = refl
    by (Some body) = same_signals s d made body p

pub passing_there : (s : Sources) (d : Design) (made : IsMadeFrom s d) (p : PortBit) (way : Way) → IsWayOf made p.inst way
    → passes_on d p ≡ passes_on_at s way p
passing_there s d made p way e = ap (asked_at passes_on_in d p) (body_of_way s d made p.inst way e) ∙ by (body_at s way)
  where
    by : (o : Option Body) → asked_at passes_on_in d p o ≡ asked_at passes_on_in (parts_of s) p o
    by None = refl
    by (Some body) = same_passing s d made body p
