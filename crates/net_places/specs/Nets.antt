-- The nets of a body, and how its bits are numbered.
use Rattle.std.specs.Prelude.{◌≡◌, ℕ, ◌+◌, ◌<◌, List, Option, Some, map, option_map, option_and_then, take, slice_get}
use Rattle.std.specs.List.{flat_map, range_with_len, sum_by}
use Rattle.std.specs.Ordering.{nat_cmp, on, then_cmp}
use Rattle.std.specs.declared.cmp.Ordering.{Ordering}
use Rattle.pw_defs.specs.declared.design.Body.{Body}
use Rattle.pw_defs.specs.declared.netlist.Module.{Module}
use Rattle.pw_defs.specs.declared.netlist.Port.{Port}
use Rattle.list_defs.specs.Orders.{AreAllRising, name_cmp}
use Rattle.design_defs.specs.Bits.{IsSpot, Spot, port_named, range_in, spot_cmp}
use Rattle.design_defs.specs.Hierarchy.{IsInstance, Sources, Way, body_at, number_named, ports_in, way_cmp}
use Rattle.design_defs.specs.Places.{net_range}
use Rattle.design_defs.specs.Ranges.{width}

-- a net of a module, with its number among the ports where it is one, a pin of a cell, or a port of a model
pub record OwnNet : Type 0 where
  pub name : List ℕ
  pub range : Option (ℕ × ℕ)
  pub port : Option ℕ

-- nets go by their names
abbrev pub net_cmp : OwnNet → OwnNet → Ordering
net_cmp = on (λ (n : OwnNet). n.name) name_cmp

-- what a body owns under a name
abbrev pub own_net : Sources → Body → List ℕ → Option OwnNet
own_net s body name =
    option_map (λ (range : Option (ℕ × ℕ)). record { name = name; range = range; port = option_and_then (number_named (λ (p : Port). p.name) name) (ports_in s body) })
    (range_in s body name)

-- what a module owns under a name
abbrev pub net_in : Module → List ℕ → Option OwnNet
net_in m name =
    option_map (λ (range : Option (ℕ × ℕ)). record { name = name; range = range; port = number_named (λ (p : Port). p.name) name m.ports })
    (net_range m name)

-- what is owned under a name where there are ports alone
abbrev pub net_among : List Port → List ℕ → Option OwnNet
net_among ports name =
    option_map (λ (range : Option (ℕ × ℕ)). record { name = name; range = range; port = number_named (λ (p : Port). p.name) name ports })
    (option_map (λ (p : Port). p.range) (port_named name ports))

-- all that a body owns, rising by name
abbrev pub AreOwnNets : Sources → Body → List OwnNet → Type 0
AreOwnNets s body nets = AreAllRising net_cmp (λ n. own_net s body n.name ≡ Some n) nets

-- how many bits nets have
abbrev pub bit_count : List OwnNet → ℕ
bit_count = sum_by (λ n. width n.range)

-- the number of the first bit of a net among all bits of the nets
abbrev pub first_bit : List OwnNet → ℕ → ℕ
first_bit nets i = bit_count (take i nets)

-- a bit of a body: the name of its net, and its place in it
abbrev pub LocalBit : Type 0
LocalBit = List ℕ × ℕ

-- bits of one body go by the name of the net, then by place
abbrev pub local_cmp : LocalBit → LocalBit → Ordering
local_cmp = then_cmp (on (λ (x : LocalBit). x.0) name_cmp) (on (λ (x : LocalBit). x.1) nat_cmp)

-- the bits of a net, by their places
abbrev pub bit_of : OwnNet → ℕ → LocalBit
bit_of n place = (n.name, place)

abbrev pub bits_of_net : OwnNet → List LocalBit
bits_of_net n = map (bit_of n) (range_with_len 0 (width n.range))

-- all bits of nets; the number of each is its place here
abbrev pub local_bits : List OwnNet → List LocalBit
local_bits = flat_map bits_of_net

-- a body owns the bit
pub record IsLocalBit (s : Sources) (body : Body) (x : LocalBit) : Type 0 where
  pub range : Option (ℕ × ℕ)
  pub is_range : range_in s body x.0 ≡ Some range
  pub within : x.1 < width range

-- all that a body has, in order
abbrev pub AreLocalBits : Sources → Body → List LocalBit → Type 0
AreLocalBits s body bits = AreAllRising local_cmp (IsLocalBit s body) bits

-- the bits of nets, one net after the other, are all bits of a body in order
abbrev pub HasLocalBits : Type 0
HasLocalBits = (s : Sources) (body : Body) (nets : List OwnNet) → AreOwnNets s body nets → AreLocalBits s body (local_bits nets)

-- the number of a bit of a body is that of the first bit of its net, and its place more
abbrev pub HasBitNumbers : Type 0
HasBitNumbers =
    (nets : List OwnNet) (i : ℕ) (n : OwnNet) (place : ℕ) → slice_get nets i ≡ Some n → place < width n.range
    → slice_get (local_bits nets) (first_bit nets i + place) ≡ Some (n.name, place)

-- the bits of a body at the end of a way
abbrev pub spot_of : Way → LocalBit → Spot
spot_of way x = record { way = way; net = x.0; place = x.1 }

abbrev pub spots_of : (Way → List OwnNet) → Way → List Spot
spots_of nets way = map (spot_of way) (local_bits (nets way))

-- the bits of all instances, one instance after the other
abbrev pub all_spots : (Way → List OwnNet) → List Way → List Spot
all_spots nets = flat_map (spots_of nets)

-- The bits of instances, one instance after the other, are all bits of a hierarchy in order.
abbrev pub HasAllSpots : Type 0
HasAllSpots =
    (s : Sources) (nets : Way → List OwnNet) (ways : List Way) → AreAllRising way_cmp (IsInstance s) ways
    → ((way : Way) (body : Body) → body_at s way ≡ Some body → AreOwnNets s body (nets way))
    → AreAllRising spot_cmp (IsSpot s) (all_spots nets ways)

-- the number of a bit of a hierarchy is that of the first bit of its instance, and its number among the bits of the body more
abbrev pub HasSpotNumbers : Type 0
HasSpotNumbers =
    (nets : Way → List OwnNet) (ways : List Way) (i : ℕ) (way : Way) (k : ℕ) (x : LocalBit) → slice_get ways i ≡ Some way → slice_get (local_bits (nets way)) k ≡ Some x
    → slice_get (all_spots nets ways) (sum_by (λ (w : Way). bit_count (nets w)) (take i ways) + k) ≡ Some (spot_of way x)
