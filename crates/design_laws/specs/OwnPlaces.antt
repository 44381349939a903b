-- The bits of what an instance is of, by their nets and places, and the bits of the instances in turn.
use Rattle.std.specs.Prelude.{◌≡◌, ℕ, ◌<◌, List, Option, Some, map}
use Rattle.std.specs.List.{flat_map}
use Rattle.std.specs.Ordering.{nat_cmp, on, then_cmp}
use Rattle.std.specs.declared.cmp.Ordering.{Ordering}
use Rattle.pw_defs.specs.declared.design.Body.{Body}
use Rattle.list_defs.specs.Orders.{AreAllRising, name_cmp}
use Rattle.design_defs.specs.Bits.{Spot, range_in}
use Rattle.design_defs.specs.Hierarchy.{Sources, Way}
use Rattle.design_defs.specs.Ranges.{width}

-- bits of a body go by the name of the net, then by place
abbrev pub net_place_cmp : List ℕ × ℕ → List ℕ × ℕ → Ordering
net_place_cmp = then_cmp (on (λ (e : List ℕ × ℕ). e.0) name_cmp) (on (λ (e : List ℕ × ℕ). e.1) nat_cmp)

-- the body owns a net of this name, and the place is within its width
abbrev pub IsOwnPlace : Sources → Body → List ℕ × ℕ → Type 0
IsOwnPlace s body e = (range : Option (ℕ × ℕ)) × (range_in s body e.0 ≡ Some range) × (e.1 < width range)

-- all bits that a body owns, in order
abbrev pub AreOwnPlaces : Sources → Body → List (List ℕ × ℕ) → Type 0
AreOwnPlaces s body places = AreAllRising net_place_cmp (IsOwnPlace s body) places

-- a bit of a body, where an instance of it is at the way
abbrev pub spot_at : Way → List ℕ × ℕ → Spot
spot_at way e = record { way = way; net = e.0; place = e.1 }

-- the bits of the instances in turn
abbrev pub all_spots : (Way → List (List ℕ × ℕ)) → List Way → List Spot
all_spots places ways = flat_map (λ way. map (spot_at way) (places way)) ways
