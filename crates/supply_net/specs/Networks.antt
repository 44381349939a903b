-- A network that is being made, and what each call makes of it.
use Rattle.std.specs.Prelude.{◌≡◌, ◌≢◌, ℕ, ◌+◌, Bool, true, false, not, List, [], ◌∷◌, ◌++◌, Option, Some, None, Result, Ok, Err, length, set, slice_get, option_map, is_some, if◌then◌else◌}
use Rattle.pw_defs.specs.declared.cells.Dir.{Dir}
use Rattle.pw_defs.specs.declared.cells.Dir.TheVariants.{Input, Output}
use Rattle.pw_defs.specs.declared.faults.SupplyFault.{SupplyFault}
use Rattle.pw_defs.specs.declared.faults.SupplyFault.TheVariants.{U5, U6, U7, Memory}
use Rattle.pw_defs.specs.declared.supplies.Supply.{Supply}
use Rattle.pw_defs.specs.declared.supplies.SupplyKind.{SupplyKind}
use Rattle.pw_defs.specs.declared.supplies.SupplyKind.TheVariants.{InPort, OutPort, Net}
use Rattle.supply_defs.specs.Network.{IsFedBy, IsUnfed, FeedersLead}
use Rattle.supply_defs.specs.UnitViews.{kind_at}
use Rattle.supply_net.specs.declared.names.Object.{Object}
use Rattle.supply_net.specs.Names.{scoped, with_object}

-- The supplies by number, how many sets there are, and what each name stands for.
pub record Network : Type 0 where
  pub supplies : List Supply
  pub sets : ℕ
  pub objects : List ℕ → Option Object

-- a supply as it is made
abbrev pub new_supply : List ℕ → SupplyKind → Supply
new_supply name kind = record { name = name; unit = 0; kind = kind; feeder = None; inputs = []; said = [] }

-- the network with one supply more, under its name in a scope
abbrev pub with_supply : Network → ℕ → Supply → Network
with_supply net scope s = record {
  supplies = net.supplies ++ s ∷ [];
  sets = net.sets;
  objects = with_object (scoped scope s.name) (Object.Supply (length net.supplies)) net.objects;
}

-- the supplies, of which one is changed
abbrev pub changed_at : List Supply → ℕ → (Supply → Supply) → Option Supply → List Supply
changed_at supplies n change None = supplies
changed_at supplies n change (Some s) = set supplies n (change s)

abbrev pub of_kind : SupplyKind → Supply → Supply
of_kind kind s = record s { kind = kind }

abbrev pub fed_by : ℕ → Supply → Supply
fed_by by s = record s { feeder = Some by }

-- the supplies, of which one is of this kind
abbrev pub with_kind : List Supply → ℕ → SupplyKind → List Supply
with_kind supplies n kind = changed_at supplies n (of_kind kind) (slice_get supplies n)

-- the supplies, of which one has this feeder
abbrev pub with_feeder : List Supply → ℕ → ℕ → List Supply
with_feeder supplies fed by = changed_at supplies fed (fed_by by) (slice_get supplies fed)

abbrev pub with_supplies : Network → List Supply → Network
with_supplies net supplies = record net { supplies = supplies }

abbrev pub port_kind : Dir → SupplyKind
port_kind Input = InPort
port_kind Output = OutPort

-- a net may become a port, unless it has a feeder and the port is an input
abbrev pub may_become : Dir → Supply → Bool
may_become dir s = elim s.kind as (λ k. Bool) [ Net ↦ elim dir as (λ d. Bool) [ Input ↦ not (is_some s.feeder) | Output ↦ true ] | _ ↦ false ]

-- whether it is a supply port or a supply net
abbrev pub is_port_or_net : SupplyKind → Bool
is_port_or_net InPort = true
is_port_or_net OutPort = true
is_port_or_net Net = true
is_port_or_net _ = false

abbrev pub may_turn : Dir → Option Supply → Bool
may_turn dir None = false
may_turn dir (Some s) = may_become dir s

-- the net that a name stands for and that may become a port
abbrev pub net_to_turn : List Supply → Dir → Object → Option ℕ
net_to_turn supplies dir (Object.Supply n) = if may_turn dir (slice_get supplies n) then Some n else None
net_to_turn supplies dir Object.Set = None
net_to_turn supplies dir Object.Switch = None

abbrev pub after_port_at : Network → ℕ → List ℕ → Dir → Option Object → Option (ℕ × Network)
after_port_at net scope name dir None = Some (length net.supplies, with_supply net scope (new_supply name (port_kind dir)))
after_port_at net scope name dir (Some o) =
    option_map (λ n. (n, with_supplies net (with_kind net.supplies n (port_kind dir)))) (net_to_turn net.supplies dir o)

-- A supply port: its number and the network with it. It is a new supply, or the net of its name becomes a port; there
-- is none where the name stands for anything else, or for a net with a feeder and the port is an input.
abbrev pub after_port : Network → ℕ → List ℕ → Dir → Option (ℕ × Network)
after_port net scope name dir = after_port_at net scope name dir (net.objects (scoped scope name))

abbrev pub may_stay : Option Supply → Bool
may_stay None = false
may_stay (Some s) = is_port_or_net s.kind

-- the supply port or net that a name stands for
abbrev pub net_to_keep : List Supply → Object → Option ℕ
net_to_keep supplies (Object.Supply n) = if may_stay (slice_get supplies n) then Some n else None
net_to_keep supplies Object.Set = None
net_to_keep supplies Object.Switch = None

abbrev pub after_net_at : Network → ℕ → List ℕ → Option Object → Option (ℕ × Network)
after_net_at net scope name None = Some (length net.supplies, with_supply net scope (new_supply name Net))
after_net_at net scope name (Some o) = option_map (λ n. (n, net)) (net_to_keep net.supplies o)

-- A supply net: its number and the network with it. It is a new supply, or the supply port or net of its name.
abbrev pub after_net : Network → ℕ → List ℕ → Option (ℕ × Network)
after_net net scope name = after_net_at net scope name (net.objects (scoped scope name))

-- the network with one set more, under its name in a scope
abbrev pub with_set : Network → ℕ → List ℕ → Network
with_set net scope name = record { supplies = net.supplies; sets = net.sets + 1; objects = with_object (scoped scope name) Object.Set net.objects }

abbrev pub after_set_at : Network → ℕ → List ℕ → Option Object → Option (ℕ × Network)
after_set_at net scope name None = Some (net.sets, with_set net scope name)
after_set_at net scope name (Some _) = None

-- a supply set: its number and the network with it, where its name stands for nothing
abbrev pub after_set : Network → ℕ → List ℕ → Option (ℕ × Network)
after_set net scope name = after_set_at net scope name (net.objects (scoped scope name))

-- A call gives the number and the network that are made, or says which name is there already. A refusal and want of
-- memory change nothing.
abbrev pub Makes : Option (ℕ × Network) → List ℕ → Network → Network → Result ℕ SupplyFault → Type 0
Makes made name old new (Ok n) = made ≡ Some (n, new)
Makes made name old new (Err (U5 shown)) = (made ≡ None) × (shown ≡ name) × (new ≡ old)
Makes made name old new (Err (U6 shown)) = ⊥
Makes made name old new (Err (U7 shown)) = ⊥
Makes made name old new (Err Memory) = new ≡ old

-- the refusal of a name that is there already, or want of memory
abbrev pub IsTaken : List ℕ → SupplyFault → Type 0
IsTaken name (U5 shown) = shown ≡ name
IsTaken name (U6 shown) = ⊥
IsTaken name (U7 shown) = ⊥
IsTaken name Memory = Unit {0}

-- a supply port
abbrev pub is_port : Option SupplyKind → Bool
is_port (Some InPort) = true
is_port (Some OutPort) = true
is_port _ = false

-- Whether a supply port feeds the net that it is joined to: an `in` port of the scope does, and an `out` port further in.
abbrev pub feeds_net : Option SupplyKind → Bool → Bool
feeds_net (Some InPort) inner = not inner
feeds_net (Some OutPort) inner = inner
feeds_net _ inner = false

-- which supply a joining feeds, and by which
abbrev pub joining : List Supply → ℕ → ℕ → Bool → ℕ × ℕ
joining supplies net port inner = if feeds_net (kind_at supplies port) inner then (net, port) else (port, net)

-- A supply is joined to what feeds it: that does nothing where both are one or it has this feeder, and gives it the
-- feeder where it has none and no ring comes of it.
pub data IsJoined (fed by : ℕ) (old new : Network) : Type 0 where
  itself : fed ≡ by → new ≡ old → IsJoined fed by old new
  again : IsFedBy old.supplies fed by → new ≡ old → IsJoined fed by old new
  linked : fed ≢ by → IsUnfed old.supplies fed → ¬ FeedersLead old.supplies by fed
      → new ≡ with_supplies old (with_feeder old.supplies fed by) → IsJoined fed by old new

-- a joining that would give a supply a second feeder, or make a ring
pub data IsRefused (supplies : List Supply) (fed by : ℕ) : Type 0 where
  second : (other : ℕ) → fed ≢ by → IsFedBy supplies fed other → other ≢ by → IsRefused supplies fed by
  ring : fed ≢ by → ¬ IsFedBy supplies fed by → FeedersLead supplies by fed → IsRefused supplies fed by

-- the refusal of a joining that would feed a supply, or want of memory
abbrev pub IsRefusalOf : List Supply → ℕ → SupplyFault → Type 0
IsRefusalOf supplies fed (U5 shown) = ⊥
IsRefusalOf supplies fed (U6 shown) = option_map (λ s. s.name) (slice_get supplies fed) ≡ Some shown
IsRefusalOf supplies fed (U7 shown) = ⊥
IsRefusalOf supplies fed Memory = Unit {0}

-- A joining is made, or the name of the supply says that it would get a second feeder or make a ring.
abbrev pub Joins : ℕ → ℕ → Network → Network → Result (Unit {0}) SupplyFault → Type 0
Joins fed by old new (Ok u) = IsJoined fed by old new
Joins fed by old new (Err (U5 shown)) = ⊥
Joins fed by old new (Err (U6 shown)) = IsRefused old.supplies fed by × (option_map (λ s. s.name) (slice_get old.supplies fed) ≡ Some shown) × (new ≡ old)
Joins fed by old new (Err (U7 shown)) = ⊥
Joins fed by old new (Err Memory) = new ≡ old
