-- A power switch: the supplies that it makes, and what speaks against it.
use Rattle.std.specs.Prelude.{◌≡◌, ℕ, ◌+◌, not, ◌||◌, List, [], ◌∷◌, ◌++◌, Option, Some, None, Result, Ok, Err, length, map, find, is_some, slice_get, option_map, if◌then◌else◌}
use Rattle.std.specs.List.{list_any}
use Rattle.list_defs.specs.Members.{same_name}
use Rattle.pw_defs.specs.declared.faults.SupplyFault.{SupplyFault}
use Rattle.pw_defs.specs.declared.faults.SupplyFault.TheVariants.{U5, U6, U7, Memory}
use Rattle.pw_defs.specs.declared.supplies.Supply.{Supply}
use Rattle.pw_defs.specs.declared.supplies.SupplyKind.TheVariants.{SwitchIn, SwitchOut}
use Rattle.pw_defs.specs.declared.supplies.SwitchText.{SwitchText}
use Rattle.supply_defs.specs.Network.{IsFedBy, IsUnfed}
use Rattle.supply_net.specs.declared.names.Object.{Object}
use Rattle.supply_net.specs.Names.{scoped, with_object}
use Rattle.supply_net.specs.Networks.{Network, with_supply, with_supplies, with_feeder}

-- a port of a switch is named by switch and port
abbrev pub switch_port : List ℕ → List ℕ → List ℕ
switch_port switch port = switch ++ 47 ∷ port

-- the names of a switch's ports, its output's first
abbrev pub port_names : SwitchText → List (List ℕ)
port_names t = map (λ p. switch_port t.name p.0) (t.output ∷ t.inputs)

-- the names of its inputs alone, as the switch writes them
abbrev pub input_names : List (List ℕ × ℕ) → List (List ℕ)
input_names inputs = map (λ p. p.0) inputs

-- the first name of an on state that no input has
abbrev pub absent_input : SwitchText → Option (List ℕ)
absent_input t = find (λ port. not (list_any (same_name port) (input_names t.inputs))) t.on

-- the first name that stands for something, or that stands before in the list
abbrev pub first_taken : (List ℕ → Option Object) → ℕ → List (List ℕ) → List (List ℕ) → Option (List ℕ)
first_taken objects scope before [] = None
first_taken objects scope before (name ∷ names) =
    if is_some (objects (scoped scope name)) || list_any (same_name name) before then Some name
    else first_taken objects scope (before ++ name ∷ []) names

-- the first name of a switch and its ports that is taken
abbrev pub taken_name : Network → ℕ → SwitchText → Option (List ℕ)
taken_name net scope t = first_taken net.objects scope [] (t.name ∷ port_names t)

-- the numbers of the inputs that an on state names, in their order, where the first input has the number n
abbrev pub named_inputs : List (List ℕ) → ℕ → List (List ℕ × ℕ) → List ℕ
named_inputs on n [] = []
named_inputs on n (p ∷ inputs) = if list_any (same_name p.0) on then n ∷ named_inputs on (n + 1) inputs else named_inputs on (n + 1) inputs

-- the output of a switch, which is a root, as supply n; the inputs have the numbers behind it
abbrev pub output_of : SwitchText → ℕ → Supply
output_of t n = record {
  name = switch_port t.name t.output.0;
  unit = 0;
  kind = SwitchOut;
  feeder = None;
  inputs = named_inputs t.on (n + 1) t.inputs;
  said = [];
}

-- an input of a switch, which is fed by the supply that it is joined to
abbrev pub input_of : List ℕ → List ℕ × ℕ → Supply
input_of switch p = record { name = switch_port switch p.0; unit = 0; kind = SwitchIn; feeder = Some p.1; inputs = []; said = [] }

-- the network with the inputs of a switch, one after the other
abbrev pub with_inputs : Network → ℕ → List ℕ → List (List ℕ × ℕ) → Network
with_inputs net scope switch [] = net
with_inputs net scope switch (p ∷ inputs) = with_inputs (with_supply net scope (input_of switch p)) scope switch inputs

-- the network in which a name stands for a switch
abbrev pub with_switch_name : Network → ℕ → List ℕ → Network
with_switch_name net scope name = record { supplies = net.supplies; sets = net.sets; objects = with_object (scoped scope name) Object.Switch net.objects }

-- the network in which a supply feeds another one
abbrev pub with_link : Network → ℕ → ℕ → Network
with_link net fed by = with_supplies net (with_feeder net.supplies fed by)

-- The network with a switch: its name, its output and its inputs, of which each is a supply more. The output feeds the
-- supply that it is joined to.
abbrev pub with_switch : Network → ℕ → SwitchText → Network
with_switch net scope t =
    with_link (with_inputs (with_supply (with_switch_name net scope t.name) scope (output_of t (length net.supplies))) scope t.name t.inputs)
    t.output.1 (length net.supplies)

-- nothing speaks against a switch: each name of an on state is an input's, no name is taken, and the output's supply is unfed
pub record IsSoundSwitch (net : Network) (scope : ℕ) (t : SwitchText) : Type 0 where
  pub inputs_there : absent_input t ≡ None
  pub names_free : taken_name net scope t ≡ None
  pub unfed : IsUnfed net.supplies t.output.1

-- the output of the switch would give its supply, of this name, a second feeder
pub record FeedsAgain (net : Network) (t : SwitchText) (shown : List ℕ) : Type 0 where
  pub by : ℕ
  pub fed : IsFedBy net.supplies t.output.1 by
  pub named : option_map (λ s. s.name) (slice_get net.supplies t.output.1) ≡ Some shown

-- The first that speaks against a switch: a name of an on state that no input has, a name that is taken, or the second
-- feeder of a supply. Want of memory is free.
abbrev pub IsSwitchFault : Network → ℕ → SwitchText → SupplyFault → Type 0
IsSwitchFault net scope t (U7 shown) = absent_input t ≡ Some shown
IsSwitchFault net scope t (U5 shown) = (absent_input t ≡ None) × (taken_name net scope t ≡ Some shown)
IsSwitchFault net scope t (U6 shown) = (absent_input t ≡ None) × (taken_name net scope t ≡ None) × FeedsAgain net t shown
IsSwitchFault net scope t Memory = Unit {0}

-- A switch is made, where nothing speaks against it, and its output's number is given; or the first that speaks against
-- it is shown, and nothing changes. What want of memory leaves is free.
abbrev pub MakesSwitch : Network → ℕ → SwitchText → Network → Result ℕ SupplyFault → Type 0
MakesSwitch old scope t new (Ok n) = IsSoundSwitch old scope t × (n ≡ length old.supplies) × (new ≡ with_switch old scope t)
MakesSwitch old scope t new (Err (U7 shown)) = (absent_input t ≡ Some shown) × (new ≡ old)
MakesSwitch old scope t new (Err (U5 shown)) = (absent_input t ≡ None) × (taken_name old scope t ≡ Some shown) × (new ≡ old)
MakesSwitch old scope t new (Err (U6 shown)) = (absent_input t ≡ None) × (taken_name old scope t ≡ None) × FeedsAgain old t shown × (new ≡ old)
MakesSwitch old scope t new (Err Memory) = Unit {0}

-- a name of an on state that no input has
abbrev pub IsAbsentInput : SwitchText → SupplyFault → Type 0
IsAbsentInput t (U7 shown) = absent_input t ≡ Some shown
IsAbsentInput t (U5 shown) = ⊥
IsAbsentInput t (U6 shown) = ⊥
IsAbsentInput t Memory = Unit {0}

-- the first of some names that is taken
abbrev pub IsFirstTaken : (List ℕ → Option Object) → ℕ → List (List ℕ) → SupplyFault → Type 0
IsFirstTaken objects scope names (U5 shown) = first_taken objects scope [] names ≡ Some shown
IsFirstTaken objects scope names (U6 shown) = ⊥
IsFirstTaken objects scope names (U7 shown) = ⊥
IsFirstTaken objects scope names Memory = Unit {0}
