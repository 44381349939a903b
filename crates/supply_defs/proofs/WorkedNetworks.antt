-- Small networks that were worked out by hand, for the facts that show that no definition is empty.
use Rattle.std.proofs.Common.{ℕ, List, [], ◌∷◌, Option, Some, None}
use Rattle.std.specs.Prelude.{codes}
use Rattle.pw_defs.specs.declared.intent.Unit.{Unit as PowerUnit}
use Rattle.pw_defs.specs.declared.supplies.Said.{Said}
use Rattle.pw_defs.specs.declared.supplies.Supply.{Supply}
use Rattle.pw_defs.specs.declared.supplies.SupplyKind.{SupplyKind}
use Rattle.pw_defs.specs.declared.supplies.SupplyKind.TheVariants.{InPort, OutPort, Net, SwitchIn, SwitchOut}
use Rattle.pw_defs.specs.declared.values.Value.{Value}
use Rattle.pw_defs.specs.declared.values.Value.TheVariants.{Off, On}

-- a supply of a unit without switch
abbrev pub plain : List ℕ → ℕ → SupplyKind → Option ℕ → List Said → Supply
plain name unit kind feeder said = record { name = name; unit = unit; kind = kind; feeder = feeder; inputs = []; said = said }

-- a line of the unit mentions the value
abbrev pub says : ℕ → Value → Said
says unit value = record { unit = unit; value = value }

-- a job without soft macro
abbrev pub one_unit : List PowerUnit
one_unit = record { inst = 0; outer = None; passed = 0; ports = []; exports = [] } ∷ []

-- 0: VA, behind the switch; 1: VB, at 0.8 V; 2: SW/i, fed by VB; 3: SW/o, whose on state names SW/i
abbrev pub switched : List Supply
switched =
    plain (codes "VA") 0 Net (Some 3) []
    ∷ plain (codes "VB") 0 Net None (says 0 (On 800000) ∷ [])
    ∷ plain (codes "SW/i") 0 SwitchIn (Some 1) []
    ∷ record { name = codes "SW/o"; unit = 0; kind = SwitchOut; feeder = None; inputs = 2 ∷ []; said = [] } ∷ []

-- two switches, each of which has the other one's output as its input, and nothing else is said
abbrev pub switch_ring : List Supply
switch_ring =
    plain (codes "A/i") 0 SwitchIn (Some 3) []
    ∷ record { name = codes "A/o"; unit = 0; kind = SwitchOut; feeder = None; inputs = 0 ∷ []; said = [] }
    ∷ plain (codes "B/i") 0 SwitchIn (Some 1) []
    ∷ record { name = codes "B/o"; unit = 0; kind = SwitchOut; feeder = None; inputs = 2 ∷ []; said = [] } ∷ []

-- two nets on which no port stands: one is said to be off, and nothing is said on the other one
abbrev pub quiet : List Supply
quiet = plain (codes "V") 0 Net None (says 0 Off ∷ []) ∷ plain (codes "W") 0 Net None [] ∷ []

-- two nets that feed one another
abbrev pub net_ring : List Supply
net_ring = plain (codes "V") 0 Net (Some 1) [] ∷ plain (codes "W") 0 Net (Some 0) [] ∷ []

-- the top, and a soft macro in it with the `in` port 1 and the `out` port 2
abbrev pub two_units : List PowerUnit
two_units =
    record { inst = 0; outer = None; passed = 0; ports = []; exports = [] }
    ∷ record { inst = 1; outer = Some 0; passed = 0; ports = 1 ∷ 2 ∷ []; exports = [] } ∷ []

-- 0: V in the top; 1: m/V, an `in` port fed by V, at 0.9 V by the macro's line; 2: m/Q, an `out` port fed by m/V
abbrev pub with_macro : List Supply
with_macro =
    plain (codes "V") 0 Net None (says 0 (On 800000) ∷ [])
    ∷ plain (codes "m/V") 1 InPort (Some 0) (says 1 (On 900000) ∷ [])
    ∷ plain (codes "m/Q") 1 OutPort (Some 1) [] ∷ []
