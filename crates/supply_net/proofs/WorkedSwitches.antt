-- Switches that were worked out by hand.
use Rattle.std.proofs.Common.{◌≡◌, ℕ, List, [], ◌∷◌, Some, codes, refl}
use Rattle.pw_defs.specs.declared.supplies.SupplyKind.TheVariants.{Net}
use Rattle.pw_defs.specs.declared.supplies.SwitchText.{SwitchText}
use Rattle.supply_defs.specs.Network.{feeder_at}
use Rattle.supply_net.specs.Names.{nothing}
use Rattle.supply_net.specs.Networks.{Network, new_supply}
use Rattle.supply_net.specs.Switches.{absent_input, output_of, taken_name, with_switch}

-- two nets
abbrev nets : Network
nets = record { supplies = new_supply (codes "VA") Net ∷ new_supply (codes "VB") Net ∷ []; sets = 0; objects = nothing }

-- a switch from the second net to the first, whose on states name these inputs
abbrev switch : List (List ℕ × ℕ) → List (List ℕ) → SwitchText
switch inputs on = record { name = codes "SW"; output = (codes "o", 0); inputs = inputs; on = on }

-- its output is supply 2 and feeds the first net, its input is supply 3 and is fed by the second one
pub output_feeds : feeder_at (with_switch nets 0 (switch ((codes "i", 1) ∷ []) (codes "i" ∷ []))).supplies 0 ≡ Some (Some 2)
output_feeds = refl

pub input_fed : feeder_at (with_switch nets 0 (switch ((codes "i", 1) ∷ []) (codes "i" ∷ []))).supplies 3 ≡ Some (Some 1)
input_fed = refl

-- of two inputs an on state names the second
pub one_named : (output_of (switch ((codes "i", 1) ∷ (codes "j", 1) ∷ []) (codes "j" ∷ codes "j" ∷ [])) 2).inputs ≡ 4 ∷ []
one_named = refl

-- an on state names no input
pub none_named : absent_input (switch ((codes "i", 1) ∷ []) (codes "i" ∷ codes "o" ∷ [])) ≡ Some (codes "o")
none_named = refl

-- two ports share a name
pub twice_named : taken_name nets 0 (switch ((codes "i", 1) ∷ (codes "i", 1) ∷ []) []) ≡ Some (codes "SW/i")
twice_named = refl
