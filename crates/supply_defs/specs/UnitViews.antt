-- Supplies as a unit sees them: where its view ends, roots and sets by roots.
use Rattle.std.specs.Prelude.{ℕ, Bool, true, false, List, [], Option, Some, None, option_map, unwrap_or, filter, slice_get}
use Rattle.pw_defs.specs.declared.intent.SupplySet.{SupplySet}
use Rattle.pw_defs.specs.declared.intent.Unit.{Unit as PowerUnit}
use Rattle.pw_defs.specs.declared.supplies.Supply.{Supply}
use Rattle.pw_defs.specs.declared.supplies.SupplyKind.{SupplyKind}
use Rattle.pw_defs.specs.declared.supplies.SupplyKind.TheVariants.{InPort, Kept}
use Rattle.supply_defs.specs.Network.{IsRoot}

-- the kind of a supply
abbrev pub kind_at : List Supply → ℕ → Option SupplyKind
kind_at supplies n = option_map (λ s. s.kind) (slice_get supplies n)

-- whether it is an `in` port of its unit, or an interface supply of the model that stands for it
abbrev pub is_in_port : Option SupplyKind → Bool
is_in_port (Some InPort) = true
is_in_port (Some Kept) = true
is_in_port _ = false

-- the `in` ports of a unit, in their order
abbrev pub in_ports : List Supply → PowerUnit → List ℕ
in_ports supplies u = filter (λ port. is_in_port (kind_at supplies port)) u.ports

-- where the view from inside a unit ends: at its own `in` ports
abbrev pub view_ends : List Supply → List PowerUnit → ℕ → List ℕ
view_ends supplies units unit = unwrap_or (option_map (in_ports supplies) (slice_get units unit)) []

-- the root of a supply, seen inside a unit
abbrev pub IsRootIn : List Supply → List PowerUnit → ℕ → ℕ → ℕ → Type 0
IsRootIn supplies units unit supply root = IsRoot supplies (view_ends supplies units unit) supply root

-- the root of a ground, where there is one
pub data IsGroundRoot (supplies : List Supply) (stop : List ℕ) : Option ℕ → Option ℕ → Type 0 where
  missing : IsGroundRoot supplies stop None None
  there : (supply root : ℕ) → IsRoot supplies stop supply root → IsGroundRoot supplies stop (Some supply) (Some root)

-- a set has this power and this ground by their roots
pub record HasRoots (supplies : List Supply) (stop : List ℕ) (set roots : SupplySet) : Type 0 where
  pub power_root : IsRoot supplies stop set.power roots.power
  pub ground_root : IsGroundRoot supplies stop set.ground roots.ground

-- Two sets are the same where their powers have one root and their grounds have one root. A missing ground is the same
-- as a missing ground alone.
abbrev pub AreSameSet : List Supply → List ℕ → SupplySet → SupplySet → Type 0
AreSameSet supplies stop s t = (roots : SupplySet) × HasRoots supplies stop s roots × HasRoots supplies stop t roots
