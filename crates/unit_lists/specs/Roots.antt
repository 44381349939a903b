-- Roots that were found, of supplies as units see them.
use Rattle.std.specs.Prelude.{◌≡◌, ℕ, ◌⊎◌, List, Some, filter, IsSome}
use Rattle.std.specs.BTreeMap.{BTreeMap, get}
use Rattle.pw_defs.specs.declared.intent.Unit.{Unit as PowerUnit}
use Rattle.pw_defs.specs.declared.supplies.Supply.{Supply}
use Rattle.list_defs.specs.Members.{IsIn}
use Rattle.supply_defs.specs.UnitViews.{IsRootIn, is_in_port, kind_at, view_ends}
use Rattle.unit_lists.specs.Views.{view_cmp}
use Rattle.unit_lists.specs.declared.views.View.{View}

-- what is kept of a supply as a unit sees it is its root there, and each end of a unit's view is kept
pub record AreRoots (supplies : List Supply) (units : List PowerUnit) (roots : BTreeMap View ℕ) : Type 0 where
  pub each : (a : View) (root : ℕ) → get view_cmp roots a ≡ Some root → IsRootIn supplies units a.unit a.supply root
  pub ends : (a : View) → IsIn a.supply (view_ends supplies units a.unit) → IsSome (get view_cmp roots a)

-- whatever the units are: where roots are kept, this is the root of the supply in the unit
abbrev pub IsRootBy : List Supply → BTreeMap View ℕ → View → ℕ → Type 0
IsRootBy supplies roots view root = (units : List PowerUnit) → AreRoots supplies units roots → IsRootIn supplies units view.unit view.supply root

-- where this is the root of the supply in the unit, roots are kept as before
abbrev pub KeepsRoot : List Supply → BTreeMap View ℕ → BTreeMap View ℕ → View → ℕ → Type 0
KeepsRoot supplies old new view root = (units : List PowerUnit) → AreRoots supplies units old
    → IsRootIn supplies units view.unit view.supply root → AreRoots supplies units new

-- the `in` ports among some supplies
abbrev pub in_ports_of : List Supply → List ℕ → List ℕ
in_ports_of supplies ports = filter (λ port. is_in_port (kind_at supplies port)) ports

-- the `in` ports among some ports of a unit are kept as their own roots, and nothing else is new
pub record AddsEnds (supplies : List Supply) (old new : BTreeMap View ℕ) (unit : ℕ) (ports : List ℕ) : Type 0 where
  pub kept : (a : View) → IsSome (get view_cmp old a) → IsSome (get view_cmp new a)
  pub each : (a : View) (root : ℕ) → get view_cmp new a ≡ Some root
      → (get view_cmp old a ≡ Some root) ⊎ ((a.unit ≡ unit) × (a.supply ≡ root) × IsIn root (in_ports_of supplies ports))
  pub ends : (port : ℕ) → IsIn port (in_ports_of supplies ports) → IsSome (get view_cmp new (record { unit = unit; supply = port }))
