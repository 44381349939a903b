-- The values that a design has at the supply ports of its soft macros, and that the macros don't have.
use Rattle.std.specs.Prelude.{◌≡◌, ◌≢◌, ◌⊎◌, ℕ, suc, zero, not, List, [], Option, Some, None, filter, map}
use Rattle.std.specs.List.{enumerate_from, flat_map, list_any}
use Rattle.std.specs.Ordering.{ordering_then}
use Rattle.std.specs.declared.cmp.Ordering.{Ordering}
use Rattle.pw_defs.specs.Values.{same_value}
use Rattle.pw_defs.specs.declared.design.Design.{Design}
use Rattle.pw_defs.specs.declared.intent.Intent.{Intent}
use Rattle.pw_defs.specs.declared.intent.RootList.{RootList}
use Rattle.pw_defs.specs.declared.intent.Unit.{Unit as PowerUnit}
use Rattle.pw_defs.specs.declared.report.Boundary.{Boundary}
use Rattle.pw_defs.specs.declared.supplies.SupplyKind.TheVariants.{InPort, OutPort}
use Rattle.pw_defs.specs.declared.values.Value.{Value}
use Rattle.list_defs.specs.Members.{IsIn}
use Rattle.list_defs.specs.Orders.{name_cmp, IsPutInOrder}
use Rattle.design_defs.specs.Joined.{path_of}
use Rattle.design_defs.specs.Names.{joined}
use Rattle.supply_defs.specs.UnitViews.{IsRootIn, kind_at}
use Rattle.list_defs.specs.Found.{AreFound}
use Rattle.signoff_defs.specs.Visibility.{supply_name}

-- the values of a supply as a unit sees them: those of its root there
pub record HasValuesIn (i : Intent) (unit supply : ℕ) (values : List Value) : Type 0 where
  pub root : ℕ
  pub is_root : IsRootIn i.supplies i.units unit supply root
  pub list : RootList
  pub listed : IsIn list i.lists
  pub of_unit : list.unit ≡ unit
  pub of_root : list.root ≡ root
  pub values_are : values ≡ list.values

-- a supply port of an outermost soft macro
pub record MacroPort : Type 0 where
  pub unit : ℕ
  pub inst : ℕ
  pub port : ℕ

abbrev pub ports_if_outermost : ℕ → PowerUnit → Option ℕ → List MacroPort
ports_if_outermost n u None = []
ports_if_outermost n u (Some zero) = map (λ port. record { unit = n; inst = u.inst; port = port }) u.ports
ports_if_outermost n u (Some (suc outer)) = []

-- the supply ports of the outermost soft macros, in order of the instances, each in order of declaration
abbrev pub macro_ports : Intent → List MacroPort
macro_ports i = flat_map (λ (e : ℕ × PowerUnit). ports_if_outermost e.0 e.1 e.1.outer) (enumerate_from 0 i.units)

-- the values in the first list that aren't in the second
abbrev pub values_beyond : List Value → List Value → List Value
values_beyond all known = filter (λ v. not (list_any (same_value v) known)) all

-- what the top has at a port and the macro hasn't
pub record IsBeyond (i : Intent) (p : MacroPort) (values : List Value) : Type 0 where
  pub outside : List Value
  pub has_outside : HasValuesIn i 0 p.port outside
  pub inside : List Value
  pub has_inside : HasValuesIn i p.unit p.port inside
  pub beyond : values ≡ values_beyond outside inside

-- an `in` or `out` port
abbrev pub IsSupplyPort : Intent → ℕ → Type 0
IsSupplyPort i port = (kind_at i.supplies port ≡ Some InPort) ⊎ (kind_at i.supplies port ≡ Some OutPort)

-- a port at which the top has values that the macro hasn't
pub record IsBoundary (d : Design) (i : Intent) (p : MacroPort) (b : Boundary) : Type 0 where
  pub is_port : IsSupplyPort i p.port
  pub instance_name : path_of d p.inst ≡ Some b.inst
  pub port_name : joined b.inst b.port ≡ supply_name i p.port
  pub beyond : IsBeyond i p b.values
  pub some : b.values ≢ []

-- a port at which the top has no such value
abbrev pub IsNoBoundary : Intent → MacroPort → Type 0
IsNoBoundary i p = IsSupplyPort i p.port → IsBeyond i p []

-- boundary lines come by instance name, then by port name
abbrev pub boundary_cmp : Boundary → Boundary → Ordering
boundary_cmp a b = ordering_then (name_cmp a.inst b.inst) (name_cmp a.port b.port)

-- the boundary lines of a report
pub record AreBoundaries (d : Design) (i : Intent) (lines : List Boundary) : Type 0 where
  pub found : List Boundary
  pub are_found : AreFound (IsBoundary d i) (IsNoBoundary i) (macro_ports i) found
  pub in_order : IsPutInOrder boundary_cmp found lines
