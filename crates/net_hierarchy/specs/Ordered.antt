-- What an order of the modules below a top says of the faults of a design.
use Rattle.std.specs.Prelude.{◌≡◌, ◌≢◌, ℕ}
use Rattle.design_defs.specs.DesignFaults.{Fault, FaultKind, IsFault, kind_number}
use Rattle.design_defs.specs.Hierarchy.{Sources}
use Rattle.net_hierarchy.specs.Graph.{IsOrder, types_of}
use Rattle.net_hierarchy.specs.declared.hierarchy.Sorted.{Sorted}
use Rattle.net_hierarchy.specs.declared.hierarchy.Sorted.TheVariants.{Modules, Recursive, Unknown}

-- a fault of a kind
pub record HasFaultOf (s : Sources) (kind : FaultKind) : Type 0 where
  pub f : Fault
  pub is : IsFault s f
  pub same : f.kind ≡ kind

-- no fault of a kind
abbrev pub HasNoneOf : Sources → FaultKind → Type 0
HasNoneOf s kind = (f : Fault) → IsFault s f → kind_number f.kind ≢ kind_number kind

-- what each answer says
abbrev pub IsSorted : Sources → ℕ → Sorted → Type 0
IsSorted s top Recursive = HasFaultOf s FaultKind.recursion
IsSorted s top (Unknown order) = HasNoneOf s FaultKind.recursion × HasFaultOf s FaultKind.unknown_type × IsOrder (types_of s) top order.items
IsSorted s top (Modules order) = HasNoneOf s FaultKind.recursion × HasNoneOf s FaultKind.unknown_type × IsOrder (types_of s) top order.items
