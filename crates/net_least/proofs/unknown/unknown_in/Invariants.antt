use Rattle.std.proofs.Common.{◌≡◌, ◌<◌, ℕ, Option, Some, length, slice_get}
use Rattle.pw_defs.specs.declared.netlist.Module.{Module}
use Rattle.design_defs.specs.DesignFaults.{FaultKind}
use Rattle.design_defs.specs.Hierarchy.{Sources, module_at, module_named}
use Rattle.net_hierarchy.specs.Graph.{types_of}
use Rattle.net_least.specs.OwnFaults.{IsOwn}
use Rattle.net_least.specs.declared.own.OwnFault.{OwnFault}
use Rattle.net_least.proofs.unknown.unknown_in.Given as goal

abbrev pub invariant-loop-holder : goal.invariant-loop-holder
invariant-loop-holder l = record {
  count : length l.own.items ≡ l.holder;
  own : (s : Sources) → (top : ℕ) → s.modules ≡ l.modules.modules → l.types ≡ types_of s → module_named s s.top ≡ Some top → (n : ℕ) (m : Module) → module_at s n ≡ Some m → n < l.holder
      → (o : Option OwnFault) × (slice_get l.own.items n ≡ Some o) × IsOwn s FaultKind.unknown_type l.modules.symbols n o;
}
