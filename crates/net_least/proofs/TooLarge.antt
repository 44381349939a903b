-- Of a design without recursion and unknown types, that it is too large is the first fault.
use Rattle.std.proofs.Common.{◌≡◌, ◌≢◌, codes, arith}
use Rattle.std.specs.declared.cmp.Ordering.TheVariants.{Less}
use Rattle.list_defs.specs.Orders.{IsLeast}
use Rattle.design_defs.specs.DesignFaults.{Fault, FaultKind, IsFault, IsTooLarge, at_no_line, fault_cmp, kind_number, HasNoneBefore}
use Rattle.design_defs.specs.Hierarchy.{Sources}
use Rattle.design_defs.proofs.BitOrders.{fault_total}
use Rattle.list_defs.proofs.Rising.{not_before_itself}
use Rattle.net_hierarchy.specs.Ordered.{HasNoneOf}

-- where two kinds have no fault, those behind them come first
pub none_before_size : (s : Sources) → HasNoneBefore FaultKind.recursion s → HasNoneOf s FaultKind.recursion → HasNoneOf s FaultKind.unknown_type
    → HasNoneBefore FaultKind.size s
none_before_size s none recursion unknown f is =
    let le = none f is in
    let not_two = recursion f is in
    let not_three = unknown f is in
    omega arith

module _ (s : Sources) (none : HasNoneBefore FaultKind.size s) where
  pub least_too_large : IsTooLarge s → IsLeast fault_cmp (IsFault s) (at_no_line FaultKind.size (codes "-"))
  least_too_large large = record { holds = IsFault.size large; least = least }
    where
      least : (g : Fault) → IsFault s g → fault_cmp g (at_no_line FaultKind.size (codes "-")) ≢ Less
      least _ (IsFault.module_twice n earlier m other there before lower same) less = let le = none _ (IsFault.module_twice n earlier m other there before lower same) in omega arith
      least _ (IsFault.module_and_cell n c m there cell) less = let le = none _ (IsFault.module_and_cell n c m there cell) in omega arith
      least _ (IsFault.port_mismatch n m model there is_model name ports) less = let le = none _ (IsFault.port_mismatch n m model there is_model name ports) in omega arith
      least _ (IsFault.recursion way n k m i of_module there type upward) less = let le = none _ (IsFault.recursion way n k m i of_module there type upward) in omega arith
      least _ (IsFault.no_top missing) less = let le = none _ (IsFault.no_top missing) in omega arith
      least _ (IsFault.unknown_type way n m i of_module there type) less = let le = none _ (IsFault.unknown_type way n m i of_module there type) in omega arith
      least _ (IsFault.size too_large) less = not_before_itself fault_cmp fault_total (at_no_line FaultKind.size (codes "-")) less
      least f other less = cc

  -- every fault of this kind says that the design is too large
  size_only : (f : Fault) → IsFault s f → kind_number f.kind ≡ 4 → IsTooLarge s
  size_only _ (IsFault.size too_large) e = too_large
  size_only f other e = cc

  pub none_too_large : (IsTooLarge s → ⊥) → HasNoneBefore FaultKind.unknown_port s
  none_too_large fits f is =
      let le = none f is in
      let other : kind_number f.kind ≢ 4 = λ e. fits (size_only f is e) in
      omega arith
