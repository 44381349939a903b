-- Where no module has the name of the top, nothing is below it, and its name is the first fault.
use Rattle.std.proofs.Common.{◌≡◌, ◌≢◌, ℕ, [], ◌∷◌, None, Some, option_map, option_and_then, sym, ap, ◌∙◌, arith}
use Rattle.std.specs.declared.cmp.Ordering.TheVariants.{Less}
use Rattle.list_defs.specs.Orders.{IsLeast}
use Rattle.pw_defs.specs.declared.design.Body.TheVariants.{Module as ModuleBody}
use Rattle.pw_defs.specs.declared.netlist.Module.{Module}
use Rattle.design_defs.specs.DesignFaults.{Fault, FaultKind, IsFault, at_no_line, fault_cmp, HasNoneBefore}
use Rattle.design_defs.specs.Hierarchy.{IsOfModule, Sources, Way, body_at, body_inside, module_named}
use Rattle.design_defs.proofs.BitOrders.{fault_total}
use Rattle.list_defs.proofs.Rising.{not_before_itself}

module _ (s : Sources) (none : module_named s s.top ≡ None) where
  no_body : (way : Way) → body_at s way ≡ None
  no_body [] = ap (option_map ModuleBody) none
  no_body (name ∷ outer) = ap (option_and_then (body_inside s name)) (no_body outer)

  no_module : (way : Way) (n : ℕ) (m : Module) → IsOfModule s way n m → ⊥
  no_module way n m is = let never : None ≡ Some (ModuleBody n) = sym (no_body way) ∙ is.body in cc

  pub least_no_top : HasNoneBefore FaultKind.recursion s → IsLeast fault_cmp (IsFault s) (at_no_line FaultKind.unknown_type s.top)
  least_no_top none_before = record { holds = IsFault.no_top none; least = least }
    where
      least : (g : Fault) → IsFault s g → fault_cmp g (at_no_line FaultKind.unknown_type s.top) ≢ Less
      least _ (IsFault.module_twice n earlier m other there before lower same) less = let le = none_before _ (IsFault.module_twice n earlier m other there before lower same) in omega arith
      least _ (IsFault.module_and_cell n c m there cell) less = let le = none_before _ (IsFault.module_and_cell n c m there cell) in omega arith
      least _ (IsFault.port_mismatch n m model there is_model name ports) less = let le = none_before _ (IsFault.port_mismatch n m model there is_model name ports) in omega arith
      least _ (IsFault.recursion way n k m i of_module there type upward) less = no_module way n m of_module
      least _ (IsFault.no_top missing) less = not_before_itself fault_cmp fault_total (at_no_line FaultKind.unknown_type s.top) less
      least _ (IsFault.unknown_type way n m i of_module there type) less = no_module way n m of_module
      least f other less = cc
