-- An instance of a type that no file has: the first fault is at its line, with the name of the type.
use Rattle.std.proofs.Common.{◌≡◌, ◌≢◌, ℕ, zero, suc, [], ◌∷◌, Some, None, ◌⊎◌, inl, inr, refl, sym, ap, ◌∙◌, subst, arith}
use Rattle.std.specs.Prelude.{codes}
use Rattle.std.specs.declared.cmp.Ordering.TheVariants.{Less}
use Rattle.pw_defs.specs.declared.cells.Dir.TheVariants.{Input}
use Rattle.pw_defs.specs.declared.design.Body.{Body}
use Rattle.pw_defs.specs.declared.design.Body.TheVariants.{Module as ModuleBody}
use Rattle.pw_defs.specs.declared.faults.DesignFault.TheVariants.{N5}
use Rattle.pw_defs.specs.declared.netlist.Inst.{Inst}
use Rattle.pw_defs.specs.declared.netlist.Module.{Module}
use Rattle.worked_jobs.specs.Libraries.{library}
use Rattle.list_defs.specs.Members.{IsIn}
use Rattle.design_defs.specs.DesignFaults.{Fault, FaultKind, HasDesignFault, IsFault, at_line, fault_cmp, sources}
use Rattle.design_defs.specs.Hierarchy.{IsOfModule, Sources, Way, body_at, module_at, type_of}
use Rattle.design_defs.proofs.BitOrders.{fault_total}
use Rattle.design_defs.proofs.Lookups.{at_outer}
use Rattle.list_defs.proofs.Rising.{not_before_itself}

abbrev gate : Inst
gate = record { kind = codes "NAND"; name = codes "g"; conns = []; line = 2 }

abbrev top : Module
top = record { name = codes "top"; ports = record { name = codes "x"; dir = Input; range = None } ∷ []; nets = []; assigns = []; insts = gate ∷ []; line = 1 }

abbrev s : Sources
s = sources (top ∷ []) library [] (codes "top")

one_module : (n : ℕ) (m : Module) → module_at s n ≡ Some m → (n ≡ 0) × (m ≡ top)
one_module zero m e = (refl, cc)
one_module (suc n) m e = cc

module_body : (n m : ℕ) → ModuleBody n ≡ ModuleBody m → n ≡ m
module_body n m e = cc

-- the type isn't there
no_type : (i : Inst) → IsIn i (gate ∷ []) → type_of s i.kind ≡ None
no_type i (inl e) = ap (λ (j : Inst). type_of s j.kind) e
no_type i (inr never) = absurd never

only_top : (w : Way) (b : Body) → body_at s w ≡ Some b → (w ≡ []) × (b ≡ ModuleBody 0)
only_top [] b e = (refl, cc)
only_top (name ∷ outer) b e =
    let out = at_outer s name outer b e in
    let in_top = only_top outer out.0 out.1 in
    let number : out.2.number ≡ 0 = module_body out.2.number 0 (sym out.2.is_outer ∙ in_top.1) in
    let held = one_module out.2.number out.2.of_module out.2.is_module in
    let none = no_type out.2.inst (subst (λ (m : Module). IsIn out.2.inst m.insts) held.1 out.2.is_line) in
    let some = out.2.is_type in
    cc

the_module : (w : Way) (n : ℕ) (m : Module) → IsOfModule s w n m → (w ≡ []) × (n ≡ 0) × (m ≡ top)
the_module w n m of_module =
    let in_top = only_top w (ModuleBody n) of_module.body in
    let held = one_module n m of_module.is_module in
    (in_top.0, held.0, held.1)

abbrev the_fault : Fault
the_fault = at_line FaultKind.unknown_type [] 0 2 (codes "NAND")

the_gate : (m : Module) (i : Inst) → m ≡ top → IsIn i m.insts → i ≡ gate
the_gate m i same there = by (subst (λ (x : Module). IsIn i x.insts) same there)
  where
    by : (i ≡ gate) ⊎ ⊥ → i ≡ gate
    by (inl e) = e
    by (inr never) = absurd never

none_before : (f : Fault) → IsFault s f → fault_cmp f the_fault ≢ Less
none_before _ (IsFault.module_twice n earlier m other there before lower same) less = let held = one_module n m there in omega arith
none_before _ (IsFault.module_and_cell n c m there cell) less = let held = one_module n m there in cc
none_before _ (IsFault.port_mismatch n m model there is_model name ports) less = is_model
none_before _ (IsFault.recursion way n k m i of_module there type upward) less =
    let held = the_module way n m of_module in
    let none = no_type i (subst (λ (x : Module). IsIn i x.insts) held.2 there) in
    cc
none_before _ (IsFault.no_top none) less = cc
none_before _ (IsFault.unknown_type way n m i of_module there none) less =
    let held = the_module way n m of_module in
    let inst = the_gate m i held.2 there in
    let lines : i.line ≡ 2 = ap (λ (j : Inst). j.line) inst in
    let kinds : i.kind ≡ codes "NAND" = ap (λ (j : Inst). j.kind) inst in
    let same : at_line FaultKind.unknown_type way n i.line i.kind ≡ the_fault = λ k. at_line FaultKind.unknown_type (held.0 k) (held.1 k) (lines k)
    (kinds k) in
    not_before_itself fault_cmp fault_total the_fault (subst (λ g. fault_cmp g the_fault ≡ Less) same less)
none_before f other less = cc

-- The netlist has N5 in its first module at line 2, with the name of the type.
pub unknown_type_is_found : HasDesignFault (top ∷ []) library [] (codes "top") (N5 (record { «module» = 0; line = 2; name = codes "NAND" }))
unknown_type_is_found = (
  the_fault,
  record { holds = IsFault.unknown_type [] 0 top gate (record { body = refl; is_module = refl }) (inl refl) refl; least = none_before },
  refl,
)
