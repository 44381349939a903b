-- The first line of a module with an unknown type is the least fault of that kind that the module has.
use Rattle.std.proofs.Common.{◌≡◌, ◌≢◌, ℕ, List, Option, None, Some, refl, sym, ◌∙◌, subst}
use Rattle.std.specs.declared.cmp.Ordering.TheVariants.{Less}
use Rattle.std.proofs.lemmas.Option.{same_Some}
use Rattle.list_defs.specs.Members.{IsIn}
use Rattle.pw_defs.specs.declared.netlist.Inst.{Inst}
use Rattle.pw_defs.specs.declared.netlist.Module.{Module}
use Rattle.design_defs.specs.DesignFaults.{Fault, FaultKind, IsFault, at_line, kind_number}
use Rattle.design_defs.specs.Hierarchy.{IsOfModule, Sources, Way, module_at, module_named, type_of}
use Rattle.net_least.specs.Lines.{IsLeastLine, IsUnknown}
use Rattle.net_least.specs.OwnFaults.{IsFaultIn, IsOwn, line_cmp}
use Rattle.net_least.specs.declared.own.OwnFault.{OwnFault}

-- such a fault is at the line of an instance
record IsAtInst (s : Sources) (f : Fault) : Type 0 where
  pub m : Module
  pub i : Inst
  pub of_module : IsOfModule s f.way f.module_number m
  pub one : IsIn i m.insts
  pub unknown : type_of s i.kind ≡ None
  pub line : f.line ≡ i.line
  pub name : f.name ≡ i.kind

at_inst : (s : Sources) (top : ℕ) → module_named s s.top ≡ Some top → (f : Fault) → IsFault s f → kind_number f.kind ≡ 3 → IsAtInst s f
at_inst s top named _ (IsFault.unknown_type way n m i of_module one type) e =
    record { m = m; i = i; of_module = of_module; one = one; unknown = type; line = refl; name = refl }
at_inst s top named _ (IsFault.no_top missing) e = let never : None ≡ Some top = sym missing ∙ named in cc
at_inst s top named f other e = cc

module _ (s : Sources) (top : ℕ) (named : module_named s s.top ≡ Some top) (symbols : List (List ℕ)) (n : ℕ) (m : Module) (is_module : module_at s n ≡ Some m) where
  record IsLineOf (line : ℕ) (name : List ℕ) : Type 0 where
    pub i : Inst
    pub one : IsIn i m.insts
    pub unknown : type_of s i.kind ≡ None
    pub same_line : line ≡ i.line
    pub same_name : name ≡ i.kind

  line_of : (line : ℕ) (name : List ℕ) → IsFaultIn s FaultKind.unknown_type n line name → IsLineOf line name
  line_of line name fault =
      let at = at_inst s top named (at_line FaultKind.unknown_type fault.way n line name) fault.fault refl in
      let same : at.m ≡ m = same_Some at.m m (sym at.of_module.is_module ∙ is_module) in
      record { i = at.i; one = subst (λ (x : Module). IsIn at.i x.insts) same at.one; unknown = at.unknown; same_line = at.line; same_name = at.name }

  pub own_unknown : (o : Option OwnFault) → IsLeastLine (IsUnknown s) symbols m.insts o → IsOwn s FaultKind.unknown_type symbols n o
  own_unknown None none = λ line name fault. let at = line_of line name fault in none at.i at.one at.unknown
  own_unknown (Some own) first = (first.i.kind, first.name, record { each = each; least = least })
    where
      each : (way : Way) (x : Module) → IsOfModule s way n x → IsFault s (at_line FaultKind.unknown_type way n own.line first.i.kind)
      each way x is =
          let same : m ≡ x = same_Some m x (sym is_module ∙ is.is_module) in
          subst (λ line. IsFault s (at_line FaultKind.unknown_type way n line first.i.kind)) (sym first.line)
          (IsFault.unknown_type way n x first.i is (subst (λ (y : Module). IsIn first.i y.insts) same first.one) first.holds)

      least : (l : ℕ) (x : List ℕ) → IsFaultIn s FaultKind.unknown_type n l x → line_cmp (l, x) (own.line, first.i.kind) ≢ Less
      least l x fault less =
          let at = line_of l x fault in
          first.least at.i at.one at.unknown ((λ q. line_cmp (sym at.same_line q, sym at.same_name q) (sym first.line q, first.i.kind)) ∙ less)
