-- The recursion at the end of the walk down is the first fault.
use Rattle.std.proofs.Common.{◌≡◌, ◌≢◌, ℕ, Bool, List, [], Some, inl, inr, refl, sym, ap, ◌∙◌, subst}
use Rattle.std.specs.declared.cmp.Ordering.TheVariants.{Less}
use Rattle.std.proofs.lemmas.Option.{same_Some}
use Rattle.list_defs.specs.Members.{IsIn}
use Rattle.list_defs.specs.Orders.{IsLeast}
use Rattle.pw_defs.specs.declared.design.Body.TheVariants.{Module as ModuleBody}
use Rattle.pw_defs.specs.declared.netlist.Inst.{Inst}
use Rattle.pw_defs.specs.declared.netlist.Module.{Module}
use Rattle.design_defs.specs.DesignFaults.{Fault, FaultKind, IsAtOrAbove, IsFault, at_line, fault_cmp, kind_number, HasNoneBefore}
use Rattle.design_defs.specs.Hierarchy.{IsOfModule, Sources, Way, module_at, type_of, way_cmp, AreNamedInsts}
use Rattle.net_hierarchy.specs.Graph.{AreInstsApart}
use Rattle.net_hierarchy.proofs.NoneBefore.{later_kind, same_or_less}
use Rattle.net_hierarchy.proofs.Ways.{holds_by}
use Rattle.net_least.specs.Links.{AreNamed}
use Rattle.net_least.specs.Lines.{IsFirstLine}
use Rattle.net_least.specs.OwnFaults.{line_cmp}
use Rattle.net_least.specs.Recursion.{IsBegun, IsClosing, IsOfMarked}
use Rattle.net_least.specs.declared.own.OwnFault.{OwnFault}
use Rattle.net_least.proofs.Descents.{named_at, not_before_front}
use Rattle.net_least.proofs.OwnFirst.{not_before_at}

-- a fault of this kind is at a line of the module of a way that closes
record IsRecursion (s : Sources) (g : Fault) : Type 0 where
  pub m : Module
  pub i : Inst
  pub k : ℕ
  pub of_module : IsOfModule s g.way g.module_number m
  pub one : IsIn i m.insts
  pub is_type : type_of s i.kind ≡ Some (ModuleBody k)
  pub above : IsAtOrAbove s k g.way
  pub same : g ≡ at_line FaultKind.recursion g.way g.module_number g.line g.name
  pub line : g.line ≡ i.line
  pub name : g.name ≡ i.kind

recursion_of : (s : Sources) (g : Fault) → IsFault s g → kind_number g.kind ≡ 2 → IsRecursion s g
recursion_of s _ (IsFault.recursion way n k m i of_module one type upward) e =
    record { m = m; i = i; k = k; of_module = of_module; one = one; is_type = type; above = upward; same = refl; line = refl; name = refl }
recursion_of s g other e = cc

module _ (s : Sources) (apart : AreInstsApart s) (names : AreNamedInsts s) (none : HasNoneBefore FaultKind.recursion s) (marks : List Bool) (n : ℕ) (begun : IsBegun s marks n)
    (m : Module) (is_module : module_at s n ≡ Some m) (symbols : List (List ℕ)) (own : OwnFault) (first : IsFirstLine (IsOfMarked s marks) symbols m.insts own) where
  here_at : IsOfModule s begun.way n m
  here_at = record { body = begun.body; is_module = is_module }

  closing_of : (g : Fault) → IsRecursion s g → IsClosing s g.way
  closing_of g is =
      record { n = g.module_number; k = is.k; body = is.of_module.body; holds = holds_by s g.module_number is.k is.m is.i is.of_module.is_module is.one is.is_type; above = is.above }

  -- a way that closes isn't before the one that was walked
  not_before : (way : Way) → IsClosing s way → way_cmp way begun.way ≢ Less
  not_before way closing =
      elim (begun.first way closing) [
        | inl on ↦
            subst (λ v. way_cmp v begun.way ≢ Less) (sym on.1)
            (not_before_front on.0 begun.way (subst AreNamed on.1 (named_at s names way (ModuleBody closing.n) closing.body)))
        | inr later ↦ later [] begun.named begun.clear
      ]

  pub first_recursion : IsLeast fault_cmp (IsFault s) (at_line FaultKind.recursion begun.way n own.line first.i.kind)
  first_recursion = record { holds = holds; least = least }
    where
      holds : IsFault s (at_line FaultKind.recursion begun.way n own.line first.i.kind)
      holds =
          subst (λ line. IsFault s (at_line FaultKind.recursion begun.way n line first.i.kind)) (sym first.line)
          (IsFault.recursion begun.way n first.holds.0 m first.i here_at first.one first.holds.1 (begun.marked first.holds.0 first.holds.2))

      same_kind : (g : Fault) → IsRecursion s g → fault_cmp g (at_line FaultKind.recursion begun.way n own.line first.i.kind) ≢ Less
      same_kind g is =
          not_before_at s FaultKind.recursion begun.way n m here_at own.line first.i.kind g is.m is.of_module is.same (not_before g.way (closing_of g is)) by_line
        where
          by_line : g ≡ at_line FaultKind.recursion begun.way n g.line g.name → line_cmp (g.line, g.name) (own.line, first.i.kind) ≢ Less
          by_line at less =
              let same_way : g.way ≡ begun.way = ap (λ (f : Fault). f.way) at in
              let same_number : g.module_number ≡ n = ap (λ (f : Fault). f.module_number) at in
              let same_module : is.m ≡ m = same_Some is.m m (sym is.of_module.is_module ∙ ap (module_at s) same_number ∙ is_module) in
              let one = subst (λ (x : Module). IsIn is.i x.insts) same_module is.one in
              let mark = begun.all is.k (subst (IsAtOrAbove s is.k) same_way is.above) in
              first.least is.i one (is.k, is.is_type, mark) ((λ q. line_cmp (sym is.line q, sym is.name q) (sym first.line q, first.i.kind)) ∙ less)

      least : (g : Fault) → IsFault s g → fault_cmp g (at_line FaultKind.recursion begun.way n own.line first.i.kind) ≢ Less
      least g fault =
          elim (same_or_less 2 (kind_number g.kind) (none g fault)) [
            | inl same ↦ same_kind g (recursion_of s g fault (sym same))
            | inr later ↦ later_kind (at_line FaultKind.recursion begun.way n own.line first.i.kind) g later
          ]
