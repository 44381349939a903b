-- At the least way to a module with a fault of a kind is the first fault of that kind.
use Rattle.std.proofs.Common.{◌≡◌, ◌≢◌, ℕ, List, [], ◌∷◌, Option, None, Some, slice_get, inl, inr, refl, sym, ap, ◌∙◌, subst}
use Rattle.std.specs.declared.cmp.Ordering.{Ordering}
use Rattle.std.specs.declared.cmp.Ordering.TheVariants.{Less, Equal, Greater}
use Rattle.std.proofs.lemmas.Option.{same_Some}
use Rattle.list_defs.specs.Orders.{IsLeast}
use Rattle.pw_defs.specs.declared.design.Body.TheVariants.{Module as ModuleBody}
use Rattle.pw_defs.specs.declared.netlist.Module.{Module}
use Rattle.design_defs.specs.DesignFaults.{Fault, FaultKind, IsFault, at_line, fault_cmp, kind_number, HasNoneBefore}
use Rattle.design_defs.specs.Hierarchy.{IsOfModule, Sources, Way, body_at, module_at, module_named, way_cmp}
use Rattle.design_defs.proofs.BitOrders.{way_exact}
use Rattle.net_hierarchy.specs.Ordered.{HasNoneOf}
use Rattle.design_defs.specs.DesignFaults.{HasFirstFault, answer_of}
use Rattle.design_defs.proofs.Lookups.{at_outer}
use Rattle.net_hierarchy.specs.Graph.{Leads, types_of}
use Rattle.net_hierarchy.proofs.Below.{at_below}
use Rattle.net_hierarchy.proofs.Ways.{holds_by, top_at}
use Rattle.net_sizes.proofs.Sizing.{leads_within}
use Rattle.net_hierarchy.proofs.NoneBefore.{later_kind, nat_cmp_same, not_less as greater_not_less, same_or_less}
use Rattle.net_least.specs.Nearest.{AreNone, IsEnd, IsLeastWay, IsWayTo}
use Rattle.net_least.specs.OwnFaults.{AreOwn, IsLeastIn, IsOfLines, IsOwn, line_cmp, own_at, own_or_none}
use Rattle.net_least.specs.declared.own.OwnFault.{OwnFault}

-- a fault of such a kind is at a line of the module of an instance
pub record IsInModule (s : Sources) (kind : FaultKind) (g : Fault) : Type 0 where
  pub m : Module
  pub of_module : IsOfModule s g.way g.module_number m
  pub same : g ≡ at_line kind g.way g.module_number g.line g.name

pub in_module : (s : Sources) (top : ℕ) → module_named s s.top ≡ Some top → (kind : FaultKind) → IsOfLines kind → (g : Fault) → IsFault s g
    → kind_number g.kind ≡ kind_number kind → IsInModule s kind g
in_module s top named _ IsOfLines.unknown_type _ (IsFault.unknown_type way n m i of_module one type) e = record { m = m; of_module = of_module; same = refl }
in_module s top named _ IsOfLines.unknown_type _ (IsFault.no_top missing) e = let never : None ≡ Some top = sym missing ∙ named in cc
in_module s top named _ IsOfLines.unknown_type g other e = cc
in_module s top named _ IsOfLines.unknown_port _ (IsFault.unknown_port way n m i c body of_module one in_conns type none) e = record { m = m; of_module = of_module; same = refl }
in_module s top named _ IsOfLines.unknown_port g other e = cc
in_module s top named _ IsOfLines.wrong_width _ (IsFault.selected_in_conn way n m i c ex name of_module one in_conns is_expr in_names) e = record { m = m; of_module = of_module; same = refl }
in_module s top named _ IsOfLines.wrong_width _ (IsFault.selected_in_assign way n m a name of_module one in_names) e = record { m = m; of_module = of_module; same = refl }
in_module s top named _ IsOfLines.wrong_width _ (IsFault.width_of_conn way n m i c ex p of_module one in_conns is_expr is_port selects width) e = record { m = m; of_module = of_module; same = refl }
in_module s top named _ IsOfLines.wrong_width _ (IsFault.width_of_assign way n m a name names of_module one left right width first) e = record { m = m; of_module = of_module; same = refl }
in_module s top named _ IsOfLines.wrong_width g other e = cc

same_body : (n k : ℕ) → Some (ModuleBody n) ≡ Some (ModuleBody k) → n ≡ k
same_body n k e = cc

-- the order of two faults of one kind at one way in one module is that of their lines and names
in_one_module : (kind : FaultKind) (way : Way) (n line l : ℕ) (name x : List ℕ) → way_cmp way way ≡ Equal
    → fault_cmp (at_line kind way n l x) (at_line kind way n line name) ≡ line_cmp (l, x) (line, name)
in_one_module kind way n line l name x same =
    rw (nat_cmp_same (kind_number kind) (kind_number kind) refl, same, nat_cmp_same n n refl) refl

by_way : (kind : FaultKind) (v w : Way) (n k line l : ℕ) (name x : List ℕ) → way_cmp v w ≡ Greater
    → fault_cmp (at_line kind v n l x) (at_line kind w k line name) ≡ Greater
by_way kind v w n k line l name x greater = rw (nat_cmp_same (kind_number kind) (kind_number kind) refl, greater) refl

-- a fault at a way that doesn't come before this one, and at a line that doesn't where it is the same way, doesn't come before
pub not_before_at : (s : Sources) (kind : FaultKind) (way : Way) (n : ℕ) (m : Module) → IsOfModule s way n m → (line : ℕ) (name : List ℕ) (g : Fault) (other : Module)
    → IsOfModule s g.way g.module_number other → g ≡ at_line kind g.way g.module_number g.line g.name → way_cmp g.way way ≢ Less
    → (g ≡ at_line kind way n g.line g.name → line_cmp (g.line, g.name) (line, name) ≢ Less) → fault_cmp g (at_line kind way n line name) ≢ Less
not_before_at s kind way n m here line name g other of_module same not_less by_line = by (way_cmp g.way way) refl
  where
    by : (o : Ordering) → way_cmp g.way way ≡ o → fault_cmp g (at_line kind way n line name) ≢ Less
    by Less e = absurd (not_less e)
    by Greater e =
        subst (λ f. fault_cmp f (at_line kind way n line name) ≢ Less) (sym same)
        (greater_not_less _ (by_way kind g.way way g.module_number n line g.line name g.name e))
    by Equal e =
        let same_way : g.way ≡ way = way_exact g.way way e in
        let same_number : g.module_number ≡ n = same_body g.module_number n (sym of_module.body ∙ ap (body_at s) same_way ∙ here.body) in
        let whole : g ≡ at_line kind way n g.line g.name = same ∙ (λ i. at_line kind (same_way i) (same_number i) g.line g.name) in
        let in_one = in_one_module kind way n line g.line name g.name (ap (λ v. way_cmp v way) (sym same_way) ∙ e) in
        subst (λ f. fault_cmp f (at_line kind way n line name) ≢ Less) (sym whole) (subst (λ c. c ≢ Less) (sym in_one) (by_line whole))

module _ (s : Sources) (kind : FaultKind) (lines : IsOfLines kind) (top : ℕ) (named : module_named s s.top ≡ Some top) (symbols : List (List ℕ)) (own : List (Option OwnFault))
    (are : AreOwn s kind symbols own) where
  -- a fault of the kind is in a module that has one of its own
  marked : (g : Fault) → IsFault s g → (here : IsInModule s kind g) → IsWayTo s own top g.way g.module_number
  marked g is here = by found.0 found.1 found.2
    where
      found : (o : Option OwnFault) × (slice_get own g.module_number ≡ Some o) × IsOwn s kind symbols g.module_number o
      found = are g.module_number here.m here.of_module.is_module

      by : (o : Option OwnFault) → slice_get own g.module_number ≡ Some o → IsOwn s kind symbols g.module_number o → IsWayTo s own top g.way g.module_number
      by None at none = absurd (none g.line g.name (record { way = g.way; m = here.m; of_module = here.of_module; fault = subst (IsFault s) here.same is }))
      by (Some mark) at has = record { there = sym (at_below s top named g.way) ∙ here.of_module.body; mark = record { mark = mark; is = at } }

  pub none_of_kind : AreNone (IsWayTo s own top) → HasNoneOf s kind
  none_of_kind none g is same = let here = in_module s top named kind lines g is same in none g.way g.module_number (marked g is here)

  module _ (none : HasNoneBefore kind s) (way : Way) (number : ℕ) (is : IsLeastWay (IsWayTo s own top) way number) (line : ℕ) (name : List ℕ) (first : IsLeastIn s kind number line name)
      (m : Module) (is_module : module_at s number ≡ Some m) where
    here_at : IsOfModule s way number m
    here_at = record { body = at_below s top named way ∙ is.holds.there; is_module = is_module }

    pub least_of_kind : IsLeast fault_cmp (IsFault s) (at_line kind way number line name)
    least_of_kind = record { holds = first.each way m here_at; least = least }
      where
        same_kind : (g : Fault) → IsFault s g → IsInModule s kind g → fault_cmp g (at_line kind way number line name) ≢ Less
        same_kind g fault here =
            not_before_at s kind way number m here_at line name g here.m here.of_module here.same (is.least g.way g.module_number (marked g fault here))
            (λ whole. first.least g.line g.name (record { way = way; m = m; of_module = here_at; fault = subst (IsFault s) whole fault }))

        least : (g : Fault) → IsFault s g → fault_cmp g (at_line kind way number line name) ≢ Less
        least g fault =
            elim (same_or_less (kind_number kind) (kind_number g.kind) (none g fault)) [
              | inl same ↦ same_kind g fault (in_module s top named kind lines g fault (sym same))
              | inr later ↦ later_kind (at_line kind way number line name) g later
            ]

-- the module at a way below the top is there
pub leads_to : (s : Sources) (top : ℕ) → module_named s s.top ≡ Some top → (way : Way) (n : ℕ) → body_at s way ≡ Some (ModuleBody n) → Leads (types_of s) top n
leads_to s top named [] n is = subst (Leads (types_of s) top) (same_body top n (sym (top_at s top named) ∙ is)) (Leads.here top)
leads_to s top named (name ∷ outer) n is =
    let found = at_outer s name outer (ModuleBody n) is in
    let inside = found.2 in
    Leads.further top inside.number n (leads_to s top named outer inside.number (found.1 ∙ ap Some inside.is_outer))
    (holds_by s inside.number n inside.of_module inside.inst inside.is_module inside.is_line inside.is_type)

module _ (s : Sources) (kind : FaultKind) (lines : IsOfLines kind) (top : ℕ) (named : module_named s s.top ≡ Some top) (symbols : List (List ℕ)) (own : List (Option OwnFault))
    (are : AreOwn s kind symbols own) (none : HasNoneBefore kind s) where
  -- the fault of its own of the module at the end of the least way, as an answer
  pub first_of_own : (number : ℕ) (o : OwnFault) → IsEnd (IsWayTo s own top) (Some number) → own_at own number ≡ Some o
      → (name : List ℕ) × (slice_get symbols o.name ≡ Some name) × HasFirstFault s (answer_of kind (record { «module» = number; line = o.line; name = name }))
  first_of_own number o end at = by found.0 found.1 found.2
    where
      m : (m : Module) × (module_at s number ≡ Some m)
      m = leads_within s top number named (leads_to s top named end.0 number (at_below s top named end.0 ∙ end.1.holds.there))

      found : (x : Option OwnFault) × (slice_get own number ≡ Some x) × IsOwn s kind symbols number x
      found = are number m.0 m.1

      by : (x : Option OwnFault) → slice_get own number ≡ Some x → IsOwn s kind symbols number x
          → (name : List ℕ) × (slice_get symbols o.name ≡ Some name) × HasFirstFault s (answer_of kind (record { «module» = number; line = o.line; name = name }))
      by None is has = let never : None ≡ Some o = sym (ap own_or_none is) ∙ at in cc
      by (Some x) is has =
          let same : x ≡ o = same_Some x o (sym (ap own_or_none is) ∙ at) in
          let own_o = subst (λ y. IsOwn s kind symbols number (Some y)) same has in
          let least = least_of_kind s kind lines top named symbols own are none end.0 number end.1 o.line own_o.0 own_o.2 m.0 m.1 in
          (own_o.0, own_o.1, (at_line kind end.0 number o.line own_o.0, least, refl))

  pub own_at_end : (number : ℕ) → IsEnd (IsWayTo s own top) (Some number) → own_at own number ≡ None → ⊥
  own_at_end number end at = let never : Some end.1.holds.mark.mark ≡ None = sym (ap own_or_none end.1.holds.mark.is) ∙ at in cc
