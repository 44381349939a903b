-- The refusals of a module are the faults that it has wherever it stands.
use Rattle.std.proofs.Common.{◌≡◌, ◌≢◌, ℕ, ◌==◌, Bool, true, false, cond, List, [], ◌∷◌, ◌++◌, length, Option, None, Some, inl, inr, refl, sym, ap, ◌∙◌, subst}
use Rattle.std.specs.Prelude.{option_map}
use Rattle.std.specs.List.{flat_map}
use Rattle.std.proofs.lemmas.Bool.{eqb-false, eqb-true}
use Rattle.std.proofs.lemmas.Option.{same_Some}
use Rattle.pw_defs.specs.declared.design.Body.{Body}
use Rattle.pw_defs.specs.declared.netlist.Assign.{Assign}
use Rattle.pw_defs.specs.declared.netlist.Conn.{Conn}
use Rattle.pw_defs.specs.declared.netlist.Expr.{Expr}
use Rattle.pw_defs.specs.declared.netlist.Inst.{Inst}
use Rattle.pw_defs.specs.declared.netlist.Module.{Module}
use Rattle.pw_defs.specs.declared.netlist.Port.{Port}
use Rattle.list_defs.specs.Members.{IsIn}
use Rattle.list_defs.proofs.Members.{IsIn-append_cases, IsIn-append_left, IsIn-append_right, IsIn-flat_map, IsIn-flat_map_from, IsIn-map, IsIn-map_from}
use Rattle.design_defs.specs.DesignFaults.{Fault, FaultKind, IsFault, at_line, kind_number}
use Rattle.design_defs.specs.Hierarchy.{IsOfModule, Sources, Way, module_at, type_of}
use Rattle.design_defs.specs.Links.{port_of_conn}
use Rattle.design_defs.specs.Places.{misselected, names_in, signals}
use Rattle.design_defs.specs.Ranges.{width}
use Rattle.net_least.specs.OwnFaults.{AreOwn, IsFaultIn, IsOwn}
use Rattle.net_least.specs.declared.own.OwnFault.{OwnFault}
use Rattle.net_widths.specs.Refusals.{AreFirst, IsFirstOf, Refusal, first_of, names_of_assign, names_of_connected, ports_of_conn, ports_of_inst, ports_of_module}
use Rattle.net_widths.specs.Refusals.{right_width, unequal, width_of, widths_of_assign, widths_of_conn, widths_of_inst, widths_of_module, without_port}

-- widths that differ
pub unlike : (left right : ℕ) (names : List (List ℕ)) → left ≢ right → unequal (Some left) (Some right) names ≡ first_of names
unlike left right names other = by (left == right) refl
  where
    by : (t : Bool) → (left == right) ≡ t → cond t [] (first_of names) ≡ first_of names
    by true e = absurd (other (eqb-true left right e))
    by false e = refl

-- a name that is refused since two widths differ
record AreUnlike (wrong : List (List ℕ)) (count : ℕ) (right : Option ℕ) (names : List (List ℕ)) (name : List ℕ) : Type 0 where
  pub none_wrong : wrong ≡ []
  pub other : ℕ
  pub is_other : right ≡ Some other
  pub differ : count ≢ other
  pub first : IsIn name (first_of names)

unlike_from : (wrong : List (List ℕ)) (count : ℕ) (right : Option ℕ) (names : List (List ℕ)) (name : List ℕ) → IsIn name (unequal (right_width wrong count) right names)
    → AreUnlike wrong count right names name
unlike_from (x ∷ xs) count right names name there = absurd there
unlike_from [] count None names name there = absurd there
unlike_from [] count (Some other) names name there = by (count == other) refl there
  where
    by : (t : Bool) → (count == other) ≡ t → IsIn name (cond t [] (first_of names)) → AreUnlike [] count (Some other) names name
    by true e in_none = absurd in_none
    by false e in_first = record { none_wrong = refl; other = other; is_other = refl; differ = eqb-false count other e; first = in_first }

first_from : (names : List (List ℕ)) (name : List ℕ) → IsIn name (first_of names) → (rest : List (List ℕ)) × (names ≡ name ∷ rest)
first_from [] name there = absurd there
first_from (x ∷ xs) name (inl is) = (xs, ap (λ y. y ∷ xs) (sym is))
first_from (x ∷ xs) name (inr never) = absurd never

port_of_width : (p : Option Port) (other : ℕ) → option_map (λ (x : Port). width x.range) p ≡ Some other → (x : Port) × (p ≡ Some x) × (other ≡ width x.range)
port_of_width None other e = cc
port_of_width (Some x) other e = (x, refl, sym (same_Some (width x.range) other e))

no_widths : (wrong : List (List ℕ)) (count other : ℕ) → right_width wrong count ≡ Some other → wrong ≡ []
no_widths [] count other e = refl
no_widths (x ∷ xs) count other e = cc

same_widths : (wrong : List (List ℕ)) (count other : ℕ) → right_width wrong count ≡ Some other → count ≡ other
same_widths [] count other e = same_Some count other e
same_widths (x ∷ xs) count other e = cc

-- each refusal is a fault of the module at each way
module _ (s : Sources) (way : Way) (n : ℕ) (m : Module) (of_module : IsOfModule s way n m) where
  at_port : (i : Inst) → IsIn i m.insts → (c : Conn) → IsIn c i.conns → (name : List ℕ) (t : Option Body) → type_of s i.kind ≡ t → (p : Option Port) → port_of_conn s i c ≡ p
      → IsIn name (without_port c t p) → IsFault s (at_line FaultKind.unknown_port way n i.line name)
  at_port i one c in_conns name None type p is_port there = absurd there
  at_port i one c in_conns name (Some body) type (Some p) is_port there = absurd there
  at_port i one c in_conns name (Some body) type None absent (inl is) =
      subst (λ x. IsFault s (at_line FaultKind.unknown_port way n i.line x)) (sym is) (IsFault.unknown_port way n m i c body of_module one in_conns type absent)
  at_port i one c in_conns name (Some body) type None absent (inr never) = absurd never

  pub of_port : (y : Refusal) → IsIn y (ports_of_module s m) → IsFault s (at_line FaultKind.unknown_port way n y.0 y.1)
  of_port y there =
      let inst = IsIn-flat_map_from (ports_of_inst s) m.insts y there in
      let i = inst.0 in
      let conn = IsIn-flat_map_from (ports_of_conn s i) i.conns y inst.2 in
      let c = conn.0 in
      let name = IsIn-map_from (λ (x : List ℕ). (i.line, x)) y (without_port c (type_of s i.kind) (port_of_conn s i c)) conn.2 in
      subst (λ (z : Refusal). IsFault s (at_line FaultKind.unknown_port way n z.0 z.1)) (sym name.2)
      (at_port i inst.1 c conn.1 name.0 (type_of s i.kind) refl (port_of_conn s i c) refl name.1)

  at_width : (i : Inst) → IsIn i m.insts → (c : Conn) → IsIn c i.conns → (name : List ℕ) (e : Option Expr) → c.expr ≡ e
      → IsIn name (names_of_connected m c.port (port_of_conn s i c) e) → IsFault s (at_line FaultKind.wrong_width way n i.line name)
  at_width i one c in_conns name None is_expr there = absurd there
  at_width i one c in_conns name (Some e) is_expr there =
      elim (IsIn-append_cases name (misselected m e) (unequal (width_of m e) (option_map (λ (p : Port). width p.range) (port_of_conn s i c)) (c.port ∷ [])) there) [
        | inl wrong ↦ IsFault.selected_in_conn way n m i c e name of_module one in_conns is_expr wrong
        | inr differ ↦ differs (unlike_from (misselected m e) (length (signals m e)) (option_map (λ (p : Port). width p.range) (port_of_conn s i c)) (c.port ∷ []) name differ)
      ]
    where
      differs : AreUnlike (misselected m e) (length (signals m e)) (option_map (λ (p : Port). width p.range) (port_of_conn s i c)) (c.port ∷ []) name
          → IsFault s (at_line FaultKind.wrong_width way n i.line name)
      differs are =
          let port = port_of_width (port_of_conn s i c) are.other are.is_other in
          let named = first_from (c.port ∷ []) name are.first in
          let cons : c.port ∷ [] ≡ name ∷ named.0 = named.1 in
          let same : c.port ≡ name = cc in
          subst (λ x. IsFault s (at_line FaultKind.wrong_width way n i.line x)) same
          (IsFault.width_of_conn way n m i c e port.0 of_module one in_conns is_expr port.1 are.none_wrong (λ equal. are.differ (equal ∙ sym port.2)))

  at_assign : (a : Assign) → IsIn a m.assigns → (name : List ℕ) → IsIn name (names_of_assign m a) → IsFault s (at_line FaultKind.wrong_width way n a.line name)
  at_assign a one name there =
      elim (IsIn-append_cases name (left ++ right) other there) [
        | inl wrong ↦ IsFault.selected_in_assign way n m a name of_module one wrong
        | inr differ ↦ differs (unlike_from left (length (signals m a.left)) (width_of m a.right) (names_in a.left) name differ)
      ]
    where
      left : List (List ℕ)
      left = misselected m a.left

      right : List (List ℕ)
      right = misselected m a.right

      other : List (List ℕ)
      other = unequal (width_of m a.left) (width_of m a.right) (names_in a.left)

      differs : AreUnlike (misselected m a.left) (length (signals m a.left)) (width_of m a.right) (names_in a.left) name → IsFault s (at_line FaultKind.wrong_width way n a.line name)
      differs are =
          let named = first_from (names_in a.left) name are.first in
          IsFault.width_of_assign way n m a name named.0 of_module one are.none_wrong (no_widths (misselected m a.right) (length (signals m a.right)) are.other are.is_other)
          (λ equal. are.differ (equal ∙ same_widths (misselected m a.right) (length (signals m a.right)) are.other are.is_other)) named.1

  pub of_width : (y : Refusal) → IsIn y (widths_of_module s m) → IsFault s (at_line FaultKind.wrong_width way n y.0 y.1)
  of_width y there =
      elim (IsIn-append_cases y (flat_map (widths_of_inst s m) m.insts) (flat_map (widths_of_assign m) m.assigns) there) [
        | inl connected ↦ of_insts connected
        | inr assigned ↦ of_assigns assigned
      ]
    where
      of_insts : IsIn y (flat_map (widths_of_inst s m) m.insts) → IsFault s (at_line FaultKind.wrong_width way n y.0 y.1)
      of_insts in_insts =
          let inst = IsIn-flat_map_from (widths_of_inst s m) m.insts y in_insts in
          let i = inst.0 in
          let conn = IsIn-flat_map_from (widths_of_conn s m i) i.conns y inst.2 in
          let c = conn.0 in
          let name = IsIn-map_from (λ (x : List ℕ). (i.line, x)) y (names_of_connected m c.port (port_of_conn s i c) c.expr) conn.2 in
          subst (λ (z : Refusal). IsFault s (at_line FaultKind.wrong_width way n z.0 z.1)) (sym name.2) (at_width i inst.1 c conn.1 name.0 c.expr refl name.1)

      of_assigns : IsIn y (flat_map (widths_of_assign m) m.assigns) → IsFault s (at_line FaultKind.wrong_width way n y.0 y.1)
      of_assigns in_assigns =
          let assign = IsIn-flat_map_from (widths_of_assign m) m.assigns y in_assigns in
          let a = assign.0 in
          let name = IsIn-map_from (λ (x : List ℕ). (a.line, x)) y (names_of_assign m a) assign.2 in
          subst (λ (z : Refusal). IsFault s (at_line FaultKind.wrong_width way n z.0 z.1)) (sym name.2) (at_assign a assign.1 name.0 name.1)

-- each fault of the kind is one of the refusals of its module
pub record IsRefused (s : Sources) (f : Fault) (refusals : Module → List Refusal) : Type 0 where
  pub m : Module
  pub of_module : IsOfModule s f.way f.module_number m
  pub there : IsIn (f.line, f.name) (refusals m)

refused_port : (s : Sources) (f : Fault) → IsFault s f → kind_number f.kind ≡ 5 → IsRefused s f (ports_of_module s)
refused_port s _ (IsFault.unknown_port way n m i c body of_module one in_conns type absent) e =
    let names : without_port c (type_of s i.kind) (port_of_conn s i c) ≡ c.port ∷ [] = λ q. without_port c (type q) (absent q) in
    let here : IsIn (i.line, c.port) (ports_of_conn s i c) =
    IsIn-map (λ (x : List ℕ). (i.line, x)) c.port (without_port c (type_of s i.kind) (port_of_conn s i c)) (subst (IsIn c.port) (sym names) (inl refl)) in
    record {
      m = m;
      of_module = of_module;
      there = IsIn-flat_map (ports_of_inst s) i m.insts (i.line, c.port) one (IsIn-flat_map (ports_of_conn s i) c i.conns (i.line, c.port) in_conns here);
    }
refused_port s f other e = cc

in_insts : (s : Sources) (m : Module) (i : Inst) → IsIn i m.insts → (c : Conn) → IsIn c i.conns → (name : List ℕ) → IsIn name (names_of_connected m c.port (port_of_conn s i c) c.expr)
    → IsIn (i.line, name) (widths_of_module s m)
in_insts s m i one c in_conns name there =
    let here : IsIn (i.line, name) (widths_of_conn s m i c) = IsIn-map (λ (x : List ℕ). (i.line, x)) name (names_of_connected m c.port (port_of_conn s i c) c.expr) there in
    IsIn-append_left (i.line, name) (flat_map (widths_of_inst s m) m.insts) (flat_map (widths_of_assign m) m.assigns)
    (IsIn-flat_map (widths_of_inst s m) i m.insts (i.line, name) one (IsIn-flat_map (widths_of_conn s m i) c i.conns (i.line, name) in_conns here))

in_assigns : (s : Sources) (m : Module) (a : Assign) → IsIn a m.assigns → (name : List ℕ) → IsIn name (names_of_assign m a) → IsIn (a.line, name) (widths_of_module s m)
in_assigns s m a one name there =
    IsIn-append_right (a.line, name) (flat_map (widths_of_inst s m) m.insts) (flat_map (widths_of_assign m) m.assigns)
    (IsIn-flat_map (widths_of_assign m) a m.assigns (a.line, name) one (IsIn-map (λ (x : List ℕ). (a.line, x)) name (names_of_assign m a) there))

refused_width : (s : Sources) (f : Fault) → IsFault s f → kind_number f.kind ≡ 6 → IsRefused s f (widths_of_module s)
refused_width s _ (IsFault.selected_in_conn way n m i c ex name of_module one in_conns is_expr in_names) e = record {
  m = m;
  of_module = of_module;
  there =
      in_insts s m i one c in_conns name
      (subst (λ x. IsIn name (names_of_connected m c.port (port_of_conn s i c) x)) (sym is_expr)
      (IsIn-append_left name (misselected m ex) (unequal (width_of m ex) (option_map (λ (p : Port). width p.range) (port_of_conn s i c)) (c.port ∷ [])) in_names));
}
refused_width s _ (IsFault.width_of_conn way n m i c ex p of_module one in_conns is_expr is_port selects differ) e =
    let count = length (signals m ex) in
    let names : unequal (width_of m ex) (option_map (λ (p : Port). width p.range) (port_of_conn s i c)) (c.port ∷ []) ≡ c.port ∷ [] =
    (λ q. unequal (right_width (selects q) count) (option_map (λ (p : Port). width p.range) (is_port q)) (c.port ∷ [])) ∙ unlike count (width p.range) (c.port ∷ []) differ in
    record {
      m = m;
      of_module = of_module;
      there =
          in_insts s m i one c in_conns c.port
          (subst (λ x. IsIn c.port (names_of_connected m c.port (port_of_conn s i c) x)) (sym is_expr)
          (IsIn-append_right c.port (misselected m ex) (unequal (width_of m ex) (option_map (λ (p : Port). width p.range) (port_of_conn s i c)) (c.port ∷ []))
          (subst (IsIn c.port) (sym names) (inl refl))));
    }
refused_width s _ (IsFault.selected_in_assign way n m a name of_module one in_names) e =
    let wrong = misselected m a.left ++ misselected m a.right in
    let other = unequal (width_of m a.left) (width_of m a.right) (names_in a.left) in
    record { m = m; of_module = of_module; there = in_assigns s m a one name (IsIn-append_left name wrong other in_names) }
refused_width s _ (IsFault.width_of_assign way n m a name names of_module one left right differ first) e =
    let count = length (signals m a.left) in
    let more = length (signals m a.right) in
    let other : unequal (width_of m a.left) (width_of m a.right) (names_in a.left) ≡ name ∷ [] =
    (λ q. unequal (right_width (left q) count) (right_width (right q) more) (first q)) ∙ unlike count more (name ∷ names) differ in
    record {
      m = m;
      of_module = of_module;
      there =
          in_assigns s m a one name
          (IsIn-append_right name (misselected m a.left ++ misselected m a.right) (unequal (width_of m a.left) (width_of m a.right) (names_in a.left))
          (subst (IsIn name) (sym other) (inl refl)));
    }
refused_width s f other e = cc

-- the first refusal of a module is the least fault of the kind that it has
module _ (s : Sources) (kind : FaultKind) (symbols : List (List ℕ)) (refusals : Module → List Refusal)
    (to : (way : Way) (n : ℕ) (m : Module) → IsOfModule s way n m → (y : Refusal) → IsIn y (refusals m) → IsFault s (at_line kind way n y.0 y.1))
    (from : (f : Fault) → IsFault s f → kind_number f.kind ≡ kind_number kind → IsRefused s f refusals) where
  in_module : (n : ℕ) (m : Module) → module_at s n ≡ Some m → (line : ℕ) (name : List ℕ) → IsFaultIn s kind n line name → IsIn (line, name) (refusals m)
  in_module n m is_module line name fault =
      let one = from (at_line kind fault.way n line name) fault.fault refl in
      let same : one.m ≡ m = same_Some one.m m (sym one.of_module.is_module ∙ is_module) in
      subst (λ (x : Module). IsIn (line, name) (refusals x)) same one.there

  own_of : (n : ℕ) (m : Module) → module_at s n ≡ Some m → (o : Option OwnFault) → IsFirstOf symbols (refusals m) o → IsOwn s kind symbols n o
  own_of n m is_module None none = λ line name fault. none (line, name) (in_module n m is_module line name fault)
  own_of n m is_module (Some own) first = (
    first.name,
    first.is_name,
    record {
      each = λ way x is.
          let same : m ≡ x = same_Some m x (sym is_module ∙ is.is_module) in
          to way n x is (own.line, first.name) (subst (λ (z : Module). IsIn (own.line, first.name) (refusals z)) same first.one);
      least = λ line name fault. first.least (line, name) (in_module n m is_module line name fault);
    },
  )

  pub own_of_all : (own : List (Option OwnFault)) → AreFirst s refusals symbols own → AreOwn s kind symbols own
  own_of_all own are n m is_module = let found = are n m is_module in (found.0, found.1, own_of n m is_module found.0 found.2)

pub own_ports : (s : Sources) (symbols : List (List ℕ)) (own : List (Option OwnFault)) → AreFirst s (ports_of_module s) symbols own → AreOwn s FaultKind.unknown_port symbols own
own_ports s symbols = own_of_all s FaultKind.unknown_port symbols (ports_of_module s) (of_port s) (refused_port s)

pub own_widths : (s : Sources) (symbols : List (List ℕ)) (own : List (Option OwnFault)) → AreFirst s (widths_of_module s) symbols own → AreOwn s FaultKind.wrong_width symbols own
own_widths s symbols = own_of_all s FaultKind.wrong_width symbols (widths_of_module s) (of_width s) (refused_width s)
