-- The links of a module are made by connections to inputs, by connections to outputs, and by assignments.
use Rattle.std.proofs.Common.{◌≡◌, ℕ, suc, ◌+◌, true, List, [], ◌∷◌, ◌++◌, Option, Some, None, option_and_then, option_map, map, slice_get, inl, inr, refl, sym, ap, ◌∙◌, subst, arith}
use Rattle.std.specs.List.{cons_option, enumerate_from, filter_map, flat_map, zip}
use Rattle.std.proofs.lemmas.Option.{same_Some, slice_get-map}
use Rattle.pw_defs.specs.declared.cells.Dir.{Dir}
use Rattle.pw_defs.specs.declared.cells.Dir.TheVariants.{Input, Output}
use Rattle.pw_defs.specs.declared.design.Body.{Body}
use Rattle.pw_defs.specs.declared.netlist.Assign.{Assign}
use Rattle.pw_defs.specs.declared.netlist.Conn.{Conn}
use Rattle.pw_defs.specs.declared.netlist.Expr.{Expr}
use Rattle.pw_defs.specs.declared.netlist.Inst.{Inst}
use Rattle.pw_defs.specs.declared.netlist.Module.{Module}
use Rattle.pw_defs.specs.declared.netlist.Net.{Net}
use Rattle.pw_defs.specs.declared.netlist.Port.{Port}
use Rattle.list_defs.specs.Members.{IsIn, all_differ, same_name}
use Rattle.list_defs.proofs.Few.{place_of_member}
use Rattle.list_defs.proofs.Members.{IsIn-append_cases, IsIn-flat_map_from}
use Rattle.list_defs.proofs.NameLemmas.{place_of-own, same_name-equal, same_name-itself, differ_behind}
use Rattle.list_defs.proofs.Rising.{found_in}
use Rattle.design_defs.specs.Bits.{Spot, port_named}
use Rattle.design_defs.specs.DesignFaults.{HasPortAt}
use Rattle.design_defs.specs.Hierarchy.{IsOfModule, Sources, Way, body_at, body_inside, inst_named, ports_in, type_of}
use Rattle.design_defs.specs.Inputs.{AllDiffer, declared_names}
use Rattle.design_defs.specs.Links.{End, Link, end_of, link_in, link_out, links_between, links_in, links_of_assign, links_of_conn, links_of_port, port_of_conn}
use Rattle.design_defs.specs.Places.{Signal, signals}
use Rattle.design_laws.proofs.FirstFound.{own_place}

-- LISTS. What a filter that maps gives comes from one of the list.
pub from_filter_map : {X Y : Type 0} (h : X → Option Y) (xs : List X) (y : Y) → IsIn y (filter_map h xs) → (x : X) × IsIn x xs × (h x ≡ Some y)
from_filter_map h [] y there = absurd there
from_filter_map {X} {Y} h (x ∷ xs) y there = by (h x) refl there (from_filter_map h xs y)
  where
    by : (o : Option Y) → h x ≡ o → IsIn y (cons_option o (filter_map h xs)) → (IsIn y (filter_map h xs) → (z : X) × IsIn z xs × (h z ≡ Some y))
        → (z : X) × IsIn z (x ∷ xs) × (h z ≡ Some y)
    by None none later rest = let found = rest later in (found.0, inr found.1, found.2)
    by (Some z) some (inl same) rest = (x, inl refl, some ∙ ap Some (sym same))
    by (Some z) some (inr later) rest = let found = rest later in (found.0, inr found.1, found.2)

-- what is numbered stands at its number
pub numbered : {X : Type 0} (from : ℕ) (xs : List X) (e : ℕ × X) → IsIn e (enumerate_from from xs) → (at : ℕ) × (e.0 ≡ from + at) × (slice_get xs at ≡ Some e.1)
numbered from [] e there = absurd there
numbered {X} from (x ∷ xs) e (inl same) = (0, ap (λ (f : ℕ × X). f.0) same ∙ omega arith, ap (λ (f : ℕ × X). Some f.1) (sym same))
numbered from (x ∷ xs) e (inr later) =
    let found = numbered (from + 1) xs e later in
    (suc found.0, omega (arith, found.1), found.2)

-- how a link is made
pub data IsLinkBy (s : Sources) (m : Module) (l : Link) : Type 0 where
  to_input : (i : Inst) (c : Conn) (e : Expr) (p : Port) (place : ℕ) (from : Signal) → IsIn i m.insts → IsIn c i.conns → c.expr ≡ Some e
      → port_of_conn s i c ≡ Some p → p.dir ≡ Input → slice_get (signals m e) place ≡ Some from
      → l ≡ record { fed = End.child i.name p.name place; source = end_of from; line = i.line } → IsLinkBy s m l
  to_output : (i : Inst) (c : Conn) (e : Expr) (p : Port) (place : ℕ) (net : List ℕ) (at : ℕ) → IsIn i m.insts → IsIn c i.conns → c.expr ≡ Some e
      → port_of_conn s i c ≡ Some p → p.dir ≡ Output → slice_get (signals m e) place ≡ Some (Signal.net_bit net at)
      → l ≡ record { fed = End.inner net at; source = End.child i.name p.name place; line = i.line } → IsLinkBy s m l
  to_left : (a : Assign) (left right : Signal) → IsIn a m.assigns → IsIn (left, right) (zip (signals m a.left) (signals m a.right))
      → l ≡ record { fed = end_of left; source = end_of right; line = a.line } → IsLinkBy s m l

of_port : (s : Sources) (m : Module) (i : Inst) (c : Conn) (e : Expr) (p : Port) (l : Link) → IsIn i m.insts → IsIn c i.conns → c.expr ≡ Some e
    → port_of_conn s i c ≡ Some p → (dir : Dir) → p.dir ≡ dir → IsIn l (links_of_port i p dir (enumerate_from 0 (signals m e))) → IsLinkBy s m l
of_port s m i c e p l in_m in_i is port Input dir there =
    let found = from_filter_map (λ x. Some (link_in i p x)) (enumerate_from 0 (signals m e)) l there in
    let at = numbered 0 (signals m e) found.0 found.1 in
    let same : link_in i p found.0 ≡ l = same_Some (link_in i p found.0) l found.2 in
    let place : found.0.0 ≡ at.0 = omega (arith, at.1) in
    IsLinkBy.to_input i c e p found.0.0 found.0.1 in_m in_i is port dir (subst (λ n. slice_get (signals m e) n ≡ Some found.0.1) (sym place) at.2) (sym same)
of_port s m i c e p l in_m in_i is port Output dir there =
    let found = from_filter_map (link_out i p) (enumerate_from 0 (signals m e)) l there in
    let at = numbered 0 (signals m e) found.0 found.1 in
    let place : found.0.0 ≡ at.0 = omega (arith, at.1) in
    by found.0.0 found.0.1 (subst (λ n. slice_get (signals m e) n ≡ Some found.0.1) (sym place) at.2) found.2
  where
    by : (k : ℕ) (x : Signal) → slice_get (signals m e) k ≡ Some x → link_out i p (k, x) ≡ Some l → IsLinkBy s m l
    by k (Signal.net_bit net place) at made = IsLinkBy.to_output i c e p k net place in_m in_i is port dir at (sym (same_Some _ l made))
    by k Signal.constant at made = cc

pub link_by : (s : Sources) (m : Module) (l : Link) → IsIn l (links_in s m) → IsLinkBy s m l
link_by s m l there =
    elim (IsIn-append_cases l (flat_map (λ (i : Inst). flat_map (links_of_conn s m i) i.conns) m.insts) (flat_map (links_of_assign m) m.assigns) there) [
      | inl conn ↦
          (let inst = IsIn-flat_map_from (λ (i : Inst). flat_map (links_of_conn s m i) i.conns) m.insts l conn in
          let one = IsIn-flat_map_from (links_of_conn s m inst.0) inst.0.conns l inst.2 in
          of_conn inst.0 one.0 inst.1 one.1 (port_of_conn s inst.0 one.0) refl one.0.expr refl one.2)
      | inr assign ↦
          (let one = IsIn-flat_map_from (links_of_assign m) m.assigns l assign in
          let found = from_filter_map (λ (e : Signal × Signal). Some (record { fed = end_of e.0; source = end_of e.1; line = one.0.line }))
          (zip (signals m one.0.left) (signals m one.0.right)) l one.2 in
          IsLinkBy.to_left one.0 found.0.0 found.0.1 one.1 found.1 (sym (same_Some _ l found.2)))
    ]
  where
    of_conn : (i : Inst) (c : Conn) → IsIn i m.insts → IsIn c i.conns → (p : Option Port) → port_of_conn s i c ≡ p → (e : Option Expr) → c.expr ≡ e
        → IsIn l (links_between m i p e) → IsLinkBy s m l
    of_conn i c in_m in_i None port e is within = absurd within
    of_conn i c in_m in_i (Some p) port None is within = absurd within
    of_conn i c in_m in_i (Some p) port (Some e) is within = of_port s m i c e p l in_m in_i is port p.dir refl within

-- OWN NAMES of instances.
-- the line of the name of an instance is its own
pub own_inst : (m : Module) (i : Inst) → AllDiffer (declared_names m) → IsIn i m.insts → inst_named m i.name ≡ Some i
own_inst m i differ there =
    (own_place (λ (x : Inst). same_name i.name x.name) m.insts at.0 i at.1 (same_name-itself i.name)
    (λ l y e same. one l (named l y e ∙ ap Some (sym (same_name-equal i.name y.name same))))).1
  where
    names : List (List ℕ)
    names = map (λ (x : Inst). x.name) m.insts

    apart : all_differ same_name names ≡ true
    apart = differ_behind (map (λ (p : Port). p.name) m.ports ++ map (λ (n : Net). n.name) m.nets) names differ

    at : (k : ℕ) × (slice_get m.insts k ≡ Some i)
    at = place_of_member i m.insts there

    named : (l : ℕ) (y : Inst) → slice_get m.insts l ≡ Some y → slice_get names l ≡ Some y.name
    named l y e = slice_get-map (λ (x : Inst). x.name) m.insts l ∙ ap (option_map (λ (x : Inst). x.name)) e

    one : (l : ℕ) → slice_get names l ≡ Some i.name → l ≡ at.0
    one l e = same_Some l at.0 (sym (place_of-own i.name names l apart e) ∙ place_of-own i.name names at.0 apart (named at.0 i at.1))

-- an instance of a line is of its type
pub body_of_inst : (s : Sources) (way : Way) (n : ℕ) (m : Module) (i : Inst) → IsOfModule s way n m → AllDiffer (declared_names m) → IsIn i m.insts
    → body_at s (i.name ∷ way) ≡ type_of s i.kind
body_of_inst s way n m i is differ there =
    ap (option_and_then (body_inside s i.name)) is.body
    ∙ ap (λ o. option_and_then (λ (x : Inst). type_of s x.kind) (option_and_then (λ (x : Module). inst_named x i.name) o)) is.is_module
    ∙ ap (option_and_then (λ (x : Inst). type_of s x.kind)) (own_inst m i differ there)

-- the port of a connection is one of the instance
pub port_there : (s : Sources) (way : Way) (n : ℕ) (m : Module) (i : Inst) (c : Conn) (p : Port) → IsOfModule s way n m → AllDiffer (declared_names m) → IsIn i m.insts
    → port_of_conn s i c ≡ Some p → (k : ℕ) × HasPortAt s (i.name ∷ way) k p
port_there s way n m i c p is differ there port = of_body (type_of s i.kind) refl port
  where
    of_ports : (body : Body) → type_of s i.kind ≡ Some body → (o : Option (List Port)) → ports_in s body ≡ o → option_and_then (port_named c.port) o ≡ Some p
        → (k : ℕ) × HasPortAt s (i.name ∷ way) k p
    of_ports body type None none h = cc
    of_ports body type (Some ports) are h =
        let found = found_in (λ (q : Port). same_name c.port q.name) ports p h in
        let at = place_of_member p ports found.0 in
        (at.0, (body, ports, body_of_inst s way n m i is differ there ∙ type, are, at.1))

    of_body : (o : Option Body) → type_of s i.kind ≡ o → option_and_then (port_named c.port) (option_and_then (ports_in s) o) ≡ Some p
        → (k : ℕ) × HasPortAt s (i.name ∷ way) k p
    of_body None none h = cc
    of_body (Some body) type h = of_ports body type (ports_in s body) refl h

-- A bit of an input port of an instance.
pub record IsInputSpot (s : Sources) (x : Spot) : Type 0 where
  pub number : ℕ
  pub port : Port
  pub has : HasPortAt s x.way number port
  pub name : x.net ≡ port.name
  pub input : port.dir ≡ Input

pub no_child : (x : Signal) (inst port : List ℕ) (place : ℕ) → end_of x ≡ End.child inst port place → ⊥
no_child (Signal.net_bit net at) inst port place e = cc
no_child Signal.constant inst port place e = cc

-- what a link feeds in an instance that its module makes is an input
pub child_is_input : (s : Sources) (way : Way) (n : ℕ) (m : Module) (l : Link) → IsOfModule s way n m → AllDiffer (declared_names m) → IsLinkBy s m l
    → (inst port : List ℕ) (place : ℕ) → l.fed ≡ End.child inst port place → IsInputSpot s (record { way = inst ∷ way; net = port; place = place })
child_is_input s way n m l is differ (IsLinkBy.to_input i c e p at from in_m in_i expr port_is dir found same) inst port place fed =
    let ends : End.child i.name p.name at ≡ End.child inst port place = sym (ap (λ (x : Link). x.fed) same) ∙ fed in
    let insts : i.name ≡ inst = cc in
    let ports : p.name ≡ port = cc in
    let there = port_there s way n m i c p is differ in_m port_is in
    record { number = there.0; port = p; has = subst (λ name. HasPortAt s (name ∷ way) there.0 p) insts there.1; name = sym ports; input = dir }
child_is_input s way n m l is differ (IsLinkBy.to_output i c e p at net to in_m in_i expr port_is dir found same) inst port place fed =
    let ends : End.inner net to ≡ End.child inst port place = sym (ap (λ (x : Link). x.fed) same) ∙ fed in
    cc
child_is_input s way n m l is differ (IsLinkBy.to_left a left right in_m found same) inst port place fed =
    absurd (no_child left inst port place (sym (ap (λ (x : Link). x.fed) same) ∙ fed))
