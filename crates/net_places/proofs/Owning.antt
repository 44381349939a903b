-- What the lines of a module mention are its nets.
use Rattle.std.proofs.Common.{◌≡◌, ℕ, suc, ◌+◌, Bool, true, false, cond, not, ◌&&◌, ◌||◌, List, [], ◌∷◌, ◌++◌, map, refl, sym, ap, ◌∙◌, arith, append_assoc}
use Rattle.std.specs.Prelude.{Option, Some, None, is_some, option_map}
use Rattle.std.specs.Option.{option_or, option_to_list}
use Rattle.std.specs.List.{find, flat_map, list_any}
use Rattle.std.proofs.lemmas.Grind.{flat_map-append}
use Rattle.std.proofs.lemmas.List.{map-append}
use Rattle.pw_defs.specs.declared.netlist.Assign.{Assign}
use Rattle.pw_defs.specs.declared.netlist.Conn.{Conn}
use Rattle.pw_defs.specs.declared.netlist.Expr.{Expr}
use Rattle.pw_defs.specs.declared.netlist.Inst.{Inst}
use Rattle.pw_defs.specs.declared.netlist.Module.{Module}
use Rattle.pw_defs.specs.declared.netlist.Net.{Net}
use Rattle.pw_defs.specs.declared.netlist.Port.{Port}
use Rattle.list_defs.specs.Members.{place_of, same_name}
use Rattle.list_defs.proofs.NameLemmas.{same_name-equal}
use Rattle.list_defs.proofs.Rising.{found_in}
use Rattle.design_defs.specs.Hierarchy.{inst_named}
use Rattle.design_defs.specs.Places.{exprs_in, is_instance_name, names_alone, net_range}
use Rattle.net_places.specs.Nets.{OwnNet, net_among, net_in}
use Rattle.net_places.specs.Mentions.{Mention, is_mentioned, net_mentioned, of_assign, of_conns, of_expr, of_exprs, of_inst, of_module, of_port, of_ports, of_use, of_wire}
use Rattle.net_places.proofs.Mentioning.{any_if_found, fresh, kept, net_found, none_if_not_found, says}

-- a port of a name with its number
abbrev port_net : List ℕ → ℕ → Option ℕ → Option Port → Option OwnNet
port_net name n place port =
    option_map (λ (range : Option (ℕ × ℕ)). record { name = name; range = range; port = option_map (λ k. n + k) place }) (option_map (λ (p : Port). p.range) port)

abbrev named_port : List ℕ → Port → Bool
named_port name p = same_name name p.name

one_further : (n : ℕ) (place : Option ℕ) → option_map (λ k. n + 1 + k) place ≡ option_map (λ k. n + k) (option_map suc place)
one_further n None = refl
one_further n (Some k) = let same : n + 1 + k ≡ n + suc k = omega arith in ap Some same

by_ports : (name : List ℕ) (n : ℕ) (ps : List Port) → net_mentioned (of_ports n ps) name ≡ port_net name n (place_of (named_port name) ps) (find (named_port name) ps)
by_ports name n [] = refl
by_ports name n (p ∷ ps) =
    by (same_name name p.name) refl (find (says name) (of_ports (n + 1) ps)) (place_of (named_port name) ps) (find (named_port name) ps) (by_ports name (n + 1) ps)
  where
    by : (b : Bool) → same_name name p.name ≡ b → (rest : Option Mention) (place : Option ℕ) (port : Option Port) → net_found rest ≡ port_net name (n + 1) place port
        → net_found (cond b (Some (of_port n p)) rest) ≡ port_net name n (cond b (Some 0) (option_map suc place)) (cond b (Some p) port)
    by true e rest place port h =
        let same : p.name ≡ name = sym (same_name-equal name p.name e) in
        let here : n ≡ n + 0 = omega arith in
        ap (λ (x : List ℕ). Some (record { name = x; range = p.range; port = Some n })) same
        ∙ ap (λ (k : ℕ). Some (record { name = name; range = p.range; port = Some k })) here
    by false e rest place port h =
        h ∙ ap (λ (number : Option ℕ). option_map (λ (range : Option (ℕ × ℕ)). record { name = name; range = range; port = number }) (option_map (λ (p : Port). p.range) port))
        (one_further n place)

from_none : (place : Option ℕ) → option_map (λ k. 0 + k) place ≡ place
from_none None = refl
from_none (Some k) = let same : 0 + k ≡ k = omega arith in ap Some same

-- ports that are numbered from 0
pub ports_mentioned : (ports : List Port) (name : List ℕ) → net_mentioned (of_ports 0 ports) name ≡ net_among ports name
ports_mentioned ports name =
    by_ports name 0 ports
    ∙ ap (λ (number : Option ℕ). option_map (λ (range : Option (ℕ × ℕ)). record { name = name; range = range; port = number })
    (option_map (λ (p : Port). p.range) (find (named_port name) ports))) (from_none (place_of (named_port name) ports))

-- names of ports are those that are mentioned
any_port : (name : List ℕ) (n : ℕ) (ps : List Port) → is_mentioned (of_ports n ps) name ≡ list_any (named_port name) ps
any_port name n [] = refl
any_port name n (p ∷ ps) = by (same_name name p.name) (any_port name (n + 1) ps)
  where
    by : (b : Bool) → is_mentioned (of_ports (n + 1) ps) name ≡ list_any (named_port name) ps
        → (b || is_mentioned (of_ports (n + 1) ps) name) ≡ (b || list_any (named_port name) ps)
    by true h = refl
    by false h = h

found_map : {X : Type 0} (f : X → Mention) (name : List ℕ) (xs : List X) → find (says name) (map f xs) ≡ option_map f (find (λ x. same_name name (f x).name) xs)
found_map f name [] = refl
found_map {X} f name (x ∷ xs) = by (same_name name (f x).name) (found_map f name xs)
  where
    by : (b : Bool) → find (says name) (map f xs) ≡ option_map f (find (λ y. same_name name (f y).name) xs)
        → cond b (Some (f x)) (find (says name) (map f xs)) ≡ option_map f (cond b (Some x) (find (λ y. same_name name (f y).name) xs))
    by true h = refl
    by false h = h

no_place : (name : List ℕ) (ps : List Port) → find (named_port name) ps ≡ None → place_of (named_port name) ps ≡ None
no_place name [] h = refl
no_place name (p ∷ ps) h = by (same_name name p.name) (no_place name ps) h
  where
    by : (b : Bool) → (find (named_port name) ps ≡ None → place_of (named_port name) ps ≡ None) → cond b (Some p) (find (named_port name) ps) ≡ None
        → cond b (Some 0) (option_map suc (place_of (named_port name) ps)) ≡ None
    by true rest h = cc
    by false rest h = ap (option_map suc) (rest h)

pub map_flat : {X Y Z : Type 0} (f : Y → Z) (g : X → List Y) (xs : List X) → flat_map (λ x. map f (g x)) xs ≡ map f (flat_map g xs)
map_flat f g [] = refl
map_flat f g (x ∷ xs) = ap (λ rest. map f (g x) ++ rest) (map_flat f g xs) ∙ sym (map-append f (g x) (flat_map g xs))

pub flat_flat : {X Y Z : Type 0} (f : Y → List Z) (g : X → List Y) (xs : List X) → flat_map (λ x. flat_map f (g x)) xs ≡ flat_map f (flat_map g xs)
flat_flat f g [] = refl
flat_flat f g (x ∷ xs) = ap (λ rest. flat_map f (g x) ++ rest) (flat_flat f g xs) ∙ sym (flat_map-append f (g x) (flat_map g xs))

-- names that stand alone are those of all expressions
module _ (m : Module) where
  abbrev connected : Inst → List Expr
  connected i = flat_map (λ (c : Conn). option_to_list c.expr) i.conns

  abbrev sides : Assign → List Expr
  sides a = a.left ∷ a.right ∷ []

  of_insts_exprs : (insts : List Inst) → flat_map of_conns insts ≡ flat_map of_expr (flat_map connected insts)
  of_insts_exprs [] = refl
  of_insts_exprs (i ∷ others) =
      ap (λ front. front ++ flat_map of_conns others) (flat_flat of_expr (λ (c : Conn). option_to_list c.expr) i.conns)
      ∙ ap (λ rest. flat_map of_expr (connected i) ++ rest) (of_insts_exprs others)
      ∙ sym (flat_map-append of_expr (connected i) (flat_map connected others))

  of_assigns_exprs : (assigns : List Assign) → flat_map of_assign assigns ≡ flat_map of_expr (flat_map sides assigns)
  of_assigns_exprs [] = refl
  of_assigns_exprs (a ∷ others) =
      ap (λ rest. (of_expr a.left ++ of_expr a.right) ++ rest) (of_assigns_exprs others)
      ∙ append_assoc (of_expr a.left) (of_expr a.right) (flat_map of_expr (flat_map sides others))

  all_uses : of_exprs m ≡ map of_use (flat_map names_alone (exprs_in m))
  all_uses =
      ap (λ front. front ++ flat_map of_assign m.assigns) (of_insts_exprs m.insts)
      ∙ ap (λ rest. flat_map of_expr (flat_map connected m.insts) ++ rest) (of_assigns_exprs m.assigns)
      ∙ sym (flat_map-append of_expr (flat_map connected m.insts) (flat_map sides m.assigns))
      ∙ map_flat of_use names_alone (exprs_in m)

-- what a module mentions
module _ (m : Module) (name : List ℕ) where
  abbrev ports : List Mention
  ports = of_ports 0 m.ports

  abbrev wires : List Mention
  wires = map of_wire m.nets

  abbrev insts : List Mention
  insts = map of_inst m.insts

  abbrev uses : List (List ℕ)
  uses = flat_map names_alone (exprs_in m)

  abbrev numbered : Option ℕ → Option (Option (ℕ × ℕ)) → Option OwnNet
  numbered number = option_map (λ (range : Option (ℕ × ℕ)). record { name = name; range = range; port = number })

  abbrev named_wire : Net → Bool
  named_wire n = same_name name n.name

  abbrev implicit : Bool → Bool → Option (Option (ℕ × ℕ))
  implicit inst used = cond (not inst && used) (Some None) None

  regrouped : of_module m ≡ ports ++ (wires ++ (insts ++ map of_use uses))
  regrouped =
      ap (λ last. ports ++ wires ++ insts ++ last) (all_uses m)
      ∙ append_assoc (ports ++ wires) insts (map of_use uses)
      ∙ append_assoc ports wires (insts ++ map of_use uses)

  of_use_found : (used : Option (List ℕ)) → find (same_name name) uses ≡ used → net_mentioned (map of_use uses) name ≡ numbered None (implicit false (list_any (same_name name) uses))
  of_use_found None e =
      ap net_found (found_map of_use name uses ∙ ap (option_map of_use) e)
      ∙ sym (ap (λ (used : Bool). numbered None (implicit false used)) (none_if_not_found (same_name name) uses e))
  of_use_found (Some x) e =
      let same : x ≡ name = sym (same_name-equal name x (found_in (same_name name) uses x e).1) in
      ap net_found (found_map of_use name uses ∙ ap (option_map of_use) e)
      ∙ ap (λ (n : List ℕ). Some (record { name = n; range = None; port = None })) same
      ∙ sym (ap (λ (used : Bool). numbered None (implicit false used)) (any_if_found (same_name name) uses x e))

  of_inst_found : (inst : Option Inst) → inst_named m name ≡ inst
      → net_mentioned (insts ++ map of_use uses) name ≡ numbered None (implicit (is_instance_name m name) (list_any (same_name name) uses))
  of_inst_found None e =
      let found : find (says name) insts ≡ None = found_map of_inst name m.insts ∙ ap (option_map of_inst) e in
      fresh insts (map of_use uses) name (none_if_not_found (says name) insts found)
      ∙ of_use_found (find (same_name name) uses) refl
      ∙ sym (ap (λ (o : Option Inst). numbered None (implicit (is_some o) (list_any (same_name name) uses))) e)
  of_inst_found (Some i) e =
      let found : find (says name) insts ≡ Some (of_inst i) = found_map of_inst name m.insts ∙ ap (option_map of_inst) e in
      kept insts (map of_use uses) name (any_if_found (says name) insts (of_inst i) found)
      ∙ ap net_found found
      ∙ sym (ap (λ (o : Option Inst). numbered None (implicit (is_some o) (list_any (same_name name) uses))) e)

  of_wire_found : (wire : Option Net) → find named_wire m.nets ≡ wire
      → net_mentioned (wires ++ (insts ++ map of_use uses)) name
      ≡ numbered None (option_or (option_map (λ (n : Net). n.range) wire) (implicit (is_instance_name m name) (list_any (same_name name) uses)))
  of_wire_found None e =
      let found : find (says name) wires ≡ None = found_map of_wire name m.nets ∙ ap (option_map of_wire) e in
      fresh wires (insts ++ map of_use uses) name (none_if_not_found (says name) wires found)
      ∙ of_inst_found (inst_named m name) refl
  of_wire_found (Some w) e =
      let found : find (says name) wires ≡ Some (of_wire w) = found_map of_wire name m.nets ∙ ap (option_map of_wire) e in
      let same : w.name ≡ name = sym (same_name-equal name w.name (found_in named_wire m.nets w e).1) in
      kept wires (insts ++ map of_use uses) name (any_if_found (says name) wires (of_wire w) found)
      ∙ ap net_found found
      ∙ ap (λ (n : List ℕ). Some (record { name = n; range = w.range; port = None })) same

  of_port_found : (port : Option Port) → find (named_port name) m.ports ≡ port → net_mentioned (ports ++ (wires ++ (insts ++ map of_use uses))) name ≡ net_in m name
  of_port_found None e =
      fresh ports (wires ++ (insts ++ map of_use uses)) name (any_port name 0 m.ports ∙ none_if_not_found (named_port name) m.ports e)
      ∙ of_wire_found (find named_wire m.nets) refl
      ∙ sym (ap (λ (number : Option ℕ). numbered number (net_range m name)) (no_place name m.ports e)
      ∙ ap (λ (o : Option Port). numbered None (option_or (option_or (option_map (λ (p : Port). p.range) o)
      (option_map (λ (n : Net). n.range) (find named_wire m.nets))) (implicit (is_instance_name m name) (list_any (same_name name) uses)))) e
      )
  of_port_found (Some p) e =
      kept ports (wires ++ (insts ++ map of_use uses)) name (any_port name 0 m.ports ∙ any_if_found (named_port name) m.ports p e)
      ∙ ports_mentioned m.ports name
      ∙ ap (λ (o : Option Port). numbered (place_of (named_port name) m.ports) (option_map (λ (p : Port). p.range) o)) e
      ∙ sym (ap (λ (o : Option Port). numbered (place_of (named_port name) m.ports) (option_or (option_or (option_map (λ (p : Port). p.range) o)
      (option_map (λ (n : Net). n.range) (find named_wire m.nets))) (implicit (is_instance_name m name) (list_any (same_name name) uses)))) e)

  pub module_mentioned : net_mentioned (of_module m) name ≡ net_in m name
  module_mentioned = ap (λ all. net_mentioned all name) regrouped ∙ of_port_found (find (named_port name) m.ports) refl
