-- The ports of types, found among the nets of bodies.
use Rattle.std.proofs.Common.{◌≡◌, ℕ, suc, Bool, true, false, cond, List, [], ◌∷◌, Option, None, Some, refl, sym, ap, ◌∙◌, subst}
use Rattle.std.specs.Prelude.{option_map, option_and_then}
use Rattle.std.specs.List.{find}
use Rattle.pw_defs.specs.declared.design.Body.{Body}
use Rattle.pw_defs.specs.declared.netlist.Conn.{Conn}
use Rattle.pw_defs.specs.declared.netlist.Inst.{Inst}
use Rattle.pw_defs.specs.declared.netlist.Port.{Port}
use Rattle.list_defs.specs.Members.{place_of, same_name}
use Rattle.design_defs.specs.Bits.{port_named, range_in}
use Rattle.design_defs.specs.Hierarchy.{Sources, number_named, ports_in, type_of}
use Rattle.design_defs.specs.Links.{port_of_conn}
use Rattle.design_defs.specs.Ranges.{width}
use Rattle.net_places.specs.Nets.{OwnNet, own_net}
use Rattle.net_least.specs.declared.own.OwnFault.{OwnFault}
use Rattle.net_widths.specs.Ports.{width_if_port, width_of_port}
use Rattle.net_widths.specs.Refusals.{Finds, at_one_line, ports_of_conn, without_port}
use Rattle.net_widths.specs.Sides.{refused}
use Rattle.design_defs.proofs.BodiesThere.{type_there, found_range}

-- the first that passes a test has a place
found_place : {X : Type 0} (test : X → Bool) (xs : List X) (x : X) → find test xs ≡ Some x → (k : ℕ) × (place_of test xs ≡ Some k)
found_place test [] x h = cc
found_place {X} test (y ∷ ys) x h = by (test y) (found_place test ys x) h
  where
    by : (b : Bool) → (find test ys ≡ Some x → (k : ℕ) × (place_of test ys ≡ Some k)) → cond b (Some y) (find test ys) ≡ Some x
        → (k : ℕ) × (cond b (Some 0) (option_map suc (place_of test ys)) ≡ Some k)
    by true rest h = (0, refl)
    by false rest h = let found = rest h in (suc found.0, ap (option_map suc) found.1)

not_found : {X : Type 0} (test : X → Bool) (xs : List X) → find test xs ≡ None → place_of test xs ≡ None
not_found test [] h = refl
not_found {X} test (y ∷ ys) h = by (test y) (not_found test ys) h
  where
    by : (b : Bool) → (find test ys ≡ None → place_of test ys ≡ None) → cond b (Some y) (find test ys) ≡ None → cond b (Some 0) (option_map suc (place_of test ys)) ≡ None
    by true rest h = cc
    by false rest h = ap (option_map suc) (rest h)

-- how many bits a net has, where it is a port
abbrev own_width : Option OwnNet → Option ℕ
own_width None = None
own_width (Some n) = width_if_port n.port n.range

-- a port of a body is a net of it
net_width : (s : Sources) (body : Body) (ports : List Port) (name : List ℕ) → ports_in s body ≡ Some ports
    → own_width (own_net s body name) ≡ option_map (λ (p : Port). width p.range) (port_named name ports)
net_width s body ports name are = by (port_named name ports) refl
  where
    net : Option ℕ → Option (Option (ℕ × ℕ)) → Option OwnNet
    net place range = option_map (λ (r : Option (ℕ × ℕ)). record { name = name; range = r; port = place }) range

    place : option_and_then (number_named (λ (p : Port). p.name) name) (ports_in s body) ≡ number_named (λ (p : Port). p.name) name ports
    place = ap (option_and_then (number_named (λ (p : Port). p.name) name)) are

    no_place : (range : Option (Option (ℕ × ℕ))) → own_width (net None range) ≡ None
    no_place None = refl
    no_place (Some range) = refl

    by : (o : Option Port) → port_named name ports ≡ o → own_width (own_net s body name) ≡ option_map (λ (p : Port). width p.range) o
    by None absent =
        let none = place ∙ not_found (λ (p : Port). same_name name p.name) ports absent in
        ap (λ k. own_width (net k (range_in s body name))) none ∙ no_place (range_in s body name)
    by (Some p) found =
        let at = found_place (λ (q : Port). same_name name q.name) ports p found in
        λ q. own_width (net ((place ∙ at.1) q) (found_range s body ports name p are found q))

module _ (s : Sources) (kind name : List ℕ) (body : Body) (is_type : type_of s kind ≡ Some body) where
  own_width_is : own_width (own_net s body name) ≡ width_of_port s (Some body) name
  own_width_is =
      let has = type_there s kind body is_type in
      net_width s body has.0 name has.1 ∙ sym (ap (λ ports. option_map (λ (p : Port). width p.range) (option_and_then (port_named name) ports)) has.1)

  pub no_net_width : own_net s body name ≡ None → width_of_port s (Some body) name ≡ None
  no_net_width none = sym own_width_is ∙ ap own_width none

  pub net_port_width : (port : Option ℕ) (range : Option (ℕ × ℕ)) → own_net s body name ≡ Some (record { name = name; range = range; port = port })
      → width_of_port s (Some body) name ≡ width_if_port port range
  net_port_width port range owned = sym own_width_is ∙ ap own_width owned

-- a connection is refused where the type has no port of its name
pub without_port_by : (s : Sources) (i : Inst) (c : Conn) (symbols : List (List ℕ)) (line : ℕ) (body : Body) (found : Option ℕ)
    (best result : Option OwnFault) → type_of s i.kind ≡ Some body → found ≡ width_of_port s (Some body) c.port → line ≡ i.line
    → Finds symbols best result (at_one_line line (refused found (c.port ∷ []))) → Finds symbols best result (ports_of_conn s i c)
without_port_by s i c symbols line body found best result is_type is_width on_line finds = by (port_of_conn s i c) refl
  where
    port : port_of_conn s i c ≡ option_and_then (port_named c.port) (option_and_then (ports_in s) (Some body))
    port = ap (λ t. option_and_then (port_named c.port) (option_and_then (ports_in s) t)) is_type

    by : (p : Option Port) → port_of_conn s i c ≡ p → Finds symbols best result (at_one_line i.line (without_port c (type_of s i.kind) (port_of_conn s i c)))
    by None absent =
        let none : found ≡ None = is_width ∙ ap (option_map (λ (x : Port). width x.range)) (sym port ∙ absent) in
        let names : refused found (c.port ∷ []) ≡ without_port c (type_of s i.kind) (port_of_conn s i c) =
        ap (λ w. refused w (c.port ∷ [])) none ∙ sym (λ q. without_port c (is_type q) (absent q)) in
        subst (Finds symbols best result) (λ q. at_one_line (on_line q) (names q)) finds
    by (Some p) there =
        let some : found ≡ Some (width p.range) = is_width ∙ ap (option_map (λ (x : Port). width x.range)) (sym port ∙ there) in
        let names : refused found (c.port ∷ []) ≡ without_port c (type_of s i.kind) (port_of_conn s i c) =
        ap (λ w. refused w (c.port ∷ [])) some ∙ sym (λ q. without_port c (is_type q) (there q)) in
        subst (Finds symbols best result) (λ q. at_one_line (on_line q) (names q)) finds
