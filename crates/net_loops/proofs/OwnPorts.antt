-- Bits of cells and models, the ports that they are of, and their names.
use Rattle.std.proofs.Common.{◌≡◌, ℕ, suc, ◌<◌, Bool, true, false, List, [], ◌∷◌, Option, None, Some, option_map, option_and_then, slice_get, refl, sym, ap, ◌∙◌, subst, arith}
use Rattle.std.specs.List.{list_any}
use Rattle.std.proofs.lemmas.Option.{same_Some}
use Rattle.pw_defs.specs.declared.design.Body.{Body}
use Rattle.pw_defs.specs.declared.design.Body.TheVariants.{Module as ModuleBody, Cell as CellBody, Model as ModelBody}
use Rattle.pw_defs.specs.declared.netlist.Port.{Port}
use Rattle.list_defs.specs.Members.{all_differ, same_name}
use Rattle.list_defs.proofs.Few.{place_of_member}
use Rattle.list_defs.proofs.NameLemmas.{IsIn-list_any, same_name-equal}
use Rattle.list_defs.proofs.Rising.{found_in}
use Rattle.design_defs.specs.Bits.{Spot, port_named, range_in}
use Rattle.design_defs.specs.DesignFaults.{FaultKind, HasPortAt, HasNoneBefore}
use Rattle.design_defs.specs.Hierarchy.{Sources, body_at, ports_in}
use Rattle.design_defs.specs.Ranges.{bit_name, width}
use Rattle.design_defs.proofs.BitOrders.{spot_of_parts}
use Rattle.design_laws.proofs.PortBits.{port_of_way}
use Rattle.design_laws.proofs.PortBitNames.{one_port_bit}

-- a body that shows nothing inside: a cell or a model
abbrev pub IsLeaf : Body → Type 0
IsLeaf (ModuleBody n) = ⊥
IsLeaf (CellBody c) = Unit {0}
IsLeaf (ModelBody m) = Unit {0}

-- the port that a bit of a cell or model belongs to
pub record HasOwnPort (s : Sources) (x : Spot) (range : Option (ℕ × ℕ)) : Type 0 where
  pub number : ℕ
  pub port : Port
  pub has : HasPortAt s x.way number port
  pub named : port.name ≡ x.net
  pub ranged : port.range ≡ range

pub own_port : (s : Sources) (x : Spot) (body : Body) (range : Option (ℕ × ℕ)) → IsLeaf body → body_at s x.way ≡ Some body → range_in s body x.net ≡ Some range → HasOwnPort s x range
own_port s x body range leaf is ranged = by body leaf is ranged
  where
    found : (b : Body) → body_at s x.way ≡ Some b → (ports : List Port) → ports_in s b ≡ Some ports → (o : Option Port) → port_named x.net ports ≡ o
        → option_map (λ (p : Port). p.range) o ≡ Some range → HasOwnPort s x range
    found b at ports has None e h = cc
    found b at ports has (Some p) e h =
        let in_ports = found_in (λ (q : Port). same_name x.net q.name) ports p e in
        let place = place_of_member p ports in_ports.0 in
        record { number = place.0; port = p; has = (b, ports, at, has, place.1); named = sym (same_name-equal x.net p.name in_ports.1); ranged = same_Some p.range range h }

    among : (b : Body) → body_at s x.way ≡ Some b → (o : Option (List Port)) → ports_in s b ≡ o → option_map (λ (p : Port). p.range) (option_and_then (port_named x.net) o) ≡ Some range
        → HasOwnPort s x range
    among b at None e h = cc
    among b at (Some ports) e h = found b at ports e (port_named x.net ports) refl h

    by : (b : Body) → IsLeaf b → body_at s x.way ≡ Some b → range_in s b x.net ≡ Some range → HasOwnPort s x range
    by (ModuleBody n) none at h = absurd none
    by (CellBody c) here at h = among (CellBody c) at (ports_in s (CellBody c)) refl h
    by (ModelBody m) here at h = among (ModelBody m) at (ports_in s (ModelBody m)) refl h

-- bits of one instance of one name are one
pub bit_alone : (s : Sources) → HasNoneBefore FaultKind.wire_loop s → (x y : Spot) (body : Body) (q r : Option (ℕ × ℕ)) → IsLeaf body → body_at s x.way ≡ Some body → y.way ≡ x.way
    → range_in s body x.net ≡ Some q → range_in s body y.net ≡ Some r → x.place < width q → y.place < width r → bit_name x.net q x.place ≡ bit_name y.net r y.place → x ≡ y
bit_alone s early x y body q r leaf is same range_x range_y low high name =
    let a = own_port s x body q leaf is range_x in
    let b = own_port s y body r leaf (ap (body_at s) same ∙ is) range_y in
    let here : HasPortAt s x.way b.number b.port = subst (λ w. HasPortAt s w b.number b.port) same b.has in
    let names : bit_name a.port.name a.port.range x.place ≡ bit_name b.port.name b.port.range y.place =
    ap (λ n. bit_name n a.port.range x.place) a.named ∙ ap (λ t. bit_name x.net t x.place) a.ranged ∙ name ∙ sym (ap (λ t. bit_name y.net t y.place) b.ranged)
    ∙ sym (ap (λ n. bit_name n b.port.range y.place) b.named) in
    let one = one_port_bit s early x.way a.number b.number a.port b.port x.place y.place a.has here (subst (λ t. x.place < width t) (sym a.ranged) low)
    (subst (λ t. y.place < width t) (sym b.ranged) high) names in
    let ports : a.port ≡ b.port = port_of_way s x.way x.way b.number a.port b.port refl (subst (λ (n : ℕ). HasPortAt s x.way n a.port) one.0 a.has) here in
    spot_of_parts x y (sym same) (sym a.named ∙ ap (λ (p : Port). p.name) ports ∙ b.named) one.1

-- names at different places differ where each stands at one place
pub all_differ-places : (names : List (List ℕ)) → ((i j : ℕ) (name : List ℕ) → slice_get names i ≡ Some name → slice_get names j ≡ Some name → i ≡ j) → all_differ same_name names ≡ true
all_differ-places [] one = refl
all_differ-places (name ∷ names) one = by (all_differ-places names (λ i j x at_i at_j. let same = one (suc i) (suc j) x at_i at_j in omega (arith, same))) (list_any (same_name name) names) refl
  where
    by : all_differ same_name names ≡ true → (b : Bool) → list_any (same_name name) names ≡ b → all_differ same_name (name ∷ names) ≡ true
    by rest true e = let again = place_of_member name names (IsIn-list_any name names e) in let same = one 0 (suc again.0) name refl again.1 in absurd (omega (arith, same))
    by rest false e = rw (e, rest) refl
