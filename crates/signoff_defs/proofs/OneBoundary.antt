-- A sound intent has one list of boundary lines.
use Rattle.std.proofs.Common.{◌≡◌, ℕ, List, [], ◌∷◌, sym, ap, subst, ◌∙◌}
use Rattle.std.specs.Cmp.{IsTotalOrder}
use Rattle.std.proofs.lemmas.Cmp.{nat_list_cmp_total, on_total, then_total}
use Rattle.std.proofs.lemmas.List.{append_cancel_left}
use Rattle.std.proofs.lemmas.Option.{same_Some}
use Rattle.pw_defs.specs.declared.design.Design.{Design}
use Rattle.pw_defs.specs.declared.intent.Intent.{Intent}
use Rattle.pw_defs.specs.declared.report.Boundary.{Boundary}
use Rattle.pw_defs.specs.declared.values.Value.{Value}
use Rattle.list_defs.specs.Orders.{IsPutInOrder}
use Rattle.design_defs.specs.Names.{joined}
use Rattle.supply_defs.specs.UnitLists.{AreValues}
use Rattle.supply_defs.specs.UnitViews.{view_ends}
use Rattle.supply_defs.proofs.Roots.{one_root}
use Rattle.supply_defs.proofs.UnitListLaws.{one_list_of_values}
use Rattle.signoff_defs.specs.Boundaries.{MacroPort, HasValuesIn, IsBeyond, IsBoundary, IsNoBoundary, AreBoundaries, boundary_cmp, macro_ports, values_beyond}
use Rattle.signoff_defs.proofs.SoundSupplies.{HasSoundSupplies}
use Rattle.list_defs.proofs.InOrder.{put_once}
use Rattle.list_defs.proofs.OneFound.{found_once}

values_once : (i : Intent) → HasSoundSupplies i → (unit supply : ℕ) (v w : List Value) → HasValuesIn i unit supply v → HasValuesIn i unit supply w → v ≡ w
values_once i sound unit supply v w a b =
    let root : a.root ≡ b.root = one_root i.supplies (view_ends i.supplies i.units unit) supply a.root b.root a.is_root b.is_root in
    let P : ℕ → ℕ → List Value → Type 0 = λ u r vs. AreValues i.supplies i.units u r vs in
    let first : P unit b.root a.list.values = subst (λ (r : ℕ). P unit r a.list.values) (a.of_root ∙ root)
    (subst (λ (u : ℕ). P u a.list.root a.list.values) a.of_unit (sound.lists.values a.list a.listed)) in
    let second : P unit b.root b.list.values = subst (λ (r : ℕ). P unit r b.list.values) b.of_root
    (subst (λ (u : ℕ). P u b.list.root b.list.values) b.of_unit (sound.lists.values b.list b.listed)) in
    a.values_are ∙ one_list_of_values i.supplies i.units unit b.root a.list.values b.list.values first second ∙ sym b.values_are

beyond_once : (i : Intent) → HasSoundSupplies i → (p : MacroPort) (v w : List Value) → IsBeyond i p v → IsBeyond i p w → v ≡ w
beyond_once i sound p v w a b =
    let outside : a.outside ≡ b.outside = values_once i sound 0 p.port a.outside b.outside a.has_outside b.has_outside in
    let inside : a.inside ≡ b.inside = values_once i sound p.unit p.port a.inside b.inside a.has_inside b.has_inside in
    let both : values_beyond a.outside a.inside ≡ values_beyond b.outside b.inside = ap (λ (vs : List Value). values_beyond vs a.inside) outside ∙ ap
    (values_beyond b.outside) inside in
    a.beyond ∙ both ∙ sym b.beyond

one_below : (path x y : List ℕ) → joined path x ≡ joined path y → x ≡ y
one_below [] x y same = same
one_below (c ∷ cs) x y same =
    let rest : 47 ∷ x ≡ 47 ∷ y = append_cancel_left (c ∷ cs) (47 ∷ x) (47 ∷ y) same in
    cc

boundary_with : {i j p q : List ℕ} {v w : List Value} → i ≡ j → p ≡ q → v ≡ w
    → (let b : Boundary = record { inst = i; port = p; values = v } in b) ≡ record { inst = j; port = q; values = w }
boundary_with {i} {j} {p} {q} {v} {w} a b c = cc

boundary_once : (d : Design) (i : Intent) → HasSoundSupplies i → (p : MacroPort) (x y : Boundary) → IsBoundary d i p x → IsBoundary d i p y → x ≡ y
boundary_once d i sound p x y a b =
    let inst : x.inst ≡ y.inst = same_Some x.inst y.inst (sym a.instance_name ∙ b.instance_name) in
    let port : x.port ≡ y.port = one_below y.inst x.port y.port (ap (λ (n : List ℕ). joined n x.port) (sym inst) ∙ a.port_name ∙ sym b.port_name) in
    boundary_with inst port (beyond_once i sound p x.values y.values a.beyond b.beyond)

not_both : (d : Design) (i : Intent) → HasSoundSupplies i → (p : MacroPort) (x : Boundary) → IsBoundary d i p x → IsNoBoundary i p → ⊥
not_both d i sound p x a none = a.some (beyond_once i sound p x.values [] a.beyond (none a.is_port))

boundary_cmp_total : IsTotalOrder boundary_cmp
boundary_cmp_total = then_total (on_total (λ (b : Boundary). b.inst) nat_list_cmp_total) (on_total (λ (b : Boundary). b.port) nat_list_cmp_total)

-- a sound intent has one list of boundary lines
pub boundaries_once : (d : Design) (i : Intent) → HasSoundSupplies i → (xs ys : List Boundary) → AreBoundaries d i xs → AreBoundaries d i ys → xs ≡ ys
boundaries_once d i sound xs ys a b =
    let found : a.found ≡ b.found = found_once (IsBoundary d i) (IsNoBoundary i) (boundary_once d i sound) (not_both d i sound)
    (macro_ports i) a.found b.found a.are_found b.are_found in
    put_once boundary_cmp boundary_cmp_total b.found xs ys (subst (λ (bs : List Boundary). IsPutInOrder boundary_cmp bs xs) found a.in_order) b.in_order
