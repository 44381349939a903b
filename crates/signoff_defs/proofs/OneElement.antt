-- A walk has one list of elements.
use Rattle.std.proofs.Common.{◌≡◌, ℕ, Bool, true, false, List, ◌++◌, Option, Some, sym, ap, subst, ◌∙◌, refl}
use Rattle.std.specs.List.{AllZip}
use Rattle.std.proofs.lemmas.Option.{same_Some}
use Rattle.pw_defs.specs.declared.cells.Cell.{Cell as LeafCell}
use Rattle.pw_defs.specs.declared.chains.Element.{Element}
use Rattle.pw_defs.specs.declared.chains.Element.TheVariants.{Face as FaceElement, Cell as CellElement}
use Rattle.pw_defs.specs.declared.design.Design.{Design}
use Rattle.pw_defs.specs.declared.design.PortBit.{PortBit}
use Rattle.pw_defs.specs.declared.intent.Face.{Face}
use Rattle.pw_defs.specs.declared.intent.Intent.{Intent}
use Rattle.pw_defs.specs.declared.intent.SupplySet.{SupplySet}
use Rattle.pw_defs.specs.declared.strategies.Candidate.{Candidate}
use Rattle.pw_defs.specs.declared.strategies.Tool.TheVariants.{Iso, Shift}
use Rattle.supply_defs.specs.UnitViews.{HasRoots, view_ends}
use Rattle.supply_defs.proofs.SameSets.{one_set_of_roots}
use Rattle.domain_defs.specs.Faces.{HasFaces}
use Rattle.domain_defs.proofs.FaceLaws.{one_pair_of_faces, faces_or_agree}
use Rattle.signoff_defs.specs.Elements.{AreSeenAt, HasInput, IsSeenCell, IsElement, HasNoElement, AreElements}
use Rattle.signoff_defs.specs.Seen.{IsSeenCandidate}
use Rattle.signoff_defs.specs.WalkParts.{Part}
use Rattle.list_defs.proofs.OneFound.{found_once}
use Rattle.signoff_defs.proofs.OneSeen.{candidates_once, seen_once, stated_once}

at_once : (d : Design) (i : Intent) (unit : ℕ) (face : Face) (xs ys : List Candidate) → AreSeenAt d i unit face xs → AreSeenAt d i unit face ys → xs ≡ ys
at_once d i unit face xs ys p q =
    let isolating : p.isolating ≡ q.isolating = candidates_once d i face Iso p.isolating q.isolating p.are_isolating q.are_isolating in
    let shifting : p.shifting ≡ q.shifting = candidates_once d i face Shift p.shifting q.shifting p.are_shifting q.are_shifting in
    let all : p.isolating ++ p.shifting ≡ q.isolating ++ q.shifting = cc in
    seen_once i.supplies (view_ends i.supplies i.units unit) (q.isolating ++ q.shifting) xs ys
    (subst (λ (cs : List Candidate). AllZip (IsSeenCandidate i.supplies (view_ends i.supplies i.units unit)) cs xs) all p.seen) q.seen

input_once : (d : Design) (i : Intent) (unit inst : ℕ) (s t : Bool) (x y : Option SupplySet) → s ≡ t → HasInput d i unit inst s x
    → HasInput d i unit inst t y → x ≡ y
input_once d i unit inst false false x y same p q = p ∙ sym q
input_once d i unit inst false true x y same p q = cc
input_once d i unit inst true false x y same p q = cc
input_once d i unit inst true true x y same p q = stated_once i.supplies (view_ends i.supplies i.units unit) _ _ x y refl p q

cell_with : {a b s t : Bool} {x y : Option SupplySet} {u v : SupplySet} → a ≡ b → s ≡ t → x ≡ y → u ≡ v → CellElement a s x u ≡ CellElement b t y v
cell_with {a} {b} {s} {t} {x} {y} {u} {v} p q e f = cc

cell_once : (d : Design) (i : Intent) (unit inst : ℕ) (a s b t : Bool) (x y : Option SupplySet) (u v : SupplySet) → IsSeenCell d i unit inst a s x u
    → IsSeenCell d i unit inst b t y v
    → CellElement a s x u ≡ CellElement b t y v
cell_once d i unit inst a s b t x y u v p q =
    let leaf : p.leaf ≡ q.leaf = same_Some p.leaf q.leaf (sym p.is_cell ∙ q.is_cell) in
    let iso : a ≡ b = p.iso_is ∙ ap (λ (c : LeafCell). c.iso) leaf ∙ sym q.iso_is in
    let shift : s ≡ t = p.shift_is ∙ ap (λ (c : LeafCell). c.shift) leaf ∙ sym q.shift_is in
    let set : p.set ≡ q.set = same_Some p.set q.set (sym p.has_set ∙ q.has_set) in
    cell_with iso shift (input_once d i unit inst s t x y shift p.input_is q.input_is)
    (one_set_of_roots i.supplies (view_ends i.supplies i.units unit) q.set u v
    (subst (λ (w : SupplySet). HasRoots i.supplies (view_ends i.supplies i.units unit) w u) set p.output_is) q.output_is)

element_once : (d : Design) (i : Intent) (unit : ℕ) (p q : Part) (x y : Element) → p ≡ q → IsElement d i unit p x → IsElement d i unit q y → x ≡ y
element_once d i unit _ _ _ _ same (IsElement.inner_face p out ins cs has at) (IsElement.inner_face q out' ins' es has' at') =
    let one : p ≡ q = cc in
    let faces = one_pair_of_faces d i q out out' ins ins' (subst (λ (b : PortBit). HasFaces d i b out ins) one has) has' in
    ap FaceElement (at_once d i unit ins' cs es (subst (λ (f : Face). AreSeenAt d i unit f cs) faces.1 at) at')
element_once d i unit _ _ _ _ same (IsElement.inner_face p out ins cs has at) (IsElement.outer_face q out' ins' es has' at') = cc
element_once d i unit _ _ _ _ same (IsElement.inner_face p out ins cs has at) (IsElement.passed_cell inst iso shift input output is) = cc
element_once d i unit _ _ _ _ same (IsElement.outer_face p out ins cs has at) (IsElement.inner_face q out' ins' es has' at') = cc
element_once d i unit _ _ _ _ same (IsElement.outer_face p out ins cs has at) (IsElement.outer_face q out' ins' es has' at') =
    let one : p ≡ q = cc in
    let faces = one_pair_of_faces d i q (Some out) (Some out') ins ins' (subst (λ (b : PortBit). HasFaces d i b (Some out) ins) one has) has' in
    let outs : out ≡ out' = same_Some out out' faces.0 in
    ap FaceElement (at_once d i unit out' cs es (subst (λ (f : Face). AreSeenAt d i unit f cs) outs at) at')
element_once d i unit _ _ _ _ same (IsElement.outer_face p out ins cs has at) (IsElement.passed_cell inst iso shift input output is) = cc
element_once d i unit _ _ _ _ same (IsElement.passed_cell inst iso shift input output is) (IsElement.inner_face q out' ins' es has' at') = cc
element_once d i unit _ _ _ _ same (IsElement.passed_cell inst iso shift input output is) (IsElement.outer_face q out' ins' es has' at') = cc
element_once d i unit _ _ _ _ same (IsElement.passed_cell inst iso shift input output is) (IsElement.passed_cell inst' iso' shift' input' output' is') =
    let one : inst ≡ inst' = cc in
    cell_once d i unit inst' iso shift iso' shift' input input' output output' (subst (λ (n : ℕ). IsSeenCell d i unit n iso shift input output) one is) is'

not_both : (d : Design) (i : Intent) (unit : ℕ) (p : Part) (x : Element) → IsElement d i unit p x → HasNoElement d i p → ⊥
not_both d i unit _ _ (IsElement.inner_face p out ins cs has at) agree = faces_or_agree d i p out ins has agree
not_both d i unit _ _ (IsElement.outer_face p out ins cs has at) agree = faces_or_agree d i p (Some out) ins has agree
not_both d i unit _ _ (IsElement.passed_cell inst iso shift input output is) none = none

-- parts have one list of elements
pub elements_once : (d : Design) (i : Intent) (unit : ℕ) (ps : List Part) (xs ys : List Element) → AreElements d i unit ps xs → AreElements d i unit ps ys
    → xs ≡ ys
elements_once d i unit = found_once (IsElement d i unit) (HasNoElement d i) (λ p x y. element_once d i unit p p x y refl) (not_both d i unit)
