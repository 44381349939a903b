-- Two nodes compare as equal exactly where they have one shape, so look-ups in the table are look-ups of shapes.
use Rattle.std.proofs.Common.{◌≡◌, ℕ, ◌+◌, Bool, true, false, nat_eq, ◌⊎◌, if◌then◌else◌, List, [], ◌∷◌, ◌++◌, Option, Some, None, map, refl, sym, ap, ◌∙◌, subst, inl, inr}
use Rattle.std.specs.List.{slice_get, list_any, position}
use Rattle.std.specs.Option.{option_map}
use Rattle.std.specs.Cmp.Lexicographic.{pointwise, same_text}
use Rattle.std.proofs.lemmas.Bool.{and_parts, and_from, eqb-true, eq-eqb, false≢true}
use Rattle.std.proofs.lemmas.Option.{slice_get-map, slice_get_within, get_or_from_slice_get, none-some, same_Some}
use Rattle.std.proofs.lemmas.List.{map_push}
use Rattle.std.proofs.lemmas.List.Folds.{list_any_at}
use Rattle.std.proofs.lemmas.List.Quantifiers.{position-Some}
use Rattle.diagram_defs.specs.Diagrams.{Shape}
use Rattle.state_diagrams.specs.declared.nodes.Node.{Node}
use Rattle.state_diagrams.specs.Nodes.{shape, IsAbsent, IsNumberOf, IsPut}
use Rattle.state_diagrams.specs.contracts.nodes.NodePartialEq.TheImpl.{eq-value}

abbrev pub node_eq : Node → Node → Bool
node_eq = eq-value.it

shaped : (l m : ℕ) (k j : List ℕ) → l ≡ m → k ≡ j → ◌≡◌ {A = Shape} (record { level = l; kids = k }) (record { level = m; kids = j })
shaped l m k j p q = cc

pointwise_self : (xs : List ℕ) → pointwise nat_eq xs xs ≡ true
pointwise_self [] = refl
pointwise_self (x ∷ xs) = and_from _ _ (eq-eqb x x refl) (pointwise_self xs)

pub same_shape : (a b : Node) → node_eq a b ≡ true → shape a ≡ shape b
same_shape a b e =
    let both = and_parts _ _ e in
    shaped a.level b.level a.kids.items b.kids.items (eqb-true _ _ both.0) (same_text _ _ (sym both.1))

pub equal_nodes : (a b : Node) → shape a ≡ shape b → node_eq a b ≡ true
equal_nodes a b e =
    let kids = ap (λ (s : Shape). s.kids) e in
    and_from _ _ (eq-eqb _ _ (ap (λ (s : Shape). s.level) e)) (subst (λ (ks : List ℕ). pointwise nat_eq a.kids.items ks ≡ true) kids (pointwise_self a.kids.items))

-- the shape at the place of a node
pub shape_at : (nodes : List Node) (at : ℕ) (node : Node) → slice_get nodes at ≡ Some node → slice_get (map shape nodes) at ≡ Some (shape node)
shape_at nodes at node e = slice_get-map shape nodes at ∙ ap (option_map shape) e

-- a node that no equal node is among has a shape that is absent
pub absent : (nodes : List Node) (node : Node) → list_any (node_eq node) nodes ≡ false → IsAbsent (map shape nodes) (shape node)
absent nodes node none at e =
    look (slice_get nodes at) refl
  where
    look : (found : Option Node) → slice_get nodes at ≡ found → ⊥
    look None is = none-some (shape node) (sym (slice_get-map shape nodes at ∙ ap (option_map shape) is) ∙ e)
    look (Some old) is =
        let same = same_Some _ _ (sym (shape_at nodes at old is) ∙ e) in
        let hit = list_any_at (node_eq node) nodes at old (slice_get_within _ _ _ is) (subst (λ (x : Node). node_eq node x ≡ true) (sym (get_or_from_slice_get nodes at old old is)) (equal_nodes node old (sym same))) in
        false≢true (sym none ∙ hit)

-- the place of the first equal node has the shape
pub placed : (nodes : List Node) (node old : Node) (at : ℕ) → Some at ≡ position (node_eq node) nodes → slice_get nodes at ≡ Some old → IsNumberOf (map shape nodes) (shape node) (at + 2)
placed nodes node old at first is =
    let equal = (position-Some (node_eq node) nodes at old (sym first)).1 in
    let here = subst (λ (x : Node). node_eq node x ≡ true) (get_or_from_slice_get nodes at old old is) equal in
    (at, refl, shape_at nodes at old is ∙ ap Some (sym (same_shape node old here)))

-- what an insertion leaves
pub put_node : (old new : List Node) (node stored : Node) (at : ℕ) → new ≡ (if◌then◌else◌ (list_any (node_eq node) old) old (old ++ node ∷ [])) → slice_get new at ≡ Some stored → node_eq node stored ≡ true → IsPut (map shape old) (map shape new) (shape node) (at + 2)
put_node old new node stored at keys is equal =
    ((at, refl, shape_at new at stored is ∙ ap Some (sym (same_shape node stored equal))), added (list_any (node_eq node) old) refl)
  where
    added : (had : Bool) → list_any (node_eq node) old ≡ had → (map shape new ≡ map shape old) ⊎ (IsAbsent (map shape old) (shape node) × (map shape new ≡ map shape old ++ shape node ∷ []))
    added true e = inl (ap (map shape) (keys ∙ ap (λ (b : Bool). if◌then◌else◌ b old (old ++ node ∷ [])) e))
    added false e = inr (absent old node e, ap (map shape) (keys ∙ ap (λ (b : Bool). if◌then◌else◌ b old (old ++ node ∷ [])) e) ∙ map_push shape old node)
