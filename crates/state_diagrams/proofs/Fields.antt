-- What the fields of a table say of the diagram that its users see.
use Rattle.std.proofs.Common.{◌≡◌, ℕ, suc, ◌+◌, ◌-◌, ◌≤◌, ◌<◌, List, Option, Some, None, map, length, get_or, refl, ap, ◌∙◌, arith}
use Rattle.std.specs.List.{slice_get}
use Rattle.std.specs.Option.{option_map}
use Rattle.std.proofs.lemmas.List.{length-map}
use Rattle.std.proofs.lemmas.Option.{slice_get-map, slice_get-get_or}
use Rattle.diagram_defs.specs.Diagrams.{Shape, Diagram, kids_in, kid, IsSet}
use Rattle.diagram_defs.specs.Diagrams.IsKid.{node}
use Rattle.diagram_defs.proofs.Meaning.{kid-node}
use Rattle.state_diagrams.specs.declared.nodes.Node.{Node}
use Rattle.state_diagrams.specs.Nodes.{shape}
use Rattle.state_diagrams.proofs.Shapes.{shape_at}

-- the children of a number whose node is there
pub kid_there : (nodes : List Node) (n v : ℕ) (one : Node) → 2 ≤ n → slice_get nodes (n - 2) ≡ Some one → kid (map shape nodes) n v ≡ get_or one.kids.items v 0
kid_there nodes n v one high is =
    let e : n ≡ n - 2 + 2 = omega arith in
    kid-node (map shape nodes) n (n - 2) (shape one) v e (shape_at nodes (n - 2) one is)

-- and of one that has none
pub kid_past : (nodes : List Node) (n v : ℕ) → 2 ≤ n → slice_get nodes (n - 2) ≡ None → kid (map shape nodes) n v ≡ 0
kid_past nodes n v high is =
    let e : n ≡ suc (suc (n - 2)) = omega arith in
    let none = slice_get-map shape nodes (n - 2) ∙ ap (option_map shape) is in
    ap (λ (k : ℕ). kid (map shape nodes) k v) e ∙ ap (λ (found : Option Shape). get_or (kids_in found) v 0) none

-- a number in range is of its node's level
pub level_there : (d : Diagram) (nodes : List Node) (n : ℕ) (one : Node) → d.nodes ≡ map shape nodes → 2 ≤ n → n < length d.nodes + 2 → IsSet d (get_or nodes (n - 2) one).level n
level_there d nodes n one view low high =
    let size = ap length view ∙ length-map nodes shape in
    let inside : n - 2 < length nodes = omega arith in
    let is = slice_get-get_or nodes (n - 2) one inside in
    node (n - 2) (shape (get_or nodes (n - 2) one)) (omega arith) (omega arith) (ap (λ (ns : List Shape). slice_get ns (n - 2)) view ∙ shape_at nodes (n - 2) (get_or nodes (n - 2) one) is) refl
