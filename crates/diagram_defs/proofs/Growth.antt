-- A table that grows keeps what its numbers mean.
use Rattle.std.proofs.Common.{◌≡◌, ℕ, ◌+◌, ◌≤◌, Bool, List, [], ◌∷◌, ◌++◌, length, refl, sym, ap, ◌∙◌, subst, arith, append-nil, append_assoc, length-append}
use Rattle.list_defs.proofs.Longer.{slice_get-append}
use Rattle.diagram_defs.specs.Diagrams.{Shape, Diagram, kid, member, IsKid, AreNodes, IsPool, IsSet, IsNumberFor, Grows}
use Rattle.diagram_defs.specs.Diagrams.IsKid.{empty, whole, node}
use Rattle.diagram_defs.proofs.Meaning.{kid-node, IsKid-kid, IsKid-more}

module _ (arities : List ℕ) (nodes more : List Shape) where
  pub IsKid-append : (places level n : ℕ) → IsKid arities nodes places level n → IsKid arities (nodes ++ more) places level n
  IsKid-append places level n (empty z) = empty z
  IsKid-append places level n (whole w at) = whole w at
  IsKid-append places level n (node at shape is below there same) = node at shape is below (slice_get-append nodes more at shape there) same

  kid-append : (places level n v : ℕ) → IsKid arities nodes places level n → kid (nodes ++ more) n v ≡ kid nodes n v
  kid-append places level n v (empty z) = ap (λ (k : ℕ). kid (nodes ++ more) k v) z ∙ sym (ap (λ (k : ℕ). kid nodes k v) z)
  kid-append places level n v (whole w at) = ap (λ (k : ℕ). kid (nodes ++ more) k v) w ∙ sym (ap (λ (k : ℕ). kid nodes k v) w)
  kid-append places level n v (node at shape is below there same) =
      kid-node (nodes ++ more) n at shape v is (slice_get-append nodes more at shape there) ∙ sym (kid-node nodes n at shape v is there)

  pub member-append : AreNodes arities nodes → (places level n : ℕ) (rest : List ℕ) → IsKid arities nodes places level n → member (nodes ++ more) n rest ≡ member nodes n rest
  member-append sound places level n [] is = refl
  member-append sound places level n (v ∷ rest) is =
      let ih = member-append sound places (level + 1) (kid nodes n v) rest (IsKid-kid arities nodes sound places level n is v) in
      ap (λ (k : ℕ). member (nodes ++ more) k rest) (kid-append places level n v is) ∙ ih

-- the same, of tables as a whole
pub Grows_refl : (d : Diagram) → IsPool d → Grows d d
Grows_refl d pool = record { was = pool; is = pool; arities = refl; bound = refl; more = ([], sym (append-nil d.nodes)) }

pub Grows_trans : (old mid new : Diagram) → Grows old mid → Grows mid new → Grows old new
Grows_trans old mid new g h = record {
  was = g.was;
  is = h.is;
  arities = h.arities ∙ g.arities;
  bound = h.bound ∙ g.bound;
  more = (g.more.0 ++ h.more.0, h.more.1 ∙ ap (λ (ns : List Shape). ns ++ h.more.0) g.more.1 ∙ append_assoc old.nodes g.more.0 h.more.0);
}

pub length_grows : (old new : Diagram) → Grows old new → length old.nodes ≤ length new.nodes
length_grows old new g = let e = ap length g.more.1 in omega (arith, length-append old.nodes g.more.0)

pub IsSet_grows : (old new : Diagram) (level n : ℕ) → Grows old new → IsSet old level n → IsSet new level n
IsSet_grows old new level n g is =
    let P : List ℕ → Type 0 = λ arities. IsKid arities new.nodes (length new.nodes) level n in
    let Q : List Shape → Type 0 = λ nodes. IsKid old.arities nodes (length new.nodes) level n in
    let wide = IsKid-more old.arities old.nodes (length old.nodes) (length new.nodes) level n (length_grows old new g) is in
    subst P (sym g.arities) (subst Q (sym g.more.1) (IsKid-append old.arities old.nodes g.more.0 (length new.nodes) level n wide))

pub member_grows : (old new : Diagram) (level n : ℕ) (rest : List ℕ) → Grows old new → IsSet old level n → member new.nodes n rest ≡ member old.nodes n rest
member_grows old new level n rest g is =
    ap (λ (ns : List Shape). member ns n rest) g.more.1 ∙ member-append old.arities old.nodes g.more.0 g.was.nodes (length old.nodes) level n rest is

pub IsNumberFor_grows : (old new : Diagram) (level : ℕ) (test : List ℕ → Bool) (n : ℕ) → Grows old new → IsNumberFor old level test n → IsNumberFor new level test n
IsNumberFor_grows old new level test n g is = record {
  in_level = IsSet_grows old new level n g is.in_level;
  same = λ rest. member_grows old new level n rest g is.in_level ∙ is.same rest;
}

pub IsNumberFor_same : (d : Diagram) (level : ℕ) (test other : List ℕ → Bool) (n : ℕ) → ((rest : List ℕ) → test rest ≡ other rest) → IsNumberFor d level test n → IsNumberFor d level other n
IsNumberFor_same d level test other n agree is = record { in_level = is.in_level; same = λ rest. is.same rest ∙ agree rest }
