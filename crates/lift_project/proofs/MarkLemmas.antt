-- Marks at the numbers that a kept number leads to.
use Rattle.std.proofs.Common.{◌≡◌, ℕ, zero, suc, ◌+◌, ◌-◌, ◌≤◌, ◌<◌, Bool, ◌⊎◌, List, [], ◌∷◌, ◌++◌, Some, length, map, get_or, option_map, sym, ap, ◌∙◌, subst, inl, inr, arith}
use Rattle.std.specs.List.{slice_get}
use Rattle.std.proofs.lemmas.Bool.{cases_lt, cases_eq}
use Rattle.std.proofs.lemmas.Option.{slice_get-map, slice_get-get_or}
use Rattle.std.proofs.lemmas.Grind.{get_or_default_zero}
use Rattle.plain_lists.specs.declared.kept.KeptNode.{KeptNode}
use Rattle.diagram_defs.specs.Diagrams.{Shape, kid, kids_of, IsKid, AreNodes}
use Rattle.diagram_defs.specs.Diagrams.IsKid.{empty, whole, node}
use Rattle.diagram_defs.proofs.Meaning.{kid-node, kids_of-node}
use Rattle.lift_project.specs.Lifts.{shape_of}
use Rattle.lift_project.specs.Marks.{Leads, IsMarked, AreReached, MarksKids}

-- the first children are marked
pub record MarksFirst (kids : List ℕ) (count : ℕ) (old new : List Bool) : Type 0 where
  pub size : length new ≡ length old
  pub stay : (n : ℕ) → IsMarked old n → IsMarked new n
  pub marked : (v : ℕ) → v < count → IsMarked new (get_or kids v 0)
  pub only : (n : ℕ) → IsMarked new n → IsMarked old n ⊎ ((v : ℕ) × (v < count) × (get_or kids v 0 ≡ n))

-- one value further
pub leads_more : (nodes : List Shape) (front : List ℕ) (from n v : ℕ) → Leads nodes from front n → v < length (kids_of nodes n) → Leads nodes from (front ++ v ∷ []) (kid nodes n v)
leads_more nodes [] from n v same low =
    (subst (λ (k : ℕ). v < length (kids_of nodes k)) (sym same) low, ap (λ (k : ℕ). kid nodes k v) same)
leads_more nodes (w ∷ front) from n v way low = (way.0, leads_more nodes front (kid nodes from w) n v way.1 low)

-- 0 and 1 have no children
pub no_kids : (nodes : List Shape) (n v : ℕ) → n ≤ 1 → v < length (kids_of nodes n) → ⊥
no_kids nodes zero v small low = omega arith
no_kids nodes (suc zero) v small low = omega arith
no_kids nodes (suc (suc n)) v small low = omega arith

-- a number is below two more than the places that it may stand at
pub number_below : (arities : List ℕ) (nodes : List Shape) (places level n : ℕ) → IsKid arities nodes places level n → n < places + 2
number_below arities nodes places level n (empty z) = omega arith
number_below arities nodes places level n (whole w at) = omega arith
number_below arities nodes places level n (node at shape is below there same) = omega arith

-- a kept node as a shape
pub kept_shape : (nodes : List KeptNode) (at : ℕ) (other : KeptNode) → at < length nodes → slice_get (map shape_of nodes) at ≡ Some (shape_of (get_or nodes at other))
kept_shape nodes at other inside =
    slice_get-map shape_of nodes at ∙ ap (option_map shape_of) (slice_get-get_or nodes at other inside)

-- children have places among the marks
pub kids_within : (arities : List ℕ) (nodes : List Shape) → AreNodes arities nodes → (at : ℕ) (shape : Shape) → slice_get nodes at ≡ Some shape → (n room : ℕ) → n ≡ at + 2 → n ≤ room → (kids : List ℕ) → kids ≡ shape.kids → (k d : ℕ) → k < length kids → get_or kids k d < room
kids_within arities nodes sound at shape there n room number fits kids same k d low =
    let wide : k < length shape.kids = subst (λ (ks : List ℕ). k < length ks) same low in
    let less = number_below arities nodes at (shape.level + 1) (get_or shape.kids k 0) ((sound.each at shape there).below.each k wide) in
    let e = get_or_default_zero kids k d low ∙ ap (λ (ks : List ℕ). get_or ks k 0) same in
    omega arith

-- the marks stand at all to which a number leads by numbers from some number on
pub record AreReachedDown (nodes : List Shape) (node n : ℕ) (marks : List Bool) : Type 0 where
  pub low : n ≤ node
  pub size : length marks ≡ node + 1
  pub itself : IsMarked marks node
  pub leads : (m : ℕ) → IsMarked marks m → (front : List ℕ) × Leads nodes node front m
  pub kids : (m v : ℕ) → n < m → IsMarked marks m → v < length (kids_of nodes m) → IsMarked marks (kid nodes m v)

module _ (arities : List ℕ) (nodes : List Shape) (from n : ℕ) where
  -- the number's children are marked
  pub down_more : AreNodes arities nodes → (shape : Shape) (old new : List Bool) → 1 < n → slice_get nodes (n - 2) ≡ Some shape → MarksKids shape.kids old new → IsMarked old n → AreReachedDown nodes from n old → AreReachedDown nodes from (n - 1) new
  down_more sound shape old new high there marks here was = record {
    low = let low = was.low in omega arith;
    size = marks.size ∙ was.size;
    itself = marks.stay from was.itself;
    leads = λ m is. elim (marks.only m is) [
      | inl before ↦ was.leads m before
      | inr by ↦
          let way = was.leads n here in
          let low : by.0 < length (kids_of nodes n) = subst (λ (ks : List ℕ). by.0 < length ks) (sym all) by.1 in
          (way.0 ++ by.0 ∷ [], subst (Leads nodes from (way.0 ++ by.0 ∷ [])) (at_kid by.0 ∙ by.2) (leads_more nodes way.0 from n by.0 way.1 low))
    ];
    kids = λ m v after is low. elim (cases_lt n m) [
      | inl later ↦ elim (marks.only m is) [
        | inl before ↦ marks.stay (kid nodes m v) (was.kids m v later before low)
        | inr by ↦ let less = below by.0 by.1 in let e = by.2 in absurd (omega arith)
      ]
      | inr early ↦
          let same : m ≡ n = omega arith in
          let wide : v < length shape.kids = subst (λ (ks : List ℕ). v < length ks) (ap (kids_of nodes) same ∙ all) low in
          subst (IsMarked new) (sym (ap (λ (k : ℕ). kid nodes k v) same ∙ at_kid v)) (marks.marked v wide)
    ];
  }
    where
      number : n ≡ n - 2 + 2
      number = omega arith

      all : kids_of nodes n ≡ shape.kids
      all = kids_of-node nodes n (n - 2) shape number there

      at_kid : (v : ℕ) → kid nodes n v ≡ get_or shape.kids v 0
      at_kid v = kid-node nodes n (n - 2) shape v number there

      below : (v : ℕ) → v < length shape.kids → get_or shape.kids v 0 < n
      below v inside =
          let less = number_below arities nodes (n - 2) (shape.level + 1) (get_or shape.kids v 0) ((sound.each (n - 2) shape there).below.each v inside) in omega arith

  -- a number to which nothing leads
  pub down_skipped : (marks : List Bool) → (IsMarked marks n → ⊥) → AreReachedDown nodes from n marks → AreReachedDown nodes from (n - 1) marks
  down_skipped marks none was = record {
    low = let low = was.low in omega arith;
    size = was.size;
    itself = was.itself;
    leads = was.leads;
    kids = λ m v after is low. elim (cases_lt n m) [
      | inl later ↦ was.kids m v later is low
      | inr early ↦ elim (cases_eq m n) [
        | inl same ↦ absurd (none (subst (IsMarked marks) same is))
        | inr other ↦ absurd (no_kids nodes m v (omega arith) low)
      ]
    ];
  }

  pub down_end : (marks : List Bool) → n ≤ 1 → AreReachedDown nodes from n marks → AreReached nodes from marks
  down_end marks last was = record {
    size = was.size;
    itself = was.itself;
    leads = was.leads;
    kids = λ m v is low. elim (cases_lt n m) [
      | inl later ↦ was.kids m v later is low
      | inr early ↦ absurd (no_kids nodes m v (omega arith) low)
    ];
  }
