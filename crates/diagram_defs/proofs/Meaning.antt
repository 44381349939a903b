-- What the numbers of a table mean, step by step.
use Rattle.std.proofs.Common.{◌≡◌, ◌≢◌, ℕ, suc, ◌+◌, ◌≤◌, ◌<◌, Bool, false, List, [], ◌∷◌, Option, Some, length, get_or, refl, sym, ap, ◌∙◌, subst, inl, inr, arith}
use Rattle.std.specs.List.{slice_get}
use Rattle.std.proofs.lemmas.List.{get_or_past}
use Rattle.std.proofs.lemmas.Bool.{cases_lt}
use Rattle.diagram_defs.specs.Diagrams.{Shape, Diagram, kids_in, kids_of, kid, member, IsKid, IsSet, AreNodes, IsPool}
use Rattle.diagram_defs.specs.Diagrams.IsKid.{empty, whole, node}

-- two tests that agree on all rests are one
pub same_tests : (f g : List ℕ → Bool) → ((rest : List ℕ) → f rest ≡ g rest) → f ≡ g
same_tests f g h = λ i rest. h rest i

-- a shape is its level and its children
pub same_shapes : (s t : Shape) → s.level ≡ t.level → s.kids ≡ t.kids → s ≡ t
same_shapes s t p q = λ i. record { level = p i; kids = q i }

pub kids_of-node : (nodes : List Shape) (n at : ℕ) (shape : Shape) → n ≡ at + 2 → slice_get nodes at ≡ Some shape → kids_of nodes n ≡ shape.kids
kids_of-node nodes n at shape e is =
    let two : n ≡ suc (suc at) = omega arith in
    ap (kids_of nodes) two ∙ ap kids_in is

pub kid-node : (nodes : List Shape) (n at : ℕ) (shape : Shape) (v : ℕ) → n ≡ at + 2 → slice_get nodes at ≡ Some shape → kid nodes n v ≡ get_or shape.kids v 0
kid-node nodes n at shape v e is = ap (λ (ks : List ℕ). get_or ks v 0) (kids_of-node nodes n at shape e is)

pub member-empty : (nodes : List Shape) (rest : List ℕ) → member nodes 0 rest ≡ false
member-empty nodes [] = refl
member-empty nodes (v ∷ rest) = member-empty nodes rest

module _ (arities : List ℕ) (nodes : List Shape) where
  -- a number below some places is below more
  pub IsKid-more : (places more level n : ℕ) → places ≤ more → IsKid arities nodes places level n → IsKid arities nodes more level n
  IsKid-more places more level n le (empty z) = empty z
  IsKid-more places more level n le (whole w at) = whole w at
  IsKid-more places more level n le (node at shape is below there same) = node at shape is (omega arith) there same

  -- a child is of the next level
  pub IsKid-kid : AreNodes arities nodes → (places level n : ℕ) → IsKid arities nodes places level n → (v : ℕ) → IsKid arities nodes places (level + 1) (kid nodes n v)
  IsKid-kid sound places level n (empty z) v = empty (ap (λ (k : ℕ). kid nodes k v) z)
  IsKid-kid sound places level n (whole w at) v = empty (ap (λ (k : ℕ). kid nodes k v) w)
  IsKid-kid sound places level n (node at shape is below there same) v =
      let P : ℕ → Type 0 = λ k. IsKid arities nodes places (level + 1) k in
      let all = sound.each at shape there in
      subst P (sym (kid-node nodes n at shape v is there))
      (elim (cases_lt v (length shape.kids)) [
        | inl inside ↦ IsKid-more at places (level + 1) _ (omega arith) (subst (λ (l : ℕ). IsKid arities nodes at (l + 1) (get_or shape.kids v 0)) same (all.below.each v inside))
        | inr past ↦ empty (get_or_past shape.kids v 0 past)
      ])

  -- a nonempty number has one level
  pub one_level : (places l m n : ℕ) → n ≢ 0 → IsKid arities nodes places l n → IsKid arities nodes places m n → l ≡ m
  one_level places l m n ne (empty z) other = absurd (ne z)
  one_level places l m n ne (whole w at) (empty z) = absurd (ne z)
  one_level places l m n ne (whole w at) (whole w' at') = at ∙ sym at'
  one_level places l m n ne (whole w at) (node at' shape' is' below' there' same') = absurd (omega arith)
  one_level places l m n ne (node at shape is below there same) (empty z) = absurd (ne z)
  one_level places l m n ne (node at shape is below there same) (whole w' at') = absurd (omega arith)
  one_level places l m n ne (node at shape is below there same) (node at' shape' is' below' there' same') =
      let place : at ≡ at' = omega arith in
      let found = ap (slice_get nodes) place in
      let one : ◌≡◌ {A = Option Shape} (Some shape) (Some shape') = sym there ∙ found ∙ there' in
      let same_ones : shape ≡ shape' = cc in
      sym same ∙ ap (λ (s : Shape). s.level) same_ones ∙ same'

-- the level of 1 is the number of levels
pub level_of_one : (d : Diagram) (level : ℕ) → IsSet d level 1 → level ≡ length d.arities
level_of_one d level (empty z) = absurd (omega arith)
level_of_one d level (whole w at) = at
level_of_one d level (node at shape is below there same) = absurd (omega arith)

-- a number that isn't empty is of a level that there is
pub level_within : (d : Diagram) (pool : IsPool d) (level n : ℕ) → IsSet d level n → n ≢ 0 → level ≤ length d.arities
level_within d pool level n (empty z) ne = absurd (ne z)
level_within d pool level n (whole w at) ne = omega arith
level_within d pool level n (node at shape is below there same) ne = let good = (pool.nodes.each at shape there).level_in in omega arith

-- a number above the last level isn't 1
pub inner_number : (d : Diagram) (level n : ℕ) → level < length d.arities → IsSet d level n → n ≢ 1
inner_number d level n inside (empty z) one = omega arith
inner_number d level n inside (whole w at) one = omega arith
inner_number d level n inside (node at shape is below there same) one = omega arith

-- behind the last level only 1 isn't empty
pub last_number : (d : Diagram) (pool : IsPool d) (level n : ℕ) → level ≡ length d.arities → IsSet d level n → n ≢ 0 → n ≡ 1
last_number d pool level n at (empty z) ne = absurd (ne z)
last_number d pool level n at (whole w at') ne = w
last_number d pool level n at (node place shape is below there same) ne =
    let good = (pool.nodes.each place shape there).level_in in absurd (omega arith)

-- a set that isn't empty has a rest behind some value
pub some_kid : (d : Diagram) (pool : IsPool d) (level n : ℕ) → level < length d.arities → IsSet d level n → n ≢ 0 → ((v : ℕ) → v < get_or d.arities level 0 → kid d.nodes n v ≡ 0) → ⊥
some_kid d pool level n inside (empty z) ne none = ne z
some_kid d pool level n inside (whole w at) ne none = omega arith
some_kid d pool level n inside (node at shape is below there same) ne none =
    let some = pool.sharp.nonempty at shape there in
    let good = (pool.nodes.each at shape there).arity in
    let wide : length shape.kids ≡ get_or d.arities level 0 = good ∙ ap (λ (l : ℕ). get_or d.arities l 0) same in
    elim (cases_lt some.0 (length shape.kids)) [
      | inl low ↦ some.1 (sym (kid-node d.nodes n at shape some.0 is there) ∙ none some.0 (omega arith))
      | inr past ↦ some.1 (get_or_past shape.kids some.0 0 past)
    ]
