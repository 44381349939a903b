-- A table with a further node.
use Rattle.std.proofs.Common.{◌≡◌, ℕ, ◌+◌, ◌≤◌, ◌<◌, List, [], ◌∷◌, ◌++◌, Some, length, get_or, refl, sym, ap, ◌∙◌, subst, inl, inr, arith, append-nil, Result, Ok, Err, IfOk, OnErr}
use Rattle.std.specs.List.{slice_get}
use Rattle.std.proofs.lemmas.List.{length_push}
use Rattle.std.proofs.lemmas.Bool.{cases_lt}
use Rattle.std.proofs.lemmas.Option.{slice_get_within, same_Some}
use Rattle.diagram_defs.specs.Diagrams.{Shape, Diagram, HasKid, IsNode, AreNodes, AreSharp, IsPool, Grows}
use Rattle.list_defs.proofs.Longer.{slice_get_front, slice_get_last}
use Rattle.diagram_defs.proofs.Growth.{IsKid-append}
use Rattle.state_diagrams.specs.Nodes.{IsAbsent, IsPut}

IsNode-append : (arities : List ℕ) (nodes more : List Shape) (places : ℕ) (shape : Shape) → IsNode arities nodes places shape → IsNode arities (nodes ++ more) places shape
IsNode-append arities nodes more places shape is = record {
  level_in = is.level_in;
  arity = is.arity;
  below = record { each = λ v inside. IsKid-append arities nodes more places (shape.level + 1) (get_or shape.kids v 0) (is.below.each v inside) };
}

module _ (nodes : List Shape) (new : Shape) where
  pub late : (at : ℕ) (shape : Shape) → length nodes ≤ at → slice_get (nodes ++ new ∷ []) at ≡ Some shape → (at ≡ length nodes) × (new ≡ shape)
  late at shape past there =
      let inside = slice_get_within (nodes ++ new ∷ []) at shape there in
      let place : at ≡ length nodes = omega (arith, length_push nodes new) in
      (place, same_Some new shape (sym (slice_get_last nodes new at place) ∙ there))

  AreNodes-push : (arities : List ℕ) → AreNodes arities nodes → IsNode arities nodes (length nodes) new → AreNodes arities (nodes ++ new ∷ [])
  AreNodes-push arities sound is = record {
    each = λ at shape there. elim (cases_lt at (length nodes)) [
      | inl early ↦ IsNode-append arities nodes (new ∷ []) at shape (sound.each at shape (slice_get_front nodes (new ∷ []) at shape early there))
      | inr past ↦
          let last = late at shape past there in
          subst (λ (k : ℕ). IsNode arities (nodes ++ new ∷ []) k shape) (sym last.0) (subst (IsNode arities (nodes ++ new ∷ []) (length nodes)) last.1 (IsNode-append arities nodes (new ∷ []) (length nodes) new is))
    ];
  }

  AreSharp-push : AreSharp nodes → HasKid new.kids → IsAbsent nodes new → AreSharp (nodes ++ new ∷ [])
  AreSharp-push sharp some absent = record {
    nonempty = λ at shape there. elim (cases_lt at (length nodes)) [
      | inl early ↦ sharp.nonempty at shape (slice_get_front nodes (new ∷ []) at shape early there)
      | inr past ↦ subst (λ (s : Shape). HasKid s.kids) (late at shape past there).1 some
    ];
    distinct = λ i j shape at_i at_j. elim (cases_lt i (length nodes)) [
      | inl early ↦ elim (cases_lt j (length nodes)) [
        | inl soon ↦ sharp.distinct i j shape (slice_get_front nodes (new ∷ []) i shape early at_i) (slice_get_front nodes (new ∷ []) j shape soon at_j)
        | inr past ↦ absurd (absent i (slice_get_front nodes (new ∷ []) i shape early at_i ∙ ap Some (sym (late j shape past at_j).1)))
      ]
      | inr past ↦ elim (cases_lt j (length nodes)) [
        | inl soon ↦ absurd (absent j (slice_get_front nodes (new ∷ []) j shape soon at_j ∙ ap Some (sym (late i shape past at_i).1)))
        | inr after ↦ (late i shape past at_i).0 ∙ sym (late j shape after at_j).0
      ]
    ];
  }

IsPool-push : (d : Diagram) (new : Shape) → IsPool d → IsNode d.arities d.nodes (length d.nodes) new → HasKid new.kids → IsAbsent d.nodes new → length d.nodes < d.bound → IsPool (record { arities = d.arities; bound = d.bound; nodes = d.nodes ++ new ∷ [] })
IsPool-push d new pool is some absent room = record {
  arities = pool.arities;
  nodes = AreNodes-push d.nodes new d.arities pool.nodes is;
  sharp = AreSharp-push d.nodes new pool.sharp some absent;
  within = omega (arith, length_push d.nodes new);
  limit = pool.limit;
}

-- what putting a node into the table leaves
pub Grows_put : (d : Diagram) (nodes : List Shape) (new : Shape) (n : ℕ) → IsPool d → IsNode d.arities d.nodes (length d.nodes) new → HasKid new.kids → length d.nodes < d.bound → IsPut d.nodes nodes new n → Grows d (record { arities = d.arities; bound = d.bound; nodes = nodes })
Grows_put d nodes new n pool is some room put = elim put.1 [
  | inl same ↦
      record { was = pool; is = subst (λ (ns : List Shape). IsPool (record { arities = d.arities; bound = d.bound; nodes = ns })) (sym same) pool; arities = refl; bound = refl; more = ([], same ∙ sym (append-nil d.nodes)) }
  | inr fresh ↦
      record { was = pool; is = subst (λ (ns : List Shape). IsPool (record { arities = d.arities; bound = d.bound; nodes = ns })) (sym fresh.1) (IsPool-push d new pool is some fresh.0 room); arities = refl; bound = refl; more = (new ∷ [], fresh.1) }
]

-- what an attempt to put one leaves
pub Grows_after : {E : Type 0} (r : Result ℕ E) (d : Diagram) (nodes : List Shape) (new : Shape) → IsPool d → IsNode d.arities d.nodes (length d.nodes) new → HasKid new.kids → length d.nodes < d.bound → IfOk r (IsPut d.nodes nodes new) → OnErr r (nodes ≡ d.nodes) → Grows d (record { arities = d.arities; bound = d.bound; nodes = nodes })
Grows_after (Ok n) d nodes new pool is some room ok err = Grows_put d nodes new n pool is some room ok
Grows_after (Err e) d nodes new pool is some room ok err =
    record { was = pool; is = subst (λ (ns : List Shape). IsPool (record { arities = d.arities; bound = d.bound; nodes = ns })) (sym err) pool; arities = refl; bound = refl; more = ([], err ∙ sym (append-nil d.nodes)) }
