-- What a walk remembers, and what it knew before, stays right.
use Rattle.std.proofs.Common.{◌≡◌, ℕ, ◌+◌, Bool, cond, List, Option, Some, length, sym, ap, ◌∙◌, subst, inl, inr, Result, Ok, Err, OnOk, OnErr}
use Rattle.std.specs.declared.hash.FoldHasher.{FoldHasher}
use Rattle.std.specs.declared.hash.BuildHasherDefault.{BuildHasherDefault}
use Rattle.std.specs.Cmp.Lexicographic.{same_text}
use Rattle.std.specs.HashMap.{HashMap, get, Updates, IsUnchanged}
use Rattle.std.specs.Map.{lookup}
use Rattle.std.proofs.lemmas.Bool.{and_parts, eqb-true, cases_Bool}
use Rattle.std.proofs.lemmas.Option.{same_Some}
use Rattle.diagram_defs.specs.declared.quantifiers.Quantifier.{Quantifier}
use Rattle.diagram_defs.specs.Diagrams.{Diagram, Grows}
use Rattle.diagram_defs.proofs.Growth.{IsNumberFor_grows, IsNumberFor_same}
use Rattle.state_meets.specs.declared.plans.Plan.{Plan}
use Rattle.state_meets.specs.declared.tuples.Tuple.{Tuple}
use Rattle.state_meets.specs.contracts.tuples.TuplePartialEq.TheImpl.{eq-value}
use Rattle.state_meets.specs.Walks.{AreBegun, walk_set}
use Rattle.state_meets.specs.Gathered.{IsPlan, begun_of}
use Rattle.state_meets.specs.Memos.{IsRemembered, IsMemo}
use Rattle.state_meets.proofs.Meets.{AreSets_grow, AreBegun_grow, walk_grows}

-- a plan
pub IsPlan_grows : (old new : Diagram) (plan : Plan) → Grows old new → IsPlan old plan → IsPlan new plan
IsPlan_grows old new plan g is = record {
  count = is.count ∙ ap (λ (arities : List ℕ). length arities + 1) (sym g.arities);
  begun = AreBegun_grow old new 0 (begun_of plan) g is.begun;
}

-- one result
module _ (q : Quantifier) (begun : List (List ℕ)) where
  pub remembered_grows : (old new : Diagram) (level : ℕ) (numbers : List ℕ) (n : ℕ) → Grows old new → AreBegun old 0 begun → IsRemembered old q begun level numbers n → IsRemembered new q begun level numbers n
  remembered_grows old new level numbers n g all was = record {
    sets = AreSets_grow old new level numbers g was.sets;
    number = IsNumberFor_same new level (walk_set old q begun level numbers) (walk_set new q begun level numbers) n (λ rest. sym (walk_grows old new q begun level numbers rest g was.sets all)) (IsNumberFor_grows old new level (walk_set old q begun level numbers) n g was.number);
  }

  pub IsMemo_grows : (old new : Diagram) (memo : HashMap Tuple ℕ (BuildHasherDefault FoldHasher)) → Grows old new → AreBegun old 0 begun → IsMemo old q begun memo → IsMemo new q begun memo
  IsMemo_grows old new memo g all was = record { each = λ tuple n is. remembered_grows old new tuple.level tuple.numbers.items n g all (was.each tuple n is) }

  -- one more right result, found for an equal tuple
  IsMemo_more : (d : Diagram) (old new : HashMap Tuple ℕ (BuildHasherDefault FoldHasher)) (tuple : Tuple) (n : ℕ) → ((p : Tuple) → get eq-value.it new p ≡ cond (eq-value.it tuple p) (Some n) (get eq-value.it old p)) → IsMemo d q begun old → IsRemembered d q begun tuple.level tuple.numbers.items n → IsMemo d q begun new
  IsMemo_more d old new tuple n updates was right = record {
    each = λ p m is. elim (cases_Bool (eq-value.it tuple p)) [
      | inl hit ↦
          let found : ◌≡◌ {A = Option ℕ} (Some n) (Some m) = ap (λ (b : Bool). cond b (Some n) (get eq-value.it old p)) (sym hit) ∙ sym (updates p) ∙ is in
          let both = and_parts _ _ hit in
          let level = eqb-true tuple.level p.level both.0 in
          let items = same_text tuple.numbers.items p.numbers.items (sym both.1) in
          subst (λ (l : ℕ). IsRemembered d q begun l p.numbers.items m) level (subst (λ (xs : List ℕ). IsRemembered d q begun tuple.level xs m) items (subst (IsRemembered d q begun tuple.level tuple.numbers.items) (same_Some n m found) right))
      | inr other ↦ was.each p m (ap (λ (b : Bool). cond b (Some n) (get eq-value.it old p)) (sym other) ∙ sym (updates p) ∙ is)
    ];
  }

  -- what an attempt to remember one leaves
  pub IsMemo_after : {A E : Type 0} (r : Result A E) (d : Diagram) (old new : HashMap Tuple ℕ (BuildHasherDefault FoldHasher)) (tuple : Tuple) (n : ℕ) → OnOk r (Updates eq-value.it old new tuple (Some n)) → OnErr r (IsUnchanged old new) → IsMemo d q begun old
      → IsRemembered d q begun tuple.level tuple.numbers.items n → IsMemo d q begun new
  IsMemo_after (Ok x) d old new tuple n ok err was right = IsMemo_more d old new tuple n ok.0 was right
  IsMemo_after (Err x) d old new tuple n ok err was right =
      record { each = λ p m is. was.each p m (ap (λ es. lookup (eq-value.it p) es) (sym err) ∙ is) }
