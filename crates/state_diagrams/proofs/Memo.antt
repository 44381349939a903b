-- What the table remembers stays right.
use Rattle.std.proofs.Common.{◌≡◌, ℕ, Bool, true, cond, ◌&&◌, List, Option, Some, refl, sym, ap, ◌∙◌, subst, inl, inr, drop, Result, Ok, Err, OnOk, OnErr}
use Rattle.std.specs.declared.hash.FoldHasher.{FoldHasher}
use Rattle.std.specs.declared.hash.BuildHasherDefault.{BuildHasherDefault}
use Rattle.std.specs.HashMap.{HashMap, get, Updates, IsUnchanged}
use Rattle.std.specs.Map.{lookup}
use Rattle.std.proofs.lemmas.Bool.{and_parts, eqb-true, cases_Bool}
use Rattle.std.proofs.lemmas.Option.{same_Some}
use Rattle.diagram_defs.specs.Rests.{is_rest}
use Rattle.diagram_defs.specs.Diagrams.{Diagram, IsSet, Grows}
use Rattle.diagram_defs.proofs.Growth.{IsSet_grows, member_grows, IsNumberFor_grows, IsNumberFor_same}
use Rattle.state_diagrams.specs.declared.joins.Task.{Task}
use Rattle.state_diagrams.specs.declared.joins.Join.{Join}
use Rattle.state_diagrams.specs.declared.joins.Join.TheVariants.{Both, Either, Neither}
use Rattle.state_diagrams.specs.contracts.joins.TaskPartialEq.TheImpl.{eq-value}
use Rattle.state_diagrams.specs.contracts.joins.JoinPartialEq.TheImpl.{eq-value as join_eq-value}
use Rattle.state_diagrams.specs.Joins.{join_test, joined_set}
use Rattle.state_diagrams.specs.Remembered.{IsRemembered, IsMemo}

same_join : (a b : Join) → join_eq-value.it a b ≡ true → a ≡ b
same_join Both Both e = refl
same_join Both Either e = cc
same_join Both Neither e = cc
same_join Either Both e = cc
same_join Either Either e = refl
same_join Either Neither e = cc
same_join Neither Both e = cc
same_join Neither Either e = cc
same_join Neither Neither e = refl

same_task : (t u : Task) → eq-value.it t u ≡ true → t ≡ u
same_task t u e =
    let one = and_parts _ _ e in
    let two = and_parts _ _ one.1 in
    let three = and_parts _ _ two.1 in
    let join = same_join t.join u.join one.0 in
    let level = eqb-true t.level u.level two.0 in
    let a = eqb-true t.a u.a three.0 in
    let b = eqb-true t.b u.b three.1 in
    λ i. record { join = join i; level = level i; a = a i; b = b i }

-- a join means the same in a table that has grown
pub joined_set_grows : (old new : Diagram) (join : Join) (level a b : ℕ) (rest : List ℕ) → Grows old new → IsSet old level a → IsSet old level b → joined_set new join level a b rest ≡ joined_set old join level a b rest
joined_set_grows old new join level a b rest g first second =
    let p = ap (λ (arities : List ℕ). is_rest (drop level arities) rest) g.arities in
    let q = member_grows old new level a rest g first in
    let r = member_grows old new level b rest g second in
    λ i. p i && join_test join (q i) (r i)

IsRemembered_grows : (old new : Diagram) (task : Task) (n : ℕ) → Grows old new → IsRemembered old task n → IsRemembered new task n
IsRemembered_grows old new task n g was = record {
  first = IsSet_grows old new task.level task.a g was.first;
  second = IsSet_grows old new task.level task.b g was.second;
  joined = IsNumberFor_same new task.level (joined_set old task.join task.level task.a task.b) (joined_set new task.join task.level task.a task.b) n (λ rest. sym (joined_set_grows old new task.join task.level task.a task.b rest g was.first was.second)) (IsNumberFor_grows old new task.level (joined_set old task.join task.level task.a task.b) n g was.joined);
}

pub IsMemo_grows : (old new : Diagram) (memo : HashMap Task ℕ (BuildHasherDefault FoldHasher)) → Grows old new → IsMemo old memo → IsMemo new memo
IsMemo_grows old new memo g was = record { each = λ task n is. IsRemembered_grows old new task n g (was.each task n is) }

-- one more right result
pub IsMemo_more : (d : Diagram) (old new : HashMap Task ℕ (BuildHasherDefault FoldHasher)) (task : Task) (n : ℕ) → ((q : Task) → get eq-value.it new q ≡ cond (eq-value.it task q) (Some n) (get eq-value.it old q)) → IsMemo d old → IsRemembered d task n → IsMemo d new
IsMemo_more d old new task n updates was right = record {
  each = λ q m is. elim (cases_Bool (eq-value.it task q)) [
    | inl hit ↦
        let found : ◌≡◌ {A = Option ℕ} (Some n) (Some m) = ap (λ (b : Bool). cond b (Some n) (get eq-value.it old q)) (sym hit) ∙ sym (updates q) ∙ is in
        subst (λ (t : Task). IsRemembered d t m) (same_task task q hit) (subst (IsRemembered d task) (same_Some n m found) right)
    | inr other ↦ was.each q m (ap (λ (b : Bool). cond b (Some n) (get eq-value.it old q)) (sym other) ∙ sym (updates q) ∙ is)
  ];
}

-- what an attempt to remember one leaves
pub IsMemo_after : {A E : Type 0} (r : Result A E) (d : Diagram) (old new : HashMap Task ℕ (BuildHasherDefault FoldHasher)) (task : Task) (n : ℕ) → OnOk r (Updates eq-value.it old new task (Some n)) → OnErr r (IsUnchanged old new) → IsMemo d old → IsRemembered d task n → IsMemo d new
IsMemo_after (Ok x) d old new task n ok err was right = IsMemo_more d old new task n ok.0 was right
IsMemo_after (Err x) d old new task n ok err was right =
    record { each = λ q m is. was.each q m (ap (λ es. lookup (eq-value.it q) es) (sym err) ∙ is) }
