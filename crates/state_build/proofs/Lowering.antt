-- Sets of whole states from a level on, and what operations make of them.
use Rattle.std.proofs.Common.{◌≡◌, ℕ, ◌-◌, Bool, true, false, not, ◌&&◌, List, drop, refl, ap, ◌∙◌, arith, Result, Ok, Err, IfOk}
use Rattle.std.proofs.lemmas.Bool.{and_parts}
use Rattle.plain_lists.specs.declared.faults.DiagFault.{DiagFault}
use Rattle.diagram_defs.specs.Rests.{is_rest}
use Rattle.diagram_defs.specs.declared.locals.Local.{Local}
use Rattle.diagram_defs.specs.Diagrams.{Diagram, member, IsPool, AreRests}
use Rattle.diagram_defs.specs.Locals.{IsLocalFor}
use Rattle.diagram_defs.specs.Sets.{complement_set, widened_set}
use Rattle.diagram_defs.proofs.Listed.{is_rest-drop}
use Rattle.diagram_defs.proofs.LocalSets.{local_same}

-- an answer for a set that has the same states
pub same_local : (d : Diagram) (set other : List ℕ → Bool) → ((state : List ℕ) → set state ≡ other state) → (r : Result Local DiagFault) → IfOk r (λ local. IsLocalFor d set local) → IfOk r (λ local. IsLocalFor d other local)
same_local d set other agree (Ok local) is = local_same d set other local agree is
same_local d set other agree (Err e) is = tt

without_full : (a b m : Bool) → (a ≡ true → b ≡ true) → (a && (b && not m)) ≡ (a && not (a && m))
without_full true b m h = ap (λ (x : Bool). x && not m) (h refl)
without_full false b m h = refl

-- the whole states of the sets that operations make
module _ (d : Diagram) (pool : IsPool d) (level : ℕ) where
  pub complement_states : (n : ℕ) (set : List ℕ → Bool) → IsLocalFor d set (record { level = level; number = n }) → (state : List ℕ) → widened_set d 0 level (complement_set d level n) state ≡ (is_rest d.arities state && not (set state))
  complement_states n set is state =
      let none : level - 0 ≡ level = omega arith in
      without_full (is_rest d.arities state) (is_rest (drop level d.arities) (drop (level - 0) state)) (member d.nodes n (drop (level - 0) state)) (λ e. ap (λ (k : ℕ). is_rest (drop level d.arities) (drop k state)) none ∙ is_rest-drop level d.arities state e)
      ∙ ap (λ (b : Bool). is_rest d.arities state && not b) (is.same state)

  pub complement_rests : (n : ℕ) → AreRests d level (complement_set d level n)
  complement_rests n = record { each = λ rest e. (and_parts _ _ e).0 }
