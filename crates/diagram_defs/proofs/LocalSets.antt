-- Sets of whole states that the values from some level on decide.
use Rattle.std.proofs.Common.{◌≡◌, ℕ, [], ◌∷◌, ◌+◌, ◌-◌, ◌≤◌, Bool, true, false, ◌&&◌, List, length, drop, refl, sym, ap, ◌∙◌, subst, arith}
use Rattle.std.proofs.Math.Bool.{and-false}
use Rattle.std.proofs.lemmas.Bool.{and_parts, false≢true}
use Rattle.diagram_defs.specs.Rests.{is_rest}
use Rattle.diagram_defs.specs.Diagrams.{Diagram, member, IsPool, IsSet, IsNumberFor, AreRests, Grows}
use Rattle.diagram_defs.specs.declared.locals.Local.{Local}
use Rattle.diagram_defs.specs.Locals.{IsLocal, IsLocalFor, states_from}
use Rattle.diagram_defs.specs.Sets.{widened_set}
use Rattle.diagram_defs.specs.Parts.{IsPartOf}
use Rattle.diagram_defs.proofs.Guards.{guard_alone}
use Rattle.diagram_defs.proofs.Meaning.{member-empty}
use Rattle.diagram_defs.proofs.Growth.{IsSet_grows, member_grows}
use Rattle.diagram_defs.proofs.PartLemmas.{IsPartOf_same}
use Rattle.diagram_defs.proofs.Widened.{widened_up, widened_itself, widened_twice}

-- a set of rests of a level, and the whole states that it makes
module _ (old : Diagram) (level : ℕ) (fits : level ≤ length old.arities) (set whole : List ℕ → Bool) (agree : (state : List ℕ) → widened_set old 0 level set state ≡ whole state) where
  pub whole_parts : IsPool old → AreRests old level set → (l : ℕ) (part : List ℕ → Bool) → IsPartOf (length old.arities) level set l part → IsPartOf (length old.arities) 0 whole l part
  whole_parts pool rests l part p =
      let here = IsPartOf_same (length old.arities) level set (widened_set old level level set) l part (widened_itself old level set rests) p in
      let zero_more : level ≡ 0 + level = omega arith in
      let up = widened_up old pool level set fits level 0 l part (omega arith) (subst (λ (n : ℕ). IsPartOf (length old.arities) n (widened_set old n level set) l part) zero_more here) in
      IsPartOf_same (length old.arities) 0 (widened_set old 0 level set) whole l part agree up

  pub local_made : (new : Diagram) (n : ℕ) → Grows old new → IsNumberFor new level set n → IsLocalFor new whole (record { level = level; number = n })
  local_made new n g is = record {
    is = record { level_in = subst (λ (arities : List ℕ). level ≤ length arities) (sym g.arities) fits; number_in = is.in_level };
    same = λ state.
        let full = ap (λ (arities : List ℕ). is_rest arities state) g.arities in
        let end = is.same (drop (level - 0) state) in
        let both : states_from new level n state ≡ widened_set old 0 level set state = λ i. full i && end i in
        both ∙ agree state;
  }

-- the same in a table that has grown
pub states_grow : (old new : Diagram) (level n : ℕ) → Grows old new → IsSet old level n → (state : List ℕ) → states_from new level n state ≡ states_from old level n state
states_grow old new level n g is state =
    let full = ap (λ (arities : List ℕ). is_rest arities state) g.arities in
    let end = member_grows old new level n (drop (level - 0) state) g is in
    λ i. full i && end i

pub IsLocal_grows : (old new : Diagram) (local : Local) → Grows old new → IsLocal old local → IsLocal new local
IsLocal_grows old new local g is = record {
  level_in = subst (λ (arities : List ℕ). local.level ≤ length arities) (sym g.arities) is.level_in;
  number_in = IsSet_grows old new local.level local.number g is.number_in;
}

pub local_grows : (old new : Diagram) (set : List ℕ → Bool) (local : Local) → Grows old new → IsLocalFor old set local → IsLocalFor new set local
local_grows old new set local g is = record {
  is = IsLocal_grows old new local g is.is;
  same = λ state. states_grow old new local.level local.number g is.is.number_in state ∙ is.same state;
}

pub local_same : (d : Diagram) (set other : List ℕ → Bool) (local : Local) → ((state : List ℕ) → set state ≡ other state) → IsLocalFor d set local → IsLocalFor d other local
local_same d set other local agree is = record { is = is.is; same = λ state. is.same state ∙ agree state }

module _ (d : Diagram) (level from n : ℕ) (order : level ≤ from) (fits : from ≤ length d.arities) where
  pub lowered_parts : IsPool d → (l : ℕ) (part : List ℕ → Bool) → IsPartOf (length d.arities) level (widened_set d level from (member d.nodes n)) l part → IsPartOf (length d.arities) 0 (states_from d from n) l part
  lowered_parts pool l part p =
      let zero_more : level ≡ 0 + level = omega arith in
      widened_up d pool from (member d.nodes n) fits level 0 l part (omega arith) (subst (λ (k : ℕ). IsPartOf (length d.arities) k (widened_set d k from (member d.nodes n)) l part) zero_more p)

  pub lowered_made : (new : Diagram) (lower : ℕ) → Grows d new → IsNumberFor new level (widened_set d level from (member d.nodes n)) lower → IsLocalFor new (states_from d from n) (record { level = level; number = lower })
  lowered_made new lower g is =
      let inside : level ≤ length d.arities = omega arith in
      local_made d level inside (widened_set d level from (member d.nodes n)) (states_from d from n) (widened_twice d level from (member d.nodes n) order) new lower g is

-- behind the last level nothing is left of a whole state
ends : (arities state : List ℕ) → is_rest arities state ≡ true → drop (length arities) state ≡ []
ends [] [] e = refl
ends [] (v ∷ rest) e = absurd (false≢true e)
ends (arity ∷ arities) [] e = absurd (false≢true e)
ends (arity ∷ arities) (v ∷ rest) e = ends arities rest (and_parts _ _ e).1

pub every_state : (d : Diagram) (level : ℕ) → level ≡ length d.arities → (state : List ℕ) → states_from d level 1 state ≡ is_rest d.arities state
every_state d level is state =
    let place : level - 0 ≡ length d.arities = omega arith in
    guard_alone (is_rest d.arities state) (member d.nodes 1 (drop (level - 0) state)) (λ e. ap (member d.nodes 1) (ap (λ (k : ℕ). drop k state) place ∙ ends d.arities state e))

pub no_state : (d : Diagram) (level : ℕ) (state : List ℕ) → states_from d level 0 state ≡ false
no_state d level state = ap (λ (b : Bool). is_rest d.arities state && b) (member-empty d.nodes (drop (level - 0) state)) ∙ and-false (is_rest d.arities state)
