-- The sets of all kept numbers to which a kept number leads, from the lower numbers up.
use Rattle.std.proofs.Common.{◌≡◌, ℕ, suc, ◌+◌, ◌≤◌, ◌<◌, Bool, ◌&&◌, List, [], ◌∷◌, length, get_or, drop, set, sym, ap, ◌∙◌, subst, inl, inr, arith}
use Rattle.std.proofs.Math.Bool.{and-false, and-true}
use Rattle.std.proofs.lemmas.Bool.{cases_eq}
use Rattle.std.proofs.lemmas.Grind.{get_or-set_at}
use Rattle.std.proofs.lemmas.List.{drop_all, get_or-set_other}
use Rattle.plain_lists.specs.declared.kept.Kept.{Kept}
use Rattle.plain_lists.specs.declared.kept.Place.{Place}
use Rattle.diagram_defs.specs.Rests.{is_rest}
use Rattle.diagram_defs.specs.Diagrams.{Diagram, Shape, member, kid, kids_of, IsNumberFor, Grows}
use Rattle.diagram_defs.specs.Diagrams.IsKid.{empty, whole, node}
use Rattle.diagram_defs.specs.Sets.{full_set}
use Rattle.diagram_defs.proofs.Meaning.{member-empty, one_level, IsKid-kid, kids_of-node}
use Rattle.diagram_defs.proofs.Growth.{IsNumberFor_grows}
use Rattle.lift_project.specs.Lifts.{shapes_of, AreKeptNodes, IsKept, ArePlaces, read_back, lifted_set}
use Rattle.lift_project.specs.Entries.{IsEntry, IsAllowed}
use Rattle.lift_project.specs.Entries.IsEntry.{child}
use Rattle.lift_project.specs.Marks.{Leads, IsMarked, AreReached}
use Rattle.lift_project.specs.Lifted.{AreKidsLifted}
use Rattle.lift_project.proofs.MarkLemmas.{number_below, no_kids}

-- each marked number below some number has the number of its set
pub record AreLifted (kept : Kept) (arities : List ℕ) (places : List Place) (d : Diagram) (marks : List Bool) (n : ℕ) (sets : List ℕ) : Type 0 where
  pub each : (m level : ℕ) → m < n → IsMarked marks m → IsKept kept level m → IsNumberFor d 0 (lifted_set arities (shapes_of kept) (drop level places) m) (get_or sets m 0)

-- 0 has no states, and 1 all of them
pub lifted_none : (d : Diagram) (arities : List ℕ) (nodes : List Shape) (places : List Place) (n set : ℕ) → n ≡ 0 → set ≡ 0 → IsNumberFor d 0 (lifted_set arities nodes places n) set
lifted_none d arities nodes places n set none is = record {
  in_level = empty is;
  same = λ state.
      ap (λ (k : ℕ). member d.nodes k state) is ∙ member-empty d.nodes state
      ∙ sym (ap (λ (k : ℕ). is_rest arities state && member nodes k (read_back places state)) none ∙ ap (λ (b : Bool). is_rest arities state && b) (member-empty nodes (read_back places state)) ∙ and-false (is_rest arities state));
}

pub lifted_whole : (d : Diagram) (kept : Kept) (places : List Place) (level n : ℕ) → ArePlaces kept d.arities places → n ≡ 1 → IsKept kept level n → (state : List ℕ) → full_set d 0 state ≡ lifted_set d.arities (shapes_of kept) (drop level places) n state
lifted_whole d kept places level n fits one (empty z) state = absurd (omega arith)
lifted_whole d kept places level n fits one (whole w at) state =
    let none : drop level places ≡ [] = drop_all level places (let c = fits.count in omega arith) in
    sym (ap (λ (ps : List Place). lifted_set d.arities (shapes_of kept) ps n state) none ∙ ap (λ (k : ℕ). lifted_set d.arities (shapes_of kept) [] k state) one ∙ and-true (is_rest d.arities state))
lifted_whole d kept places level n fits one (node at shape is below there same) state = absurd (omega arith)

-- what a number leads to is kept at its level
pub kept_behind : (kept : Kept) → AreKeptNodes kept → (front : List ℕ) (level n m : ℕ) → IsKept kept level n → Leads (shapes_of kept) n front m → IsKept kept (level + length front) m
kept_behind kept sound [] level n m is same =
    subst (λ (l : ℕ). IsKept kept l m) (let e : level ≡ level + 0 = omega arith in e) (subst (IsKept kept level) same is)
kept_behind kept sound (v ∷ front) level n m is way =
    let further = kept_behind kept sound front (level + 1) (kid (shapes_of kept) n v) m (IsKid-kid kept.arities (shapes_of kept) sound (length kept.nodes) level n is v) way.1 in
    subst (λ (l : ℕ). IsKept kept l m) (let e : level + 1 + length front ≡ level + suc (length front) = omega arith in e) further

-- behind the last level a number has no children
kept_last : (kept : Kept) → AreKeptNodes kept → (level n v : ℕ) → length kept.arities ≤ level → IsKept kept level n → v < length (kids_of (shapes_of kept) n) → ⊥
kept_last kept sound level n v last (empty z) low = no_kids (shapes_of kept) n v (omega arith) low
kept_last kept sound level n v last (whole w at) low = no_kids (shapes_of kept) n v (omega arith) low
kept_last kept sound level n v last (node at shape is below there same) low = let good = (sound.each at shape there).level_in in omega arith

-- what a number stands for, those before it stand for too
pub entry_behind : (kept : Kept) → AreKeptNodes kept → (arities front : List ℕ) (places : List Place) (level n m : ℕ) (entry : List ℕ → Bool) → IsKept kept level n → level + length places ≡ length kept.arities → Leads (shapes_of kept) n front m → IsEntry arities (shapes_of kept) (drop (length front) places) m entry → IsEntry arities (shapes_of kept) places n entry
entry_behind kept sound arities [] places level n m entry is count same listed =
    subst (λ (k : ℕ). IsEntry arities (shapes_of kept) places k entry) (sym same) listed
entry_behind kept sound arities (v ∷ front) [] level n m entry is count way listed =
    absurd (kept_last kept sound level n v (omega arith) is way.0)
entry_behind kept sound arities (v ∷ front) (place ∷ places) level n m entry is count way listed =
    let below = IsKid-kid kept.arities (shapes_of kept) sound (length kept.nodes) level n is v in
    child place places n v entry way.0 (entry_behind kept sound arities front places (level + 1) (kid (shapes_of kept) n v) m entry below (omega arith) way.1 listed)

-- a child has a lower number
kid_less : (kept : Kept) → AreKeptNodes kept → (level n v : ℕ) → IsKept kept level n → v < length (kids_of (shapes_of kept) n) → kid (shapes_of kept) n v < n
kid_less kept sound level n v (empty z) low = absurd (no_kids (shapes_of kept) n v (omega arith) low)
kid_less kept sound level n v (whole w at) low = absurd (no_kids (shapes_of kept) n v (omega arith) low)
kid_less kept sound level n v (node at shape is below there same) low =
    let all = kids_of-node (shapes_of kept) n at shape is there in
    let wide : v < length shape.kids = subst (λ (ks : List ℕ). v < length ks) all low in
    let less = number_below kept.arities (shapes_of kept) at (shape.level + 1) (get_or shape.kids v 0) ((sound.each at shape there).below.each v wide) in
    let e = ap (λ (ks : List ℕ). get_or ks v 0) all in
    omega arith

module _ (kept : Kept) (sound : AreKeptNodes kept) (places : List Place) (from : ℕ) (marks : List Bool) (reached : AreReached (shapes_of kept) from marks) where
  -- a marked number stands for what the first one stands for
  pub allowed_behind : (old mid : Diagram) → ArePlaces kept old.arities places → Grows old mid → (level n : ℕ) → IsKept kept 0 from → IsMarked marks n → 1 ≤ n → IsKept kept level n → (l : ℕ) (part : List ℕ → Bool) → IsAllowed mid.arities (shapes_of kept) (drop level places) n l part → IsAllowed old.arities (shapes_of kept) places from l part
  allowed_behind old mid fits g level n first marked low is l part p =
      let way = reached.leads n marked in
      let found = kept_behind kept sound way.0 0 from n first way.1 in
      let same : level ≡ length way.0 = one_level kept.arities (shapes_of kept) (length kept.nodes) level (0 + length way.0) n (λ z. omega arith) is found ∙ (let e : 0 + length way.0 ≡ length way.0 = omega arith in e) in
      let q = subst (λ (k : ℕ). IsAllowed old.arities (shapes_of kept) (drop k places) n l part) same (subst (λ (arities : List ℕ). IsAllowed arities (shapes_of kept) (drop level places) n l part) g.arities p) in
      record { entry = q.entry; listed = entry_behind kept sound old.arities way.0 places 0 from n q.entry first (let c = fits.count in omega arith) way.1 q.listed; of = q.of }

  -- the children of a marked number were found before it
  pub kids_lifted : (old mid : Diagram) (level n : ℕ) (sets : List ℕ) → Grows old mid → IsMarked marks n → IsKept kept level n → n < length sets → AreLifted kept old.arities places mid marks n sets → AreKidsLifted mid (shapes_of kept) (drop (level + 1) places) n sets
  kids_lifted old mid level n sets g marked is room so = record {
    inside = λ v low. let less = kid_less kept sound level n v is low in omega arith;
    each = λ v low.
        let below = IsKid-kid kept.arities (shapes_of kept) sound (length kept.nodes) level n is v in
        let one = so.each (kid (shapes_of kept) n v) (level + 1) (kid_less kept sound level n v is low) (reached.kids n v marked low) below in
        subst (λ (arities : List ℕ). IsNumberFor mid 0 (lifted_set arities (shapes_of kept) (drop (level + 1) places) (kid (shapes_of kept) n v)) (get_or sets (kid (shapes_of kept) n v) 0)) (sym g.arities) one;
  }

module _ (kept : Kept) (places : List Place) (marks : List Bool) where
  -- one more number was found
  pub lifted_more : (old mid new : Diagram) (level n value : ℕ) (sets : List ℕ) → Grows old mid → Grows mid new → 1 ≤ n → n < length sets → IsKept kept level n → AreLifted kept old.arities places mid marks n sets → IsNumberFor new 0 (lifted_set mid.arities (shapes_of kept) (drop level places) n) value → AreLifted kept old.arities places new marks (n + 1) (set sets n value)
  lifted_more old mid new level n value sets g h low room is so found = record {
    each = λ m l below marked kept_is. elim (cases_eq m n) [
      | inl same ↦
          let levels : level ≡ l = one_level kept.arities (shapes_of kept) (length kept.nodes) level l n (λ z. omega arith) is (subst (IsKept kept l) same kept_is) in
          let one = subst (λ (arities : List ℕ). IsNumberFor new 0 (lifted_set arities (shapes_of kept) (drop level places) n) value) g.arities found in
          let two = subst (λ (k : ℕ). IsNumberFor new 0 (lifted_set old.arities (shapes_of kept) (drop k places) n) value) levels one in
          let three = subst (λ (k : ℕ). IsNumberFor new 0 (lifted_set old.arities (shapes_of kept) (drop l places) k) value) (sym same) two in
          subst (IsNumberFor new 0 (lifted_set old.arities (shapes_of kept) (drop l places) m)) (sym (get_or-set_at sets n m value 0 same room)) three
      | inr other ↦
          let was = so.each m l (omega arith) marked kept_is in
          subst (IsNumberFor new 0 (lifted_set old.arities (shapes_of kept) (drop l places) m)) (sym (get_or-set_other sets n m value 0 other)) (IsNumberFor_grows mid new 0 _ (get_or sets m 0) h was)
    ];
  }

  -- a number that isn't marked counts for nothing
  pub lifted_skipped : (d : Diagram) (arities : List ℕ) (n : ℕ) (sets : List ℕ) → (IsMarked marks n → ⊥) → AreLifted kept arities places d marks n sets → AreLifted kept arities places d marks (n + 1) sets
  lifted_skipped d arities n sets none so = record {
    each = λ m l below marked is. elim (cases_eq m n) [
      | inl same ↦ absurd (none (subst (IsMarked marks) same marked))
      | inr other ↦ so.each m l (omega arith) marked is
    ];
  }
