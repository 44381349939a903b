-- A kept number is any of its alternatives, and what is found for them.
use Rattle.std.proofs.Common.{◌≡◌, ℕ, zero, suc, ◌+◌, ◌-◌, ◌≤◌, ◌<◌, Bool, true, ◌&&◌, ◌||◌, nat_eq, List, ◌∷◌, Option, Some, length, get_or, drop, sym, ap, ◌∙◌, subst, inl, inr, arith}
use Rattle.std.specs.List.{slice_get, position_or_len}
use Rattle.std.proofs.lemmas.List.{get_or_past, drop_more}
use Rattle.std.proofs.lemmas.List.Sums.{position_or_len_is, passes_at_first}
use Rattle.std.proofs.lemmas.Bool.{and_parts, and_from, or_cases, or_left, or_right, cases_lt, eqb-true, eq-eqb, false≢true, false_from_ne_true}
use Rattle.std.proofs.lemmas.Option.{slice_get-get_or}
use Rattle.plain_lists.specs.declared.kept.Kept.{Kept}
use Rattle.plain_lists.specs.declared.kept.KeptNode.{KeptNode}
use Rattle.plain_lists.specs.declared.kept.Place.{Place}
use Rattle.diagram_defs.specs.Rests.{is_rest}
use Rattle.diagram_defs.specs.Diagrams.{Diagram, Shape, member, kid, kids_of, IsNumberFor, Grows}
use Rattle.diagram_defs.specs.Diagrams.IsKid.{empty, whole, node}
use Rattle.diagram_defs.specs.Sets.{or_set}
use Rattle.diagram_defs.specs.Parts.{IsPartOfSome, IsPartOf}
use Rattle.diagram_defs.proofs.Listed.{same_truth}
use Rattle.diagram_defs.proofs.Meaning.{member-empty, kids_of-node}
use Rattle.diagram_defs.proofs.Growth.{member_grows}
use Rattle.lift_project.specs.Lifts.{shape_of, shapes_of, AreKeptNodes, IsKept, IsPlace, ArePlaces, read_back, lifted_set}
use Rattle.lift_project.specs.Entries.{value_set, alternative_set, first_alternatives, held_set, IsStep, IsAllowed}
use Rattle.lift_project.specs.Entries.IsStep.{alone, both}
use Rattle.lift_project.specs.Entries.IsEntry.{first, alternative, value}
use Rattle.lift_project.proofs.MarkLemmas.{kept_shape}
use Rattle.lift_project.proofs.EntryLemmas.{listed_grown}

-- a kept node: its children, its values, and its place before the places of its children
pub record Stands (kept : Kept) (arities : List ℕ) (places : List Place) (level n : ℕ) (kids : List ℕ) (place : Place) : Type 0 where
  pub kids_are : kids_of (shapes_of kept) n ≡ kids
  pub wide : length kids ≡ get_or kept.arities level 0
  pub placed : IsPlace arities (get_or kept.arities level 0) place
  pub behind : drop level places ≡ place ∷ drop (level + 1) places

-- a kept node has a level
pub node_within : (kept : Kept) (level n : ℕ) → AreKeptNodes kept → 2 ≤ n → IsKept kept level n → level < length kept.arities
node_within kept level n sound low (empty z) = absurd (omega arith)
node_within kept level n sound low (whole w at) = absurd (omega arith)
node_within kept level n sound low (node at shape is below there same) = let good = (sound.each at shape there).level_in in omega arith

pub stands : (kept : Kept) (arities : List ℕ) (places : List Place) (level n : ℕ) (kids : List ℕ) (place : Place) (other : KeptNode) → ArePlaces kept arities places → AreKeptNodes kept → 2 ≤ n → IsKept kept level n → kids ≡ (get_or kept.nodes (n - 2) other).kids → place ≡ get_or places level place → Stands kept arities places level n kids place
stands kept arities places level n kids place other fits sound low (empty z) are is = absurd (omega arith)
stands kept arities places level n kids place other fits sound low (whole w at) are is = absurd (omega arith)
stands kept arities places level n kids place other fits sound low (node at shape number below there same) are is =
    let good = sound.each at shape there in
    let first : at ≡ n - 2 = omega arith in
    let inside : n - 2 < length kept.nodes = omega arith in
    let found : slice_get (shapes_of kept) at ≡ Some (shape_of (get_or kept.nodes (n - 2) other)) = ap (slice_get (shapes_of kept)) first ∙ kept_shape kept.nodes (n - 2) other inside in
    let one : ◌≡◌ {A = Option Shape} (Some shape) (Some (shape_of (get_or kept.nodes (n - 2) other))) = sym there ∙ found in
    let shapes : shape ≡ shape_of (get_or kept.nodes (n - 2) other) = cc in
    let its : shape.kids ≡ kids = ap (λ (s : Shape). s.kids) shapes ∙ sym are in
    let room : level < length places = let l = good.level_in in let c = fits.count in omega arith in
    let here : slice_get places level ≡ Some place = slice_get-get_or places level place room ∙ ap (λ (p : Place). Some p) (sym is) in
    record {
      kids_are = kids_of-node (shapes_of kept) n at shape number there ∙ its;
      wide = ap length (sym its) ∙ good.arity ∙ ap (λ (l : ℕ). get_or kept.arities l 0) same;
      placed = fits.each level place here;
      behind = drop_more places level place room ∙ ap (λ (p : Place). p ∷ drop (level + 1) places) (sym is);
    }

-- one alternative more
first_more : (arities : List ℕ) (nodes : List Shape) (place : Place) (places : List Place) (n v : ℕ) (state : List ℕ) → first_alternatives arities nodes place places n (v + 1) state ≡ first_alternatives arities nodes place places n v state || alternative_set arities nodes place places n v state
first_more arities nodes place places n v state =
    let next : v + 1 ≡ suc v = omega arith in
    ap (λ (k : ℕ). first_alternatives arities nodes place places n k state) next

module _ (arities : List ℕ) (nodes : List Shape) (place : Place) (places : List Place) (n : ℕ) where
  -- an alternative among the first ones, and one of the first ones that holds
  some_first : (count v : ℕ) (state : List ℕ) → v < count → alternative_set arities nodes place places n v state ≡ true → first_alternatives arities nodes place places n count state ≡ true
  some_first zero v state low is = absurd (omega arith)
  some_first (suc count) v state low is = elim (cases_lt v count) [
    | inl early ↦ or_left _ _ (some_first count v state early is)
    | inr late ↦
        let last : v ≡ count = omega arith in
        or_right _ _ (subst (λ (w : ℕ). alternative_set arities nodes place places n w state ≡ true) last is)
  ]

  which_first : (count : ℕ) (state : List ℕ) → first_alternatives arities nodes place places n count state ≡ true → (v : ℕ) × (v < count) × (alternative_set arities nodes place places n v state ≡ true)
  which_first zero state is = absurd (false≢true is)
  which_first (suc count) state is = elim (or_cases _ _ is) [
    | inl before ↦ let found = which_first count state before in (found.0, omega arith, found.2)
    | inr last ↦ (count, omega arith, last)
  ]

  -- the set of a kept number is the one of all its alternatives
  pub lifted_any : (arity : ℕ) → length (kids_of nodes n) ≡ arity → IsPlace arities arity place → (state : List ℕ) → first_alternatives arities nodes place places n arity state ≡ lifted_set arities nodes (place ∷ places) n state
  lifted_any arity wide placed state = same_truth _ _ there back
    where
      index : ℕ
      index = get_or state place.level 0

      test : ℕ → Bool
      test i = nat_eq i index

      at : ℕ
      at = position_or_len test place.values

      there : first_alternatives arities nodes place places n arity state ≡ true → lifted_set arities nodes (place ∷ places) n state ≡ true
      there is =
          let found = which_first arity state is in
          let v = found.0 in
          let low : v < arity = found.1 in
          let parts = and_parts (value_set arities place.level (get_or place.values v 0) state) (lifted_set arities nodes places (kid nodes n v) state) found.2 in
          let kid_is = and_parts (is_rest arities state) (member nodes (kid nodes n v) (read_back places state)) parts.1 in
          let value_is = eqb-true index (get_or place.values v 0) (and_parts (is_rest arities state) (nat_eq index (get_or place.values v 0)) parts.0).1 in
          let count = placed.count in
          let early = λ (k : ℕ) (less : k < v). false_from_ne_true (test (get_or place.values k 0)) (λ t. let again = placed.distinct k v (omega arith) low (eqb-true _ _ t ∙ value_is) in absurd (omega arith)) in
          let same : at ≡ v = position_or_len_is test place.values v 0 (omega arith) early (λ inside. eq-eqb (get_or place.values v 0) index (sym value_is)) in
          and_from _ _ kid_is.0 (ap (λ (w : ℕ). member nodes (kid nodes n w) (read_back places state)) same ∙ kid_is.1)

      back : lifted_set arities nodes (place ∷ places) n state ≡ true → first_alternatives arities nodes place places n arity state ≡ true
      back is =
          let parts = and_parts (is_rest arities state) (member nodes (kid nodes n at) (read_back places state)) is in
          elim (cases_lt at arity) [
            | inl low ↦
                let count = placed.count in
                let passes = eqb-true (get_or place.values at 0) index (passes_at_first test place.values 0 (omega arith)) in
                some_first arity at state low (and_from _ _ (and_from _ _ parts.0 (eq-eqb index (get_or place.values at 0) (sym passes))) (and_from _ _ parts.0 parts.1))
            | inr past ↦
                let none : kid nodes n at ≡ 0 = get_or_past (kids_of nodes n) at 0 (omega arith) in
                absurd (false≢true (sym (member-empty nodes (read_back places state)) ∙ ap (λ (k : ℕ). member nodes k (read_back places state)) (sym none) ∙ parts.1))
          ]

-- an alternative that was found, and its union with those before it
module _ (old : Diagram) (nodes : List Shape) (place : Place) (places : List Place) (n v : ℕ) (low : v < length (kids_of nodes n)) where
  module _ (mid : Diagram) (g : Grows old mid) (index set : ℕ) (is : index ≡ get_or place.values v 0) (child : IsNumberFor old 0 (lifted_set old.arities nodes places (kid nodes n v)) set) where
    value_same : (state : List ℕ) → value_set mid.arities place.level index state ≡ value_set old.arities place.level (get_or place.values v 0) state
    value_same state = ap (λ (arities : List ℕ). value_set arities place.level index state) g.arities ∙ ap (λ (i : ℕ). value_set old.arities place.level i state) is

    pub held_same : (state : List ℕ) → held_set mid.arities place.level index (member mid.nodes set) state ≡ alternative_set old.arities nodes place places n v state
    held_same state =
        ap (λ (b : Bool). b && member mid.nodes set state) (value_same state)
        ∙ ap (λ (b : Bool). value_set old.arities place.level (get_or place.values v 0) state && b) (member_grows old mid 0 set state g child.in_level ∙ child.same state)

    pub held_parts : (l : ℕ) (part : List ℕ → Bool) → IsPartOfSome (length mid.arities) (IsStep mid.arities place.level index (member mid.nodes set)) l part → IsAllowed old.arities nodes (place ∷ places) n l part
    held_parts l part some = go some.entry some.listed some.of
      where
        go : (entry : List ℕ → Bool) → IsStep mid.arities place.level index (member mid.nodes set) entry → IsPartOf (length mid.arities) 0 entry l part → IsAllowed old.arities nodes (place ∷ places) n l part
        go entry alone p = listed_grown _ _ _ (value place places n v low) value_same old mid g l part p
        go entry both p = listed_grown _ _ _ (alternative place places n v low) held_same old mid g l part p

  module _ (new : Diagram) (g : Grows old new) (found one : ℕ) (before : IsNumberFor new 0 (first_alternatives old.arities nodes place places n v) found) (is : IsNumberFor new 0 (alternative_set old.arities nodes place places n v) one) where
    pub or_same : (state : List ℕ) → or_set new.nodes found one state ≡ first_alternatives old.arities nodes place places n (v + 1) state
    or_same state =
        ap (λ (b : Bool). b || member new.nodes one state) (before.same state)
        ∙ ap (λ (b : Bool). first_alternatives old.arities nodes place places n v state || b) (is.same state)
        ∙ sym (first_more old.arities nodes place places n v state)

    pub or_parts : (l : ℕ) (part : List ℕ → Bool) → IsPartOf (length new.arities) 0 (or_set new.nodes found one) l part → IsAllowed old.arities nodes (place ∷ places) n l part
    or_parts l part p = listed_grown _ _ _ (first place places n (v + 1) (omega arith)) or_same old new g l part p
