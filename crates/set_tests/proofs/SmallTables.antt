-- Tables and kept sets of two levels.
use Rattle.std.proofs.Common.{◌≡◌, ℕ, zero, suc, ◌+◌, ◌≤◌, ◌<◌, ◌⊎◌, List, [], ◌∷◌, ◌++◌, Some, length, map, get_or, refl, sym, ap, ◌∙◌, subst, inl, inr, arith, Bool, Result, Ok, Err, IfOk}
use Rattle.std.specs.List.{slice_get}
use Rattle.std.proofs.lemmas.Option.{same_Some, none-some}
use Rattle.plain_lists.specs.declared.faults.DiagFault.{DiagFault}
use Rattle.plain_lists.specs.declared.kept.Kept.{Kept}
use Rattle.plain_lists.specs.declared.kept.KeptNode.{KeptNode}
use Rattle.plain_lists.specs.declared.kept.Place.{Place}
use Rattle.diagram_defs.specs.Diagrams.{Diagram, Shape, AreArities, IsKid, IsSet, IsNumberFor, IsNode}
use Rattle.diagram_defs.specs.Diagrams.IsKid.{empty, whole, node}
use Rattle.lift_project.specs.Prefixes.{AreFirst}
use Rattle.lift_project.specs.Lifts.{shape_of, shapes_of, AreKeptNodes, IsKept, IsPlace, ArePlaces}

pub pair_arities : (first second : ℕ) → 1 ≤ first → first ≤ 64 → 1 ≤ second → second ≤ 64 → AreArities (first ∷ second ∷ [])
pair_arities first second low high low' high' = record { levels = omega arith; low = below; high = above }
  where
    below : (level : ℕ) → level < length (first ∷ second ∷ []) → 1 ≤ get_or (first ∷ second ∷ []) level 0
    below zero inside = low
    below (suc zero) inside = low'
    below (suc (suc level)) inside = absurd (omega arith)

    above : (level : ℕ) → level < length (first ∷ second ∷ []) → get_or (first ∷ second ∷ []) level 0 ≤ 64
    above zero inside = high
    above (suc zero) inside = high'
    above (suc (suc level)) inside = absurd (omega arith)

pub one_arity : (arity : ℕ) → 1 ≤ arity → arity ≤ 64 → AreArities (arity ∷ [])
one_arity arity low high = record { levels = omega arith; low = below; high = above }
  where
    below : (level : ℕ) → level < length (arity ∷ []) → 1 ≤ get_or (arity ∷ []) level 0
    below zero inside = low
    below (suc level) inside = absurd (omega arith)

    above : (level : ℕ) → level < length (arity ∷ []) → get_or (arity ∷ []) level 0 ≤ 64
    above zero inside = high
    above (suc level) inside = absurd (omega arith)

pub no_arity : AreArities []
no_arity = record { levels = omega arith; low = λ level inside. absurd (omega arith); high = λ level inside. absurd (omega arith) }

-- the first of two levels, and none of them
pub first_level : (from into : Diagram) (a b : ℕ) → from.arities ≡ a ∷ b ∷ [] → into.arities ≡ a ∷ [] → AreFirst from into
first_level from into a b two one = record { more = b ∷ []; same = two ∙ sym (ap (λ (as' : List ℕ). as' ++ b ∷ []) one) }

pub first_none : (from into : Diagram) → into.arities ≡ [] → AreFirst from into
first_none from into none = record { more = from.arities; same = sym (ap (λ (as' : List ℕ). as' ++ from.arities) none) }

-- a kept set without levels
pub plain_nodes : (kept : Kept) → kept.nodes ≡ [] → AreKeptNodes kept
plain_nodes kept none = record { each = λ at shape e. absurd (none-some shape (sym (ap (λ (ns : List KeptNode). slice_get (map shape_of ns) at) none) ∙ e)) }

pub plain_places : (kept : Kept) (arities : List ℕ) → kept.arities ≡ [] → ArePlaces kept arities []
plain_places kept arities none = record { count = sym (ap length none); each = λ level place e. absurd (none-some place e) }

pub plain_whole : (kept : Kept) → kept.arities ≡ [] → IsKept kept 0 1
plain_whole kept none = whole refl (sym (ap length none))

-- a node of a level of two values
pair_node : (arities : List ℕ) (nodes : List Shape) (places level a b : ℕ) → level < length arities → 2 ≡ get_or arities level 0 → IsKid arities nodes places (level + 1) a → IsKid arities nodes places (level + 1) b → IsNode arities nodes places (record { level = level; kids = a ∷ b ∷ [] })
pair_node arities nodes places level a b inside two first second = record { level_in = inside; arity = two; below = record { each = each } }
  where
    each : (v : ℕ) → v < length (a ∷ b ∷ []) → IsKid arities nodes places (level + 1) (get_or (a ∷ b ∷ []) v 0)
    each zero low = first
    each (suc zero) low = second
    each (suc (suc v)) low = absurd (omega arith)

-- kept sets of pairs of values, the second one below the first
abbrev pub some_pairs : Kept
some_pairs = record {
  arities = 2 ∷ 2 ∷ [];
  nodes =
      record { level = 1; kids = 0 ∷ 1 ∷ [] } ∷ record { level = 1; kids = 1 ∷ 0 ∷ [] } ∷ record { level = 0; kids = 2 ∷ 3 ∷ [] } ∷ record { level = 0; kids = 2 ∷ 0 ∷ [] } ∷ [];
}

abbrev shapes : List Shape
shapes = shapes_of some_pairs

some_pairs_are : AreKeptNodes some_pairs
some_pairs_are = record { each = each }
  where
    each : (at : ℕ) (shape : Shape) → slice_get shapes at ≡ Some shape → IsNode (2 ∷ 2 ∷ []) shapes at shape
    each zero shape e =
        subst (IsNode (2 ∷ 2 ∷ []) shapes 0) (same_Some _ shape e) (pair_node (2 ∷ 2 ∷ []) shapes 0 1 0 1 (omega arith) refl (empty refl) (whole refl refl))
    each (suc zero) shape e =
        subst (IsNode (2 ∷ 2 ∷ []) shapes 1) (same_Some _ shape e) (pair_node (2 ∷ 2 ∷ []) shapes 1 1 1 0 (omega arith) refl (whole refl refl) (empty refl))
    each (suc (suc zero)) shape e =
        subst (IsNode (2 ∷ 2 ∷ []) shapes 2) (same_Some _ shape e) (pair_node (2 ∷ 2 ∷ []) shapes 2 0 2 3 (omega arith) refl (node 0 _ refl (omega arith) refl refl) (node 1 _ refl (omega arith) refl refl))
    each (suc (suc (suc zero))) shape e =
        subst (IsNode (2 ∷ 2 ∷ []) shapes 3) (same_Some _ shape e) (pair_node (2 ∷ 2 ∷ []) shapes 3 0 2 0 (omega arith) refl (node 0 _ refl (omega arith) refl refl) (empty refl))
    each (suc (suc (suc (suc at)))) shape e = absurd (none-some shape e)

module _ (kept : Kept) (arities : kept.arities ≡ some_pairs.arities) (nodes : kept.nodes ≡ some_pairs.nodes) where
  same : kept ≡ some_pairs
  same = λ i. record { arities = arities i; nodes = nodes i }

  pub pairs_are : AreKeptNodes kept
  pairs_are = subst AreKeptNodes (sym same) some_pairs_are

  pub both_is : IsKept kept 0 4
  both_is = subst (λ (k : Kept). IsKept k 0 4) (sym same) (node 2 _ refl (omega arith) refl refl)

  pub one_is : IsKept kept 0 5
  one_is = subst (λ (k : Kept). IsKept k 0 5) (sym same) (node 3 _ refl (omega arith) refl refl)

-- 0 is of each level, beside the two sets of pairs
pub some_number : (kept : Kept) (n : ℕ) → IsKept kept 0 4 → IsKept kept 0 5 → (n ≡ 0) ⊎ ((n ≡ 4) ⊎ (n ≡ 5)) → IsKept kept 0 n
some_number kept n both one (inl none) = empty none
some_number kept n both one (inr (inl four)) = subst (IsKept kept 0) (sym four) both
some_number kept n both one (inr (inr five)) = subst (IsKept kept 0) (sym five) one

-- two places for two kept levels of two values
pub places_of_pairs : (kept : Kept) (arities : List ℕ) (first second : Place) → kept.arities ≡ 2 ∷ 2 ∷ [] → IsPlace arities 2 first → IsPlace arities 2 second → ArePlaces kept arities (first ∷ second ∷ [])
places_of_pairs kept arities first second two one other = record { count = sym (ap length two); each = each }
  where
    each : (level : ℕ) (place : Place) → slice_get (first ∷ second ∷ []) level ≡ Some place → IsPlace arities (get_or kept.arities level 0) place
    each zero place e =
        subst (IsPlace arities (get_or kept.arities 0 0)) (same_Some first place e) (subst (λ (arity : ℕ). IsPlace arities arity first) (sym (ap (λ (as' : List ℕ). get_or as' 0 0) two)) one)
    each (suc zero) place e =
        subst (IsPlace arities (get_or kept.arities 1 0)) (same_Some second place e) (subst (λ (arity : ℕ). IsPlace arities arity second) (sym (ap (λ (as' : List ℕ). get_or as' 1 0) two)) other)
    each (suc (suc level)) place e = absurd (none-some place e)

-- an answer is a number of the first level
pub made_set : (d : Diagram) (set : List ℕ → Bool) (r : Result ℕ DiagFault) → IfOk r (IsNumberFor d 0 set) → IfOk r (IsSet d 0)
made_set d set (Ok n) is = is.in_level
made_set d set (Err e) is = tt
