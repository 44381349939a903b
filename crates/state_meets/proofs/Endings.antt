-- Where no set begins any more.
use Rattle.std.proofs.Common.{◌≡◌, ℕ, suc, ◌+◌, Bool, ◌&&◌, List, [], ◌∷◌, drop, get_or, refl, sym, ap, ◌∙◌, arith}
use Rattle.std.proofs.lemmas.List.{get_or-drop}
use Rattle.diagram_defs.specs.declared.quantifiers.Quantifier.{Quantifier}
use Rattle.diagram_defs.specs.Diagrams.{Diagram, Shape, member, IsPool, IsSet, IsNumberFor}
use Rattle.diagram_defs.specs.Sets.{full_set}
use Rattle.diagram_defs.specs.Quantified.{quantified_two, quantified_none}
use Rattle.diagram_defs.proofs.Growth.{IsNumberFor_same}
use Rattle.diagram_defs.proofs.Guards.{guards}
use Rattle.diagram_defs.proofs.Quantifying.{quantified_nothing, two_none}
use Rattle.diagram_defs.proofs.Steps.{AreRests_number}
use Rattle.state_meets.specs.Walks.{meet, later, walk_set, constant_set, IsOver}
use Rattle.state_meets.proofs.Spreading.{none_first}
use Rattle.state_meets.proofs.Standing.{alone}

later_nothing : (q : Quantifier) (nodes : List Shape) (begun : List (List ℕ)) (rest : List ℕ) → ((k : ℕ) → get_or begun k [] ≡ []) → later q nodes begun rest ≡ quantified_none q
later_nothing q nodes [] rest over = refl
later_nothing q nodes (numbers ∷ begun) rest over =
    ap (λ (ns : List ℕ). quantified_two q (meet q nodes ns rest) (later q nodes begun (drop 1 rest))) (over 0)
    ∙ ap (λ (b : Bool). quantified_two q b (later q nodes begun (drop 1 rest))) (quantified_nothing q (λ n. member nodes n rest))
    ∙ none_first q (later q nodes begun (drop 1 rest)) ∙ later_nothing q nodes begun (drop 1 rest) (λ k. over (suc k))

module _ (d : Diagram) (q : Quantifier) (begun : List (List ℕ)) (level : ℕ) (over : IsOver begun (level + 1)) where
  -- the numbers alone decide
  walk_over : (numbers rest : List ℕ) → walk_set d q begun level numbers rest ≡ (full_set d level rest && meet q d.nodes numbers rest)
  walk_over numbers rest =
      let nothing = later_nothing q d.nodes (drop (level + 1) begun) (drop 1 rest) (λ k. get_or-drop (level + 1) begun k [] ∙ over (level + 1 + k) (omega arith)) in
      ap (λ (b : Bool). full_set d level rest && b) (ap (quantified_two q (meet q d.nodes numbers rest)) nothing ∙ two_none q (meet q d.nodes numbers rest))

  pub walk_one : IsPool d → (n : ℕ) → IsSet d level n → IsNumberFor d level (walk_set d q begun level (n ∷ [])) n
  walk_one pool n is = record {
    in_level = is;
    same = λ rest.
        let inside = guards (full_set d level rest) (member d.nodes n rest) ((AreRests_number d level n pool.nodes is).each rest) in
        sym (walk_over (n ∷ []) rest ∙ ap (λ (b : Bool). full_set d level rest && b) (alone d q level n rest) ∙ inside);
  }

  pub walk_none : (n : ℕ) → IsNumberFor d level (constant_set d level (quantified_none q)) n → IsNumberFor d level (walk_set d q begun level []) n
  walk_none n is =
      IsNumberFor_same d level _ (walk_set d q begun level []) n (λ rest. sym (walk_over [] rest ∙ ap (λ (b : Bool). full_set d level rest && b) (quantified_nothing q (λ m. member d.nodes m rest)))) is
