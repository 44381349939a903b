-- The rests of a level that pass a test.
use Rattle.std.proofs.Common.{◌≡◌, ℕ, ◌+◌, ◌-◌, ◌≤◌, ◌<◌, Bool, ◌&&◌, List, ◌∷◌, length, get_or, drop, sym, ap, ◌∙◌, subst, arith}
use Rattle.std.proofs.lemmas.List.{drop-drop}
use Rattle.std.proofs.lemmas.Bool.{and_parts}
use Rattle.diagram_defs.specs.Rests.{is_rest}
use Rattle.diagram_defs.specs.Diagrams.{Diagram, member, IsPool, IsNumberFor, AreRests, Grows}
use Rattle.diagram_defs.specs.Sets.{widened_set}
use Rattle.diagram_defs.specs.Parts.{IsPartOf}
use Rattle.diagram_defs.proofs.Listed.{is_rest-drop}
use Rattle.diagram_defs.proofs.PartLemmas.{IsPartOf_same, IsPartOf_grown}
use Rattle.diagram_defs.proofs.Steps.{rest_behind}
use Rattle.diagram_defs.proofs.Guards.{guards_second}
use Rattle.diagram_defs.proofs.Widened.{widened_up, widened_itself}

abbrev pub tested : List ℕ → ℕ → (List ℕ → Bool) → List ℕ → Bool
tested arities level test rest = is_rest (drop level arities) rest && test rest

pub AreRests_tested : (d : Diagram) (level : ℕ) (test : List ℕ → Bool) → AreRests d level (tested d.arities level test)
AreRests_tested d level test = record { each = λ rest e. (and_parts _ _ e).0 }

-- what stands behind a value of the level
pub tested_behind : (arities : List ℕ) (level v : ℕ) (test : List ℕ → Bool) (rest : List ℕ) → level < length arities → v < get_or arities level 0 → tested arities (level + 1) (λ q. test (v ∷ q)) rest ≡ tested arities level test (v ∷ rest)
tested_behind arities level v test rest inside low =
    ap (λ (m : Bool). m && test (v ∷ rest)) (sym (rest_behind arities level inside v rest low))

-- any values of the levels before
module _ (old : Diagram) (pool : IsPool old) (level from : ℕ) (order : level ≤ from) (fits : from ≤ length old.arities) (test wide : List ℕ → Bool) (agree : (rest : List ℕ) → test (drop (from - level) rest) ≡ wide rest) where
  pub tested_widened : (rest : List ℕ) → widened_set old level from (tested old.arities from test) rest ≡ tested old.arities level wide rest
  tested_widened rest =
      let place : level + (from - level) ≡ from = omega arith in
      let end = drop-drop (from - level) level old.arities ∙ ap (λ (k : ℕ). drop k old.arities) place in
      guards_second (is_rest (drop level old.arities) rest) (is_rest (drop from old.arities) (drop (from - level) rest)) _ _ (λ e. ap (λ (as' : List ℕ). is_rest as' (drop (from - level) rest)) (sym end) ∙ is_rest-drop (from - level) (drop level old.arities) rest e) (agree rest)

  pub tested_parts : (l : ℕ) (part : List ℕ → Bool) → IsPartOf (length old.arities) from (tested old.arities from test) l part → IsPartOf (length old.arities) level (tested old.arities level wide) l part
  tested_parts l part p =
      let set = tested old.arities from test in
      let here = IsPartOf_same (length old.arities) from set (widened_set old from from set) l part (widened_itself old from set (AreRests_tested old from test)) p in
      let place : from ≡ level + (from - level) = omega arith in
      let up = widened_up old pool from set fits (from - level) level l part (omega arith) (subst (λ (n : ℕ). IsPartOf (length old.arities) n (widened_set old n from set) l part) place here) in
      IsPartOf_same (length old.arities) level (widened_set old level from set) (tested old.arities level wide) l part tested_widened up

  -- the same in a table that has grown
  module _ (mid : Diagram) (n : ℕ) (g : Grows old mid) (is : IsNumberFor mid from (tested old.arities from test) n) where
    pub tested_grown : (rest : List ℕ) → widened_set mid level from (member mid.nodes n) rest ≡ tested old.arities level wide rest
    tested_grown rest =
        let full = ap (λ (arities : List ℕ). is_rest (drop level arities) rest) g.arities in
        let end = is.same (drop (from - level) rest) in
        let both : widened_set mid level from (member mid.nodes n) rest ≡ widened_set old level from (tested old.arities from test) rest = λ i. full i && end i in
        both ∙ tested_widened rest

    pub tested_grown_parts : (l : ℕ) (part : List ℕ → Bool) → IsPartOf (length mid.arities) level (widened_set mid level from (member mid.nodes n)) l part → IsPartOf (length old.arities) level (tested old.arities level wide) l part
    tested_grown_parts = IsPartOf_grown old mid level _ _ g tested_grown
