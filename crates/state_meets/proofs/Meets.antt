-- Several sets at once: one level down, behind the last level, and in a table that has grown.
use Rattle.std.proofs.Common.{◌≡◌, ℕ, suc, ◌+◌, ◌<◌, Bool, true, false, if◌then◌else◌, ◌&&◌, nat_eq, List, [], ◌∷◌, map, drop, length, get_or, refl, sym, ap, ◌∙◌, subst, arith}
use Rattle.std.proofs.Math.Bool.{and-false}
use Rattle.std.proofs.lemmas.Bool.{and_parts}
use Rattle.std.proofs.lemmas.List.{drop_more, drop_all, get_or-drop}
use Rattle.std.proofs.lemmas.List.Elements.{All-weaker, All-append, All-map}
use Rattle.diagram_defs.specs.declared.quantifiers.Quantifier.{Quantifier}
use Rattle.diagram_defs.specs.Rests.{is_rest}
use Rattle.diagram_defs.specs.Diagrams.{Diagram, kid, member, IsPool, IsSet, IsNumberFor, AreRests, Grows}
use Rattle.diagram_defs.specs.Diagrams.IsKid.{empty, whole}
use Rattle.diagram_defs.specs.Sets.{full_set}
use Rattle.diagram_defs.specs.Quantified.{quantified, quantified_two, quantified_none, deciding}
use Rattle.diagram_defs.proofs.Guards.{guarded}
use Rattle.diagram_defs.proofs.Meaning.{member-empty, IsKid-kid}
use Rattle.diagram_defs.proofs.Growth.{IsSet_grows, member_grows, IsNumberFor_same}
use Rattle.diagram_defs.proofs.Quantifying.{quantified_append, quantified_map, quantified_first, quantified_nothing, two_none, two_decides, two_grouped}
use Rattle.diagram_defs.proofs.Steps.{rest_behind}
use Rattle.state_meets.specs.Walks.{meet, later, walk_set, AreSets, AreBegun, Stands, numbers_behind}

pub AreRests_walk : (d : Diagram) (q : Quantifier) (begun : List (List ℕ)) (level : ℕ) (numbers : List ℕ) → AreRests d level (walk_set d q begun level numbers)
AreRests_walk d q begun level numbers = record { each = λ rest e. (and_parts _ _ e).0 }

-- numbers of a level stay so while the table grows, and their sets stay the same
pub AreSets_grow : (old new : Diagram) (level : ℕ) (numbers : List ℕ) → Grows old new → AreSets old level numbers → AreSets new level numbers
AreSets_grow old new level numbers g sets = All-weaker (IsSet old level) (IsSet new level) (λ n is. IsSet_grows old new level n g is) numbers sets

pub AreBegun_grow : (old new : Diagram) (level : ℕ) (begun : List (List ℕ)) → Grows old new → AreBegun old level begun → AreBegun new level begun
AreBegun_grow old new level begun g sets = λ k. AreSets_grow old new (level + k) (get_or begun k []) g (sets k)

meet_grows : (old new : Diagram) (q : Quantifier) (level : ℕ) (numbers rest : List ℕ) → Grows old new → AreSets old level numbers → meet q new.nodes numbers rest ≡ meet q old.nodes numbers rest
meet_grows old new q level [] rest g sets = quantified_nothing q (λ n. member new.nodes n rest) ∙ sym (quantified_nothing q (λ n. member old.nodes n rest))
meet_grows old new q level (n ∷ numbers) rest g sets =
    let here = member_grows old new level n rest g (sets 0 0 (omega arith)) in
    let others = meet_grows old new q level numbers rest g (λ k d low. sets (suc k) d (omega arith)) in
    quantified_first q (λ m. member new.nodes m rest) n numbers ∙ (λ i. quantified_two q (here i) (others i)) ∙ sym (quantified_first q (λ m. member old.nodes m rest) n numbers)

later_grows : (old new : Diagram) (q : Quantifier) (level : ℕ) (begun : List (List ℕ)) (rest : List ℕ) → Grows old new → AreBegun old level begun → later q new.nodes begun rest ≡ later q old.nodes begun rest
later_grows old new q level [] rest g sets = refl
later_grows old new q level (numbers ∷ begun) rest g sets =
    let first : AreSets old level numbers = let same : level + 0 ≡ level = omega arith in subst (λ (l : ℕ). AreSets old l numbers) same (sets 0) in
    let more : AreBegun old (level + 1) begun = λ k. let same : level + suc k ≡ level + 1 + k = omega arith in subst (λ (l : ℕ). AreSets old l (get_or begun k [])) same (sets (suc k)) in
    let here = meet_grows old new q level numbers rest g first in
    let others = later_grows old new q (level + 1) begun (drop 1 rest) g more in
    λ i. quantified_two q (here i) (others i)

-- the lists from a later level on
pub AreBegun_drop : (d : Diagram) (begun : List (List ℕ)) (level : ℕ) → AreBegun d 0 begun → AreBegun d level (drop level begun)
AreBegun_drop d begun level sets = λ k.
    let same : 0 + (level + k) ≡ level + k = omega arith in
    subst (AreSets d (level + k)) (sym (get_or-drop level begun k [])) (subst (λ (l : ℕ). AreSets d l (get_or begun (level + k) [])) same (sets (level + k)))

pub walk_grows : (old new : Diagram) (q : Quantifier) (begun : List (List ℕ)) (level : ℕ) (numbers rest : List ℕ) → Grows old new → AreSets old level numbers → AreBegun old 0 begun → walk_set new q begun level numbers rest ≡ walk_set old q begun level numbers rest
walk_grows old new q begun level numbers rest g sets all =
    let full = ap (λ (arities : List ℕ). is_rest (drop level arities) rest) g.arities in
    let here = meet_grows old new q level numbers rest g sets in
    let others = later_grows old new q (level + 1) (drop (level + 1) begun) (drop 1 rest) g (AreBegun_drop old begun (level + 1) all) in
    λ i. full i && quantified_two q (here i) (others i)

-- the numbers behind a value are of the next level
pub behind_sets : (d : Diagram) (pool : IsPool d) (begun : List (List ℕ)) (level : ℕ) (numbers : List ℕ) (v : ℕ) → AreSets d level numbers → AreBegun d 0 begun → AreSets d (level + 1) (numbers_behind d.nodes begun level numbers v)
behind_sets d pool begun level numbers v sets all =
    let kids = All-map (IsSet d (level + 1)) (λ n. kid d.nodes n v) numbers (All-weaker (IsSet d level) (λ n. IsSet d (level + 1) (kid d.nodes n v)) (λ n is. IsKid-kid d.arities d.nodes pool.nodes (length d.nodes) level n is v) numbers sets) in
    let same : 0 + (level + 1) ≡ level + 1 = omega arith in
    All-append (IsSet d (level + 1)) (map (λ n. kid d.nodes n v) numbers) (get_or begun (level + 1) []) kids (subst (λ (l : ℕ). AreSets d l (get_or begun (level + 1) [])) same (all (level + 1)))

-- one level down, with any tuple that may be taken for the numbers there
pub walk_behind : (d : Diagram) (q : Quantifier) (begun : List (List ℕ)) (level : ℕ) (numbers : List ℕ) (v : ℕ) (tuple rest : List ℕ) → level < length d.arities → v < get_or d.arities level 0 → level + 1 < length begun → Stands d q (level + 1) (numbers_behind d.nodes begun level numbers v) tuple
    → walk_set d q begun (level + 1) tuple rest ≡ walk_set d q begun level numbers (v ∷ rest)
walk_behind d q begun level numbers v tuple rest inside low room stands =
    guarded (full_set d (level + 1) rest) _ (quantified_two q (meet q d.nodes numbers (v ∷ rest)) (later q d.nodes (drop (level + 1) begun) rest)) there
    ∙ ap (λ (b : Bool). b && quantified_two q (meet q d.nodes numbers (v ∷ rest)) (later q d.nodes (drop (level + 1) begun) rest)) (sym (rest_behind d.arities level inside v rest low))
  where
    test : ℕ → Bool
    test n = member d.nodes n rest

    here : List ℕ
    here = get_or begun (level + 1) []

    ahead : Bool
    ahead = later q d.nodes (drop (level + 1 + 1) begun) (drop 1 rest)

    there : full_set d (level + 1) rest ≡ true → quantified_two q (meet q d.nodes tuple rest) ahead ≡ quantified_two q (meet q d.nodes numbers (v ∷ rest)) (later q d.nodes (drop (level + 1) begun) rest)
    there full =
        ap (λ (b : Bool). quantified_two q b ahead) (stands.same rest full ∙ quantified_append q test (map (λ n. kid d.nodes n v) numbers) here ∙ ap (λ (b : Bool). quantified_two q b (quantified q test here)) (quantified_map q test (λ n. kid d.nodes n v) numbers))
        ∙ two_grouped q (meet q d.nodes numbers (v ∷ rest)) (meet q d.nodes here rest) ahead
        ∙ ap (λ (b : Bool). quantified_two q (meet q d.nodes numbers (v ∷ rest)) b) (ap (λ (bs : List (List ℕ)). later q d.nodes bs rest) (sym (drop_more begun (level + 1) [] room)))

-- a number that decides, alone
pub walk_decided : (d : Diagram) (q : Quantifier) (begun : List (List ℕ)) (level n : ℕ) → IsNumberFor d level (λ rest. full_set d level rest && deciding q) n → IsNumberFor d level (walk_set d q begun level (n ∷ [])) n
walk_decided d q begun level n is = IsNumberFor_same d level _ (walk_set d q begun level (n ∷ [])) n same is
  where
    same : (rest : List ℕ) → (full_set d level rest && deciding q) ≡ walk_set d q begun level (n ∷ []) rest
    same rest = guarded (full_set d level rest) (deciding q) _ (λ full. sym (two_decides q _ (later q d.nodes (drop (level + 1) begun) (drop 1 rest)) (alone full)))
      where
        alone : full_set d level rest ≡ true → meet q d.nodes (n ∷ []) rest ≡ deciding q
        alone full =
            quantified_first q (λ m. member d.nodes m rest) n [] ∙ ap (quantified_two q (member d.nodes n rest)) (quantified_nothing q (λ m. member d.nodes m rest)) ∙ two_none q (member d.nodes n rest)
            ∙ is.same rest ∙ ap (λ (b : Bool). b && deciding q) full

-- behind the last level the answer at the empty rest is all
module _ (d : Diagram) (pool : IsPool d) (q : Quantifier) (begun : List (List ℕ)) (level : ℕ) (numbers : List ℕ) (at : level ≡ length d.arities) (count : length begun ≡ length d.arities + 1) where
  nothing_later : (rest : List ℕ) → later q d.nodes (drop (level + 1) begun) rest ≡ quantified_none q
  nothing_later rest = ap (λ (bs : List (List ℕ)). later q d.nodes bs rest) (drop_all (level + 1) begun (omega arith))

  no_levels : drop level d.arities ≡ []
  no_levels = drop_all level d.arities (omega arith)

  pub walk_end : (n : ℕ) → n ≡ (if quantified q (λ m. nat_eq m 1) numbers then 1 else 0) → IsNumberFor d level (walk_set d q begun level numbers) n
  walk_end n is = answer (quantified q (λ m. nat_eq m 1) numbers) refl n is
    where
      set_at : (b : Bool) → quantified q (λ m. nat_eq m 1) numbers ≡ b → (rest : List ℕ) → walk_set d q begun level numbers rest ≡ (is_rest [] rest && b)
      set_at b e [] =
          ap (λ (ds : List ℕ). is_rest ds [] && quantified_two q (meet q d.nodes numbers []) (later q d.nodes (drop (level + 1) begun) (drop 1 []))) no_levels
          ∙ ap (quantified_two q (meet q d.nodes numbers [])) (nothing_later (drop 1 [])) ∙ two_none q (meet q d.nodes numbers []) ∙ e
      set_at b e (v ∷ rest) =
          ap (λ (ds : List ℕ). is_rest ds (v ∷ rest) && quantified_two q (meet q d.nodes numbers (v ∷ rest)) (later q d.nodes (drop (level + 1) begun) (drop 1 (v ∷ rest)))) no_levels

      one_same : quantified q (λ m. nat_eq m 1) numbers ≡ true → (rest : List ℕ) → member d.nodes 1 rest ≡ walk_set d q begun level numbers rest
      one_same e [] = sym (set_at true e [])
      one_same e (v ∷ rest) = member-empty d.nodes rest ∙ sym (set_at true e (v ∷ rest))

      none_same : quantified q (λ m. nat_eq m 1) numbers ≡ false → (rest : List ℕ) → member d.nodes 0 rest ≡ walk_set d q begun level numbers rest
      none_same e rest = member-empty d.nodes rest ∙ sym (set_at false e rest ∙ and-false (is_rest [] rest))

      answer : (b : Bool) → quantified q (λ m. nat_eq m 1) numbers ≡ b → (m : ℕ) → m ≡ (if quantified q (λ k. nat_eq k 1) numbers then 1 else 0) → IsNumberFor d level (walk_set d q begun level numbers) m
      answer true e m f =
          let one : m ≡ 1 = f ∙ ap (λ (b : Bool). if b then 1 else 0) e in
          record { in_level = whole one at; same = λ rest. ap (λ (k : ℕ). member d.nodes k rest) one ∙ one_same e rest }
      answer false e m f =
          let zero_is : m ≡ 0 = f ∙ ap (λ (b : Bool). if b then 1 else 0) e in
          record { in_level = empty zero_is; same = λ rest. ap (λ (k : ℕ). member d.nodes k rest) zero_is ∙ none_same e rest }
