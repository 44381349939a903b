-- One step down a level: rests behind a value, and sets by their children.
use Rattle.std.proofs.Common.{◌≡◌, ℕ, ◌+◌, ◌≤◌, ◌<◌, Bool, true, false, ◌&&◌, List, [], ◌∷◌, ◌++◌, length, get_or, drop, refl, sym, ap, ◌∙◌, subst, inl, inr, arith}
use Rattle.std.proofs.lemmas.List.{drop_more, drop_all, get_or_past, get_or_push, get_or_append_left, length_push}
use Rattle.std.proofs.lemmas.Bool.{cases_lt, lt-ltb, le-ltb, eqb-true, false≢true, false_from_ne_true}
use Rattle.diagram_defs.specs.Rests.{is_rest}
use Rattle.diagram_defs.specs.Diagrams.{Shape, Diagram, kid, member, IsKid, AreKids, AreNodes, IsSet, IsNumberFor, AreRests, AreKidsFor, Grows}
use Rattle.diagram_defs.specs.Diagrams.IsKid.{empty, whole, node}
use Rattle.diagram_defs.specs.Sets.{case_set}
use Rattle.diagram_defs.specs.Parts.{IsPartOf}
use Rattle.diagram_defs.proofs.Growth.{IsNumberFor_grows, IsNumberFor_same}
use Rattle.diagram_defs.proofs.PartLemmas.{IsPartOf_behind, IsPartOf_same}
use Rattle.diagram_defs.proofs.Meaning.{kid-node, member-empty, IsKid-kid}

module _ (arities : List ℕ) (level : ℕ) (inside : level < length arities) where
  pub rest_behind : (v : ℕ) (rest : List ℕ) → v < get_or arities level 0 → is_rest (drop level arities) (v ∷ rest) ≡ is_rest (drop (level + 1) arities) rest
  rest_behind v rest low =
      ap (λ (ds : List ℕ). is_rest ds (v ∷ rest)) (drop_more arities level 0 inside) ∙ ap (λ (b : Bool). b && is_rest (drop (level + 1) arities) rest) (lt-ltb v (get_or arities level 0) low)

  pub rest_past : (v : ℕ) (rest : List ℕ) → get_or arities level 0 ≤ v → is_rest (drop level arities) (v ∷ rest) ≡ false
  rest_past v rest high =
      ap (λ (ds : List ℕ). is_rest ds (v ∷ rest)) (drop_more arities level 0 inside) ∙ ap (λ (b : Bool). b && is_rest (drop (level + 1) arities) rest) (le-ltb v (get_or arities level 0) high)

  pub rest_short : is_rest (drop level arities) [] ≡ false
  rest_short = ap (λ (ds : List ℕ). is_rest ds []) (drop_more arities level 0 inside)

-- what a number means are rests of its level
pub member_rest : (arities : List ℕ) (nodes : List Shape) → AreNodes arities nodes → (places level n : ℕ) (rest : List ℕ) → IsKid arities nodes places level n → member nodes n rest ≡ true → is_rest (drop level arities) rest ≡ true
member_rest arities nodes sound places level n rest (empty z) e =
    absurd (false≢true (sym (member-empty nodes rest) ∙ ap (λ (k : ℕ). member nodes k rest) (sym z) ∙ e))
member_rest arities nodes sound places level n [] (whole w at) e =
    let past : length arities ≤ level = omega arith in
    ap (λ (ds : List ℕ). is_rest ds []) (drop_all level arities past)
member_rest arities nodes sound places level n (v ∷ rest) (whole w at) e =
    absurd (false≢true (sym (member-empty nodes rest) ∙ ap (λ (k : ℕ). member nodes (kid nodes k v) rest) (sym w) ∙ e))
member_rest arities nodes sound places level n [] (node at shape is below there same) e =
    let one = eqb-true n 1 e in absurd (omega arith)
member_rest arities nodes sound places level n (v ∷ rest) (node at shape is below there same) e =
    let good = sound.each at shape there in
    let inside : level < length arities = let l = good.level_in in omega arith in
    let wide : length shape.kids ≡ get_or arities level 0 = good.arity ∙ ap (λ (l : ℕ). get_or arities l 0) same in
    elim (cases_lt v (length shape.kids)) [
      | inl low ↦
          let further = member_rest arities nodes sound places (level + 1) (kid nodes n v) rest (IsKid-kid arities nodes sound places level n (node at shape is below there same) v) e in
          rest_behind arities level inside v rest (omega arith) ∙ further
      | inr past ↦
          let none = kid-node nodes n at shape v is there ∙ get_or_past shape.kids v 0 past in
          absurd (false≢true (sym (member-empty nodes rest) ∙ ap (λ (k : ℕ). member nodes k rest) (sym none) ∙ e))
    ]

pub AreRests_number : (d : Diagram) (level n : ℕ) → AreNodes d.arities d.nodes → IsSet d level n → AreRests d level (member d.nodes n)
AreRests_number d level n sound is = record { each = λ rest e. member_rest d.arities d.nodes sound (length d.nodes) level n rest is e }

-- a set of rests of a level is the one that its children make
pub case_matches : (d : Diagram) (level : ℕ) (set : List ℕ → Bool) (kids : List ℕ) → level < length d.arities → AreRests d level set → AreKidsFor d level set kids → (rest : List ℕ) → case_set d.nodes kids rest ≡ set rest
case_matches d level set kids inside rests all [] =
    sym (false_from_ne_true (set []) (λ e. false≢true (sym (rest_short d.arities level inside) ∙ rests.each [] e)))
case_matches d level set kids inside rests all (v ∷ rest) = elim (cases_lt v (length kids)) [
  | inl low ↦ (all.each v low).same rest
  | inr past ↦
      let wide = all.arity in
      let high : get_or d.arities level 0 ≤ v = omega arith in
      ap (λ (k : ℕ). member d.nodes k rest) (get_or_past kids v 0 past) ∙ member-empty d.nodes rest ∙ sym (false_from_ne_true (set (v ∷ rest)) (λ e. false≢true (sym (rest_past d.arities level inside v rest high) ∙ rests.each (v ∷ rest) e)))
]

-- the children of a case
pub AreKids_for : (d : Diagram) (level : ℕ) (set : List ℕ → Bool) (kids : List ℕ) → AreKidsFor d level set kids → AreKids d.arities d.nodes (length d.nodes) (level + 1) kids
AreKids_for d level set kids all = record { each = λ v inside. (all.each v inside).in_level }

-- the numbers for what stands behind the first values, found one after the other
pub record AreKidsSo (d : Diagram) (level : ℕ) (set : List ℕ → Bool) (count : ℕ) (kids : List ℕ) : Type 0 where
  pub so : length kids ≡ count
  pub each : (v : ℕ) → v < length kids → IsNumberFor d (level + 1) (λ rest. set (v ∷ rest)) (get_or kids v 0)

module _ (level : ℕ) (set : List ℕ → Bool) where
  pub AreKidsSo_none : (d : Diagram) → AreKidsSo d level set 0 []
  AreKidsSo_none d = record { so = refl; each = λ v low. absurd (omega arith) }

  pub AreKidsSo_more : (mid new : Diagram) (v n : ℕ) (kids : List ℕ) → Grows mid new → AreKidsSo mid level set v kids → IsNumberFor new (level + 1) (λ rest. set (v ∷ rest)) n → AreKidsSo new level set (v + 1) (kids ++ n ∷ [])
  AreKidsSo_more mid new v n kids g before is = record {
    so = let e = before.so in omega (arith, length_push kids n);
    each = λ w low. elim (cases_lt w (length kids)) [
      | inl early ↦
          let old = IsNumberFor_grows mid new (level + 1) (λ rest. set (w ∷ rest)) (get_or kids w 0) g (before.each w early) in
          subst (IsNumberFor new (level + 1) (λ rest. set (w ∷ rest))) (sym (get_or_append_left kids (n ∷ []) 0 w early)) old
      | inr late ↦
          let last : w ≡ v = let e = before.so in omega (arith, length_push kids n) in
          let place : length kids ≡ w = let e = before.so in omega arith in
          subst (IsNumberFor new (level + 1) (λ rest. set (w ∷ rest))) (sym (get_or_push kids n 0 w place)) (subst (λ (u : ℕ). IsNumberFor new (level + 1) (λ rest. set (u ∷ rest)) n) (sym last) is)
    ];
  }

  pub AreKidsSo_all : (d : Diagram) (v : ℕ) (kids : List ℕ) → v ≡ get_or d.arities level 0 → AreKidsSo d level set v kids → AreKidsFor d level set kids
  AreKidsSo_all d v kids all so = record { arity = so.so ∙ all; each = so.each }

  -- the children of a set stay so while the table grows
  pub AreKidsFor_number : (d new : Diagram) (n : ℕ) (kids : List ℕ) → level < length d.arities → AreRests d level set → AreKidsFor d level set kids → IsNumberFor new level (case_set d.nodes kids) n → IsNumberFor new level set n
  AreKidsFor_number d new n kids inside rests all is =
      IsNumberFor_same new level (case_set d.nodes kids) set n (case_matches d level set kids inside rests all) is

  -- a part of a case is a part of the set
  pub case_parts : (d : Diagram) (levels : ℕ) (kids : List ℕ) → level < length d.arities → length d.arities ≡ levels → AreRests d level set → AreKidsFor d level set kids → (l : ℕ) (part : List ℕ → Bool) → IsPartOf (length d.arities) level (case_set d.nodes kids) l part → IsPartOf levels level set l part
  case_parts d levels kids inside count rests all l part p =
      subst (λ (n : ℕ). IsPartOf n level set l part) count (IsPartOf_same (length d.arities) level (case_set d.nodes kids) set l part (case_matches d level set kids inside rests all) p)

  -- a part of what stands behind a value is a part of the set
  pub value_parts : (levels more : ℕ) (v : ℕ) (under : List ℕ → Bool) → more ≡ levels → ((rest : List ℕ) → under rest ≡ set (v ∷ rest)) → (l : ℕ) (part : List ℕ → Bool) → IsPartOf more (level + 1) under l part → IsPartOf levels level set l part
  value_parts levels more v under count same l part p =
      subst (λ (n : ℕ). IsPartOf n level set l part) count (IsPartOf_behind more level (level + 1) set under (v ∷ []) l part (omega arith) same p)

-- a set of rests stays one while the table grows
pub AreRests_grows : (old new : Diagram) (level : ℕ) (set : List ℕ → Bool) → Grows old new → AreRests old level set → AreRests new level set
AreRests_grows old new level set g is = record { each = λ rest e. ap (λ (arities : List ℕ). is_rest (drop level arities) rest) g.arities ∙ is.each rest e }

-- a set from the numbers of what stands behind each value of it
module _ (old mid : Diagram) (level : ℕ) (set : List ℕ → Bool) (kids : List ℕ) (g : Grows old mid) (inside : level < length old.arities) (rests : AreRests old level set) (all : AreKidsFor mid level set kids) where
  within : level < length mid.arities
  within = subst (λ (arities : List ℕ). level < length arities) (sym g.arities) inside

  pub kids_number : (new : Diagram) (n : ℕ) → IsNumberFor new level (case_set mid.nodes kids) n → IsNumberFor new level set n
  kids_number new n is = AreKidsFor_number level set mid new n kids within (AreRests_grows old mid level set g rests) all is

  pub kids_parts : (l : ℕ) (part : List ℕ → Bool) → IsPartOf (length mid.arities) level (case_set mid.nodes kids) l part → IsPartOf (length old.arities) level set l part
  kids_parts l part p =
      case_parts level set mid (length old.arities) kids within (ap length g.arities) (AreRests_grows old mid level set g rests) all l part p

  pub kids_same : (rest : List ℕ) → case_set mid.nodes kids rest ≡ set rest
  kids_same rest = case_matches mid level set kids within (AreRests_grows old mid level set g rests) all rest
