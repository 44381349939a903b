-- First ones of several sets.
use Rattle.std.proofs.Common.{◌≡◌, ℕ, suc, ◌+◌, ◌<◌, Bool, ◌&&◌, List, [], ◌∷◌, ◌++◌, take, length, get_or, refl, sym, ap, subst, ◌∙◌, arith}
use Rattle.std.proofs.lemmas.List.{take_more, take_all}
use Rattle.std.proofs.lemmas.List.Elements.{All-cons, All-nil, All-weaker, All-take}
use Rattle.diagram_defs.specs.declared.locals.Local.{Local}
use Rattle.diagram_defs.specs.declared.quantifiers.Quantifier.{Quantifier}
use Rattle.diagram_defs.specs.Rests.{is_rest}
use Rattle.diagram_defs.specs.Diagrams.{Diagram, Grows}
use Rattle.diagram_defs.specs.Locals.{IsLocal, IsLocalFor, AreLocals, states_of}
use Rattle.diagram_defs.specs.Parts.{IsPartOf}
use Rattle.diagram_defs.specs.Quantified.{quantified, quantified_two}
use Rattle.diagram_defs.proofs.Guards.{guarded}
use Rattle.diagram_defs.proofs.LocalSets.{IsLocal_grows, states_grow}
use Rattle.diagram_defs.proofs.PartLemmas.{IsPartOf_grown}
use Rattle.diagram_defs.proofs.Quantifying.{quantified_first, quantified_nothing, quantified_append, two_none}
use Rattle.state_meets.specs.Gathered.{gathered_set}
use Rattle.state_meets.specs.Fronts.{IsPartOfFront}

-- sets in a table that has grown
pub AreLocals_grow : (old new : Diagram) (sets : List Local) → Grows old new → AreLocals old sets → AreLocals new sets
AreLocals_grow old new sets g all = All-weaker (IsLocal old) (IsLocal new) (λ s is. IsLocal_grows old new s g is) sets all

sets_grow : (old new : Diagram) (q : Quantifier) (sets : List Local) (state : List ℕ) → Grows old new → AreLocals old sets → quantified q (λ s. states_of new s state) sets ≡ quantified q (λ s. states_of old s state) sets
sets_grow old new q [] state g all = quantified_nothing q (λ s. states_of new s state) ∙ sym (quantified_nothing q (λ s. states_of old s state))
sets_grow old new q (s ∷ sets) state g all =
    let here = states_grow old new s.level s.number g (all 0 s (omega arith)).number_in state in
    let others = sets_grow old new q sets state g (λ k d low. all (suc k) d (omega arith)) in
    quantified_first q (λ t. states_of new t state) s sets ∙ (λ i. quantified_two q (here i) (others i)) ∙ sym (quantified_first q (λ t. states_of old t state) s sets)

pub gathered_grows : (old new : Diagram) (q : Quantifier) (sets : List Local) (state : List ℕ) → Grows old new → AreLocals old sets → gathered_set new q sets state ≡ gathered_set old q sets state
gathered_grows old new q sets state g all =
    let full = ap (λ (arities : List ℕ). is_rest arities state) g.arities in
    let each = sets_grow old new q sets state g all in
    λ i. full i && each i

-- a part of what first ones make
pub front_parts : (d : Diagram) (q : Quantifier) (sets : List Local) (count l : ℕ) (part : List ℕ → Bool) → IsPartOf (length d.arities) 0 (gathered_set d q (take count sets)) l part → IsPartOfFront d q sets l part
front_parts d q sets count l part p = record {
  entry = gathered_set d q (take count sets);
  listed = record { count = count; same = λ state. refl };
  of = p;
}

-- and of what all make
pub all_parts : (d : Diagram) (q : Quantifier) (sets : List Local) (l : ℕ) (part : List ℕ → Bool) → IsPartOf (length d.arities) 0 (gathered_set d q sets) l part → IsPartOfFront d q sets l part
all_parts d q sets l part p =
    let whole = take_all (length sets) sets (omega arith) in
    front_parts d q sets (length sets) l part (subst (λ (ss : List Local). IsPartOf (length d.arities) 0 (gathered_set d q ss) l part) (sym whole) p)

-- the same in a table that has grown
pub front_grown : (old mid : Diagram) (q : Quantifier) (sets : List Local) → Grows old mid → AreLocals old sets → (l : ℕ) (part : List ℕ → Bool) → IsPartOfFront mid q sets l part → IsPartOfFront old q sets l part
front_grown old mid q sets g all l part p =
    let count = p.listed.count in
    let first = All-take (IsLocal old) count sets all in
    front_parts old q sets count l part (IsPartOf_grown old mid 0 p.entry (gathered_set old q (take count sets)) g (λ state. p.listed.same state ∙ gathered_grows old mid q (take count sets) state g first) l part p.of)

-- one set more
module _ (old mid : Diagram) (q : Quantifier) (sets : List Local) (k : ℕ) (set front : Local) (g : Grows old mid) (all : AreLocals old sets) (inside : k < length sets) (is : set ≡ get_or sets k set) (before : IsLocalFor mid (gathered_set old q (take k sets)) front) where
  here : IsLocal old set
  here = subst (IsLocal old) (sym is) (all k set inside)

  pub two_locals : AreLocals mid (front ∷ set ∷ [])
  two_locals = All-cons (IsLocal mid) front (set ∷ []) before.is (All-cons (IsLocal mid) set [] (IsLocal_grows old mid set g here) (All-nil (IsLocal mid)))

  one_alone : (test : Local → Bool) → quantified q test (set ∷ []) ≡ test set
  one_alone test = quantified_first q test set [] ∙ ap (quantified_two q (test set)) (quantified_nothing q test) ∙ two_none q (test set)

  pub one_more : (state : List ℕ) → gathered_set mid q (front ∷ set ∷ []) state ≡ gathered_set old q (take (k + 1) sets) state
  one_more state =
      ap (λ (arities : List ℕ). is_rest arities state && quantified q now (front ∷ set ∷ [])) g.arities
      ∙ guarded (is_rest old.arities state) _ _ (λ full. both ∙ ap (λ (b : Bool). quantified_two q (b && quantified q was (take k sets)) (was set)) full ∙ sym next)
    where
      now : Local → Bool
      now s = states_of mid s state

      was : Local → Bool
      was s = states_of old s state

      both : quantified q now (front ∷ set ∷ []) ≡ quantified_two q (gathered_set old q (take k sets) state) (was set)
      both =
          let first = before.same state in
          let second = states_grow old mid set.level set.number g here.number_in state in
          quantified_first q now front (set ∷ []) ∙ ap (quantified_two q (now front)) (one_alone now) ∙ (λ i. quantified_two q (first i) (second i))

      next : quantified q was (take (k + 1) sets) ≡ quantified_two q (quantified q was (take k sets)) (was set)
      next =
          ap (quantified q was) (take_more sets k set inside ∙ ap (λ (s : Local). take k sets ++ s ∷ []) (sym is))
          ∙ quantified_append q was (take k sets) (set ∷ []) ∙ ap (quantified_two q (quantified q was (take k sets))) (one_alone was)

  -- what joining it to the ones before adds
  pub more_parts : (l : ℕ) (part : List ℕ → Bool) → IsPartOf (length mid.arities) 0 (gathered_set mid q (front ∷ set ∷ [])) l part → IsPartOfFront old q sets l part
  more_parts l part p =
      front_parts old q sets (k + 1) l part (IsPartOf_grown old mid 0 (gathered_set mid q (front ∷ set ∷ [])) (gathered_set old q (take (k + 1) sets)) g one_more l part p)
