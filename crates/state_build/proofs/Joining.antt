-- The sets of several conditions, one after the other.
use Rattle.std.proofs.Common.{◌≡◌, ℕ, zero, suc, ◌+◌, ◌<◌, Bool, true, ◌&&◌, List, [], ◌∷◌, ◌++◌, take, length, get_or, sym, ap, ◌∙◌, subst}
use Rattle.std.specs.List.{AllZip}
use Rattle.std.proofs.lemmas.List.{take_more}
use Rattle.std.proofs.lemmas.List.Elements.{All-nil, All-cons}
use Rattle.pw_defs.specs.declared.values.Value.{Value}
use Rattle.pw_defs.specs.declared.conditions.Cond.{Cond}
use Rattle.supply_defs.specs.Conditions.{holds}
use Rattle.supply_defs.proofs.Meaning.{holds_all, holds_any}
use Rattle.diagram_defs.specs.declared.locals.Local.{Local}
use Rattle.diagram_defs.specs.declared.quantifiers.Quantifier.{Quantifier}
use Rattle.diagram_defs.specs.declared.quantifiers.Quantifier.TheVariants as which
use Rattle.diagram_defs.specs.Rests.{is_rest}
use Rattle.diagram_defs.specs.Diagrams.{Diagram, Grows}
use Rattle.diagram_defs.specs.Locals.{IsLocal, IsLocalFor, AreLocals, states_of}
use Rattle.diagram_defs.specs.Quantified.{quantified, quantified_two}
use Rattle.diagram_defs.proofs.Guards.{guarded}
use Rattle.diagram_defs.proofs.LocalSets.{local_grows}
use Rattle.diagram_defs.proofs.Quantifying.{quantified_first, quantified_nothing}
use Rattle.state_meets.specs.Gathered.{gathered_set}
use Rattle.state_build.specs.Built.{value_of, built_set, joined_cond}
use Rattle.state_build.specs.Joined.{AreBuilt}

-- pairs of items of two lists, one more, the first ones, and by another relation
zip_push : {A B : Type 0} (R : A → B → Type 0) (xs : List A) (ys : List B) (x : A) (y : B) → AllZip R xs ys → R x y → AllZip R (xs ++ x ∷ []) (ys ++ y ∷ [])
zip_push R [] [] x y h r = (r, tt)
zip_push R [] (b ∷ ys) x y h r = absurd h
zip_push R (a ∷ xs) [] x y h r = absurd h
zip_push R (a ∷ xs) (b ∷ ys) x y h r = (h.0, zip_push R xs ys x y h.1 r)

zip_take : {A B : Type 0} (R : A → B → Type 0) (n : ℕ) (xs : List A) (ys : List B) → AllZip R xs ys → AllZip R (take n xs) (take n ys)
zip_take R zero xs ys h = tt
zip_take R (suc n) [] [] h = tt
zip_take R (suc n) [] (b ∷ ys) h = absurd h
zip_take R (suc n) (a ∷ xs) [] h = absurd h
zip_take R (suc n) (a ∷ xs) (b ∷ ys) h = (h.0, zip_take R n xs ys h.1)

zip_weaker : {A B : Type 0} (R S : A → B → Type 0) → ((x : A) (y : B) → R x y → S x y) → (xs : List A) (ys : List B) → AllZip R xs ys → AllZip S xs ys
zip_weaker R S so [] [] h = tt
zip_weaker R S so [] (b ∷ ys) h = absurd h
zip_weaker R S so (a ∷ xs) [] h = absurd h
zip_weaker R S so (a ∷ xs) (b ∷ ys) h = (so a b h.0, zip_weaker R S so xs ys h.1)

module _ (arities : List ℕ) (lists : List (List Value)) where
  -- the set of one more condition
  pub AreBuilt_more : (mid new : Diagram) (conds : List Cond) (i : ℕ) (cond : Cond) (sets : List Local) (set : Local) → Grows mid new → i < length conds → cond ≡ get_or conds i cond → AreBuilt mid arities lists (take i conds) sets → IsLocalFor new (built_set arities lists cond) set
      → AreBuilt new arities lists (take (i + 1) conds) (sets ++ set ∷ [])
  AreBuilt_more mid new conds i cond sets set g inside there before is =
      let grown = zip_weaker (λ c s. IsLocalFor mid (built_set arities lists c) s) (λ c s. IsLocalFor new (built_set arities lists c) s) (λ c s. local_grows mid new (built_set arities lists c) s g) (take i conds) sets before in
      let all = take_more conds i cond inside ∙ ap (λ (c : Cond). take i conds ++ c ∷ []) (sym there) in
      subst (λ (cs : List Cond). AreBuilt new arities lists cs (sets ++ set ∷ [])) (sym all) (zip_push (λ c s. IsLocalFor new (built_set arities lists c) s) (take i conds) sets cond set grown is)

  pub built_locals : (d : Diagram) (conds : List Cond) (sets : List Local) → AreBuilt d arities lists conds sets → AreLocals d sets
  built_locals d [] [] h = All-nil (IsLocal d)
  built_locals d [] (set ∷ sets) h = absurd h
  built_locals d (cond ∷ conds) [] h = absurd h
  built_locals d (cond ∷ conds) (set ∷ sets) h = All-cons (IsLocal d) set sets h.0.is (built_locals d conds sets h.1)

  built_same : (d : Diagram) (q : Quantifier) (conds : List Cond) (sets : List Local) (state : List ℕ) → AreBuilt d arities lists conds sets → quantified q (λ s. states_of d s state) sets ≡ quantified q (λ c. built_set arities lists c state) conds
  built_same d q [] [] state h = quantified_nothing q (λ s. states_of d s state) ∙ sym (quantified_nothing q (λ c. built_set arities lists c state))
  built_same d q [] (set ∷ sets) state h = absurd h
  built_same d q (cond ∷ conds) [] state h = absurd h
  built_same d q (cond ∷ conds) (set ∷ sets) state h =
      let here = h.0.same state in
      let others = built_same d q conds sets state h.1 in
      quantified_first q (λ s. states_of d s state) set sets ∙ (λ i. quantified_two q (here i) (others i)) ∙ sym (quantified_first q (λ c. built_set arities lists c state) cond conds)

  holds_joined : (value : ℕ → Value) (q : Quantifier) (conds : List Cond) → holds value (joined_cond q conds) ≡ quantified q (holds value) conds
  holds_joined value which.All conds = holds_all value conds
  holds_joined value which.Any conds = holds_any value conds

  -- what is gathered from the sets of all conditions
  pub gathered_built : (d : Diagram) (q : Quantifier) (conds : List Cond) (sets : List Local) (state : List ℕ) → d.arities ≡ arities → AreBuilt d arities lists conds sets → gathered_set d q sets state ≡ built_set arities lists (joined_cond q conds) state
  gathered_built d q conds sets state is built =
      ap (λ (as' : List ℕ). is_rest as' state && quantified q (λ s. states_of d s state) sets) is
      ∙ guarded (is_rest arities state) _ (holds (value_of lists state) (joined_cond q conds)) there
    where
      there : is_rest arities state ≡ true → quantified q (λ s. states_of d s state) sets ≡ holds (value_of lists state) (joined_cond q conds)
      there full =
          built_same d q conds sets state built ∙ ap (λ (b : Bool). quantified q (λ c. b && holds (value_of lists state) c) conds) full ∙ sym (holds_joined (value_of lists state) q conds)

  -- and from the sets of the first ones
  pub front_built : (d : Diagram) (q : Quantifier) (conds : List Cond) (sets : List Local) (count : ℕ) (state : List ℕ) → d.arities ≡ arities → AreBuilt d arities lists conds sets → gathered_set d q (take count sets) state ≡ built_set arities lists (joined_cond q (take count conds)) state
  front_built d q conds sets count state is built =
      gathered_built d q (take count conds) (take count sets) state is (zip_take (λ c s. IsLocalFor d (built_set arities lists c) s) count conds sets built)
