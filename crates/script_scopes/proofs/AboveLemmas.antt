-- What stands at or above an instance, as paths and as steps upward.
use Rattle.std.proofs.Common.{◌≡◌, ◌≢◌, ℕ, zero, suc, ◌<◌, ◌≤◌, ◌↔◌, Bool, true, false, IsTrue, not, ◌||◌, cond, List, [], ◌∷◌, length, filter, Option, None, Some, MatchOption, inl, inr, refl, sym, ap, ◌∙◌, arith}
use Rattle.std.proofs.lemmas.Bool.{or_cases}
use Rattle.list_defs.specs.Members.{same_name}
use Rattle.list_defs.proofs.NameLemmas.{same_name-equal, same_name-itself}
use Rattle.pw_defs.specs.declared.design.Design.{Design}
use Rattle.design_defs.specs.Alike.{IsAtOrBelow}
use Rattle.design_defs.specs.Joined.{parent_of}
use Rattle.script_defs.specs.Scopes.{above, at_or_above, is_one_of}
use Rattle.script_scopes.specs.Standing.{IsHierarchy, own_path}
use Rattle.script_scopes.proofs.ChainLemmas.{at_chain, chain, chain_top, chain_up}
use Rattle.script_scopes.proofs.MarkLemmas.{told_there}
use Rattle.script_scopes.proofs.PathLemmas.{own_path_is, parent_there}

or_later : (a b : Bool) → b ≡ true → (a || b) ≡ true
or_later true b e = refl
or_later false b e = e

module _ (d : Design) (h : IsHierarchy d) where
  parent_within : (n p : ℕ) → n < length d.insts → parent_of d n ≡ Some (Some p) → p < length d.insts
  parent_within n p within parent = let before = (h.sound.parents_first n p parent).0 in omega (arith, before)

  top_chain : chain d 0 ≡ own_path d 0 ∷ []
  top_chain = chain_top d h ∙ ap (λ p. p ∷ []) (sym (own_path_is d 0 [] h.top))

  -- a path is one of those at or above an instance where the instance stands there or below
  module _ (s : ℕ) (in_s : s < length d.insts) where
    up_by : (more n : ℕ) → n ≤ more → n < length d.insts → is_one_of (own_path d s) (chain d n) ≡ true → IsAtOrBelow d s n
    up_by more zero few within e =
        let pass : is_one_of (own_path d s) (own_path d 0 ∷ []) ≡ true = ap (is_one_of (own_path d s)) (sym top_chain) ∙ e in
        elim (or_cases (same_name (own_path d s) (own_path d 0)) false pass) [
          | inl same ↦ IsAtOrBelow.at zero (sym (told_there d h s 0 in_s within (same_name-equal (own_path d s) (own_path d 0) same)))
          | inr none ↦ cc
        ]
    up_by zero (suc n) few within e = absurd (omega arith)
    up_by (suc more) (suc n) few within e =
        let parent = parent_there d h (suc n) (omega arith) within in
        let before = parent.2 in
        let pass : is_one_of (own_path d s) (own_path d (suc n) ∷ chain d parent.0) ≡ true =
        ap (is_one_of (own_path d s)) (sym (chain_up d h (suc n) parent.0 within parent.1)) ∙ e in
        let rest = up_by more parent.0 (omega (arith, before)) (omega (arith, before)) in
        elim (or_cases (same_name (own_path d s) (own_path d (suc n))) (is_one_of (own_path d s) (chain d parent.0)) pass) [
          | inl same ↦ IsAtOrBelow.at (suc n) (sym (told_there d h s (suc n) in_s within (same_name-equal (own_path d s) (own_path d (suc n)) same)))
          | inr later ↦ IsAtOrBelow.inside (suc n) parent.0 parent.1 (rest later)
        ]

    first_of_chain : (n : ℕ) → n < length d.insts → is_one_of (own_path d n) (chain d n) ≡ true
    first_of_chain zero within = ap (is_one_of (own_path d 0)) top_chain ∙ ap (λ b. b || false) (same_name-itself (own_path d 0))
    first_of_chain (suc n) within =
        let parent = parent_there d h (suc n) (omega arith) within in
        ap (is_one_of (own_path d (suc n))) (chain_up d h (suc n) parent.0 within parent.1)
        ∙ ap (λ b. b || is_one_of (own_path d (suc n)) (chain d parent.0)) (same_name-itself (own_path d (suc n)))

    down : (n : ℕ) → n < length d.insts → IsAtOrBelow d s n → is_one_of (own_path d s) (chain d n) ≡ true
    down _ within (IsAtOrBelow.at n same) =
        ap (λ p. is_one_of p (chain d n)) (ap (own_path d) (sym same)) ∙ first_of_chain n within
    down _ within (IsAtOrBelow.inside n p parent below) =
        let rest = down p (parent_within n p within parent) below in
        ap (is_one_of (own_path d s)) (chain_up d h n p within parent) ∙ or_later (same_name (own_path d s) (own_path d n)) (is_one_of (own_path d s) (chain d p)) rest

    pub one_above : (n : ℕ) → n < length d.insts → (is_one_of (own_path d s) (at_or_above d (own_path d n)) ≡ true) ↔ IsAtOrBelow d s n
    one_above n within =
        let same = at_chain d h n within in
        ((λ e. up_by n n (omega arith) within (ap (is_one_of (own_path d s)) (sym same) ∙ e)), (λ below. ap (is_one_of (own_path d s)) same ∙ down n within below))

  -- above an instance stand those at or above what it is inside
  module _ (n : ℕ) (in_n : n < length d.insts) where
    others : List (List ℕ) → List (List ℕ)
    others ps = filter (λ p. not (same_name p (own_path d n))) ps

    with_other : (path : List ℕ) (ps : List (List ℕ)) → path ≢ own_path d n → others ps ≡ ps → others (path ∷ ps) ≡ path ∷ ps
    unfolding others
    with_other path ps differ same = by (same_name path (own_path d n)) refl
      where
        by : (b : Bool) → same_name path (own_path d n) ≡ b → cond (not (same_name path (own_path d n))) (path ∷ others ps) (others ps) ≡ path ∷ ps
        by true e = absurd (differ (same_name-equal path (own_path d n) e))
        by false e = ap (λ b. cond (not b) (path ∷ others ps) (others ps)) e ∙ ap (λ qs. path ∷ qs) same

    differ_from : (m : ℕ) → m < n → own_path d m ≢ own_path d n
    differ_from m before = λ same. absurd (omega (arith, told_there d h m n (omega (arith, in_n)) in_n same))

    others_by : (more m : ℕ) → m ≤ more → m < n → others (chain d m) ≡ chain d m
    unfolding others
    others_by more zero few before = ap others top_chain ∙ with_other (own_path d 0) [] (differ_from 0 before) refl ∙ sym top_chain
    others_by zero (suc m) few before = absurd (omega arith)
    others_by (suc more) (suc m) few before =
        let within : suc m < length d.insts = omega (arith, in_n) in
        let parent = parent_there d h (suc m) (omega arith) within in
        let lower = parent.2 in
        let all = chain_up d h (suc m) parent.0 within parent.1 in
        let rest = others_by more parent.0 (omega (arith, lower)) (omega (arith, lower)) in
        ap others all ∙ with_other (own_path d (suc m)) (chain d parent.0) (differ_from (suc m) before) rest ∙ sym all

    without : (ps : List (List ℕ)) → others (own_path d n ∷ ps) ≡ others ps
    unfolding others
    without ps = ap (λ b. cond (not b) (own_path d n ∷ others ps) (others ps)) (same_name-itself (own_path d n))

    pub above_inner : (p : ℕ) → parent_of d n ≡ Some (Some p) → above d (own_path d n) ≡ at_or_above d (own_path d p)
    unfolding others
    above_inner p parent =
        let before = (h.sound.parents_first n p parent).0 in
        ap others (at_chain d h n in_n ∙ chain_up d h n p in_n parent) ∙ without (chain d p) ∙ others_by p p (omega arith) before
        ∙ sym (at_chain d h p (parent_within n p in_n parent))

    pub above_top : n ≡ 0 → above d (own_path d n) ≡ []
    unfolding others
    above_top first =
        let alone : chain d n ≡ own_path d n ∷ [] = ap (chain d) first ∙ top_chain ∙ ap (λ k. own_path d k ∷ []) (sym first) in
        ap others (at_chain d h n in_n ∙ alone) ∙ without []

  pub outer_cases : (n : ℕ) → n < length d.insts → (r : Option ℕ) → parent_of d n ≡ Some r
      → MatchOption r (above d (own_path d n) ≡ []) (λ p. (p < length d.insts) × (above d (own_path d n) ≡ at_or_above d (own_path d p)))
  outer_cases zero within None parent = above_top zero within refl
  outer_cases (suc n) within None parent = let other = parent_there d h (suc n) (omega arith) within in let is = other.1 in cc
  outer_cases n within (Some p) parent = (parent_within n p within parent, above_inner n within p parent)

-- two answers to one question are the same
pub same_answer : (P : Type 0) (a b : Bool) → IsTrue a ↔ P → (b ≡ true) ↔ P → a ≡ b
same_answer P true true one other = refl
same_answer P false false one other = refl
same_answer P true false one other = sym (other.1 (one.0 refl))
same_answer P false true one other = one.1 (other.0 refl)
