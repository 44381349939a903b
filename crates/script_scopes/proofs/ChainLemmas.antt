-- The paths of an instance and of those above it, step by step.
use Rattle.std.proofs.Common.{◌≡◌, ℕ, zero, suc, ◌<◌, List, [], ◌∷◌, length, Option, None, Some, slice_get, option_and_then, refl, sym, ap, ◌∙◌, arith}
use Rattle.std.specs.Option.{option_map}
use Rattle.pw_defs.specs.declared.design.Design.{Design}
use Rattle.pw_defs.specs.declared.design.Instance.{Instance}
use Rattle.design_defs.specs.Joined.{parent_of}
use Rattle.script_defs.specs.Scopes.{at_or_above, paths_up}
use Rattle.script_scopes.specs.Standing.{IsHierarchy, own_path}
use Rattle.script_scopes.proofs.PathLemmas.{inst_at_own, inst_there, once, own_path_is, top_parent, top_within}

-- the paths of an instance and of those above it, from the inside out
unfoldable pub chain : Design → ℕ → List (List ℕ)
chain d n = paths_up d (suc n) (slice_get d.insts n)

none_up : (d : Design) (fuel : ℕ) → paths_up d fuel None ≡ []
none_up d zero = refl
none_up d (suc fuel) = refl

module _ (d : Design) (h : IsHierarchy d) where
  -- it has as many as there are above it, however many it may have
  same_up : (f g n : ℕ) → n < f → n < g → n < length d.insts → paths_up d f (slice_get d.insts n) ≡ paths_up d g (slice_get d.insts n)
  same_up zero g n few many within = absurd (omega arith)
  same_up (suc f) zero n few many within = absurd (omega arith)
  same_up (suc f) (suc g) n few many within = here (inst_there d n within) (λ p before. same_up f g p (omega (arith, before)) (omega (arith, before)) (omega (arith, before)))
    where
      above : (i : Instance) → slice_get d.insts n ≡ Some i → (o : Option ℕ) → i.parent ≡ o → ((p : ℕ) → p < n → paths_up d f (slice_get d.insts p) ≡ paths_up d g (slice_get d.insts p))
          → paths_up d f (option_and_then (slice_get d.insts) o) ≡ paths_up d g (option_and_then (slice_get d.insts) o)
      above i there None e rest = none_up d f ∙ sym (none_up d g)
      above i there (Some p) e rest =
          rest p (h.sound.parents_first n p (ap (option_map (λ (x : Instance). x.parent)) there ∙ ap Some e)).0

      here : (i : Instance) × (slice_get d.insts n ≡ Some i) → ((p : ℕ) → p < n → paths_up d f (slice_get d.insts p) ≡ paths_up d g (slice_get d.insts p))
          → paths_up d (suc f) (slice_get d.insts n) ≡ paths_up d (suc g) (slice_get d.insts n)
      here found rest =
          ap (paths_up d (suc f)) found.1 ∙ ap (λ ps. found.0.path ∷ ps) (above found.0 found.1 found.0.parent refl rest) ∙ sym (ap (paths_up d (suc g)) found.1)

  pub at_chain : (n : ℕ) → n < length d.insts → at_or_above d (own_path d n) ≡ chain d n
  unfolding chain
  at_chain n within = ap (paths_up d (length d.insts)) (inst_at_own d h n within) ∙ same_up (length d.insts) (suc n) n within (omega arith) within

  step : (n : ℕ) (i : Instance) → slice_get d.insts n ≡ Some i → chain d n ≡ own_path d n ∷ paths_up d n (option_and_then (slice_get d.insts) i.parent)
  unfolding chain
  step n i there =
      let own : own_path d n ≡ i.path = own_path_is d n i.path (ap (option_map (λ (x : Instance). x.path)) there) in
      ap (paths_up d (suc n)) there ∙ ap (λ p. p ∷ paths_up d n (option_and_then (slice_get d.insts) i.parent)) (sym own)

  -- above an instance stands what it is inside, and what is above that
  pub chain_up : (n p : ℕ) → n < length d.insts → parent_of d n ≡ Some (Some p) → chain d n ≡ own_path d n ∷ chain d p
  unfolding chain
  chain_up n p within parent =
      let here = inst_there d n within in
      let inside : here.0.parent ≡ Some p = once (sym (ap (option_map (λ (x : Instance). x.parent)) here.1) ∙ parent) in
      let before = (h.sound.parents_first n p parent).0 in
      step n here.0 here.1
      ∙ ap (λ o. own_path d n ∷ paths_up d n (option_and_then (slice_get d.insts) o)) inside
      ∙ ap (λ ps. own_path d n ∷ ps) (same_up n (suc p) p before (omega arith) (omega (arith, before)))

  -- nothing stands above the top
  pub chain_top : chain d 0 ≡ [] ∷ []
  chain_top =
      let here = inst_there d 0 (top_within d h) in
      let inside : here.0.parent ≡ None = once (sym (ap (option_map (λ (x : Instance). x.parent)) here.1) ∙ top_parent d h) in
      let top : own_path d 0 ≡ [] = own_path_is d 0 [] h.top in
      step 0 here.0 here.1 ∙ ap (λ p. p ∷ []) top
