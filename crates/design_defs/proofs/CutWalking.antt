-- Walks that are cut: there is one from each bit, and without cuts they are the walks.
use Rattle.std.proofs.Common.{◌≡◌, ℕ, Bool, true, false, List, [], ◌∷◌, Some, None, refl, ap, subst}
use Rattle.pw_defs.specs.declared.design.Bit.{Bit}
use Rattle.pw_defs.specs.declared.design.Feeder.{Feeder}
use Rattle.design_defs.specs.CutWalks.{IsCutWalk, WalkEnd, nowhere}
use Rattle.design_defs.specs.Walks.{IsWalk, feeder_at, next_of}

-- a bit has one walk that is cut so
pub one_cut_walk : (bits : List Bit) (cut : ℕ → Bool) (n m : ℕ) (p q : List ℕ) (e f : WalkEnd) → n ≡ m
    → IsCutWalk bits cut n p e → IsCutWalk bits cut m q f → (p ≡ q) × (e ≡ f)
one_cut_walk bits cut _ _ _ _ _ _ same (IsCutWalk.stops n here) (IsCutWalk.stops m here') = (cc, refl)
one_cut_walk bits cut _ _ _ _ _ _ same (IsCutWalk.stops n here) (IsCutWalk.ends m f uncut e none) = let at : cut n ≡ cut m = ap cut same in cc
one_cut_walk bits cut _ _ _ _ _ _ same (IsCutWalk.stops n here) (IsCutWalk.goes m next f end q uncut e more walk) = let at : cut n ≡ cut m = ap cut same in cc
one_cut_walk bits cut _ _ _ _ _ _ same (IsCutWalk.ends n f uncut e none) (IsCutWalk.stops m here) = let at : cut n ≡ cut m = ap cut same in cc
one_cut_walk bits cut _ _ _ _ _ _ same (IsCutWalk.ends n end uncut e none) (IsCutWalk.ends m other uncut' f none') =
    let ends : end ≡ other = cc in (cc, ap WalkEnd.by_feeder ends)
one_cut_walk bits cut _ _ _ _ _ _ same (IsCutWalk.ends n f uncut e none) (IsCutWalk.goes m next g end q uncut' e' more walk) = cc
one_cut_walk bits cut _ _ _ _ _ _ same (IsCutWalk.goes n next f end p uncut e more walk) (IsCutWalk.stops m here) = let at : cut n ≡ cut m = ap cut same in cc
one_cut_walk bits cut _ _ _ _ _ _ same (IsCutWalk.goes n next f end p uncut e more walk) (IsCutWalk.ends m g uncut' e' none) = cc
one_cut_walk bits cut _ _ _ _ _ _ same (IsCutWalk.goes n next f end p uncut e more walk) (IsCutWalk.goes m next' f' end' q uncut' e' more' walk') =
    let on : next ≡ next' = cc in
    let rest = one_cut_walk bits cut next next' p q end end' on walk walk' in
    let ps : p ≡ q = rest.0 in
    (cc, rest.1)

-- a walk is the walk that is cut nowhere
pub cut_nowhere : (bits : List Bit) (n : ℕ) (p : List ℕ) (e : Feeder) → IsWalk bits n p e → IsCutWalk bits nowhere n p (WalkEnd.by_feeder e)
cut_nowhere bits _ _ _ (IsWalk.ends n end e none) = IsCutWalk.ends n end refl e none
cut_nowhere bits _ _ _ (IsWalk.goes n next f end p e more walk) =
    IsCutWalk.goes n next f (WalkEnd.by_feeder end) p refl e more (cut_nowhere bits next p end walk)

-- and the walk that is cut nowhere is a walk
pub whole_walk : (bits : List Bit) (n : ℕ) (p : List ℕ) (e : Feeder) (end : WalkEnd) → end ≡ WalkEnd.by_feeder e → IsCutWalk bits nowhere n p end
    → IsWalk bits n p e
whole_walk bits _ _ e _ same (IsCutWalk.stops n here) = cc
whole_walk bits _ _ e _ same (IsCutWalk.ends n end uncut f none) =
    let ends : end ≡ e = cc in IsWalk.ends n e (subst (λ x. feeder_at bits n ≡ Some x) ends f) (subst (λ x. next_of x ≡ None) ends none)
whole_walk bits _ _ e _ same (IsCutWalk.goes n next f end p uncut g more walk) = IsWalk.goes n next f e p g more (whole_walk bits next p e end same walk)

-- where a bit has a walk, it has a walk that is cut, wherever the cuts are
pub has_cut_walk : (bits : List Bit) (cut : ℕ → Bool) (n : ℕ) (p : List ℕ) (e : Feeder) → IsWalk bits n p e
    → (passed : List ℕ) × (end : WalkEnd) × IsCutWalk bits cut n passed end
has_cut_walk bits cut _ _ _ (IsWalk.ends n end e none) = cut_here (cut n) refl
  where
    cut_here : (b : Bool) → cut n ≡ b → (passed : List ℕ) × (last : WalkEnd) × IsCutWalk bits cut n passed last
    cut_here true here = (n ∷ [], WalkEnd.at_cut, IsCutWalk.stops n here)
    cut_here false uncut = (n ∷ [], WalkEnd.by_feeder end, IsCutWalk.ends n end uncut e none)
has_cut_walk bits cut _ _ _ (IsWalk.goes n next f end p e more walk) = cut_here (cut n) refl (has_cut_walk bits cut next p end walk)
  where
    cut_here : (b : Bool) → cut n ≡ b → ((passed : List ℕ) × (last : WalkEnd) × IsCutWalk bits cut next passed last)
        → (passed : List ℕ) × (last : WalkEnd) × IsCutWalk bits cut n passed last
    cut_here true here rest = (n ∷ [], WalkEnd.at_cut, IsCutWalk.stops n here)
    cut_here false uncut rest = (n ∷ rest.0, rest.1, IsCutWalk.goes n next f rest.1 rest.0 uncut e more rest.2)
