-- Up from an instance, step by step.
use Rattle.std.proofs.Common.{◌≡◌, ℕ, ◌<◌, ◌≤◌, Some, None, refl, ap, ◌∙◌, subst, arith}
use Rattle.pw_defs.specs.declared.design.Design.{Design}
use Rattle.design_defs.specs.Alike.{IsAtOrBelow}
use Rattle.design_defs.specs.Joined.{parent_of}
use Rattle.design_defs.specs.Sound.{HasParentsFirst}

-- what stands below an instance has no smaller number
pub not_before : (d : Design) → HasParentsFirst d → (top n : ℕ) → IsAtOrBelow d top n → top ≤ n
not_before d first top _ (IsAtOrBelow.at n same) = omega arith
not_before d first top _ (IsAtOrBelow.inside n p parent below) =
    let before = (first n p parent).0 in
    let rest = not_before d first top p below in
    omega arith

-- a later instance stands below it where what that is inside does
pub up : (d : Design) (top n p : ℕ) → parent_of d n ≡ Some (Some p) → top < n → IsAtOrBelow d top n → IsAtOrBelow d top p
up d top n p parent later below = by n refl below
  where
    by : (m : ℕ) → n ≡ m → IsAtOrBelow d top m → IsAtOrBelow d top p
    by _ same (IsAtOrBelow.at m here) = absurd (omega arith)
    by _ same (IsAtOrBelow.inside m q other rest) =
        let there : parent_of d n ≡ Some (Some q) = ap (parent_of d) same ∙ other in
        let one : q ≡ p = cc in
        subst (IsAtOrBelow d top) one rest

-- a later instance that is inside none doesn't stand below it
pub none_up : (d : Design) (top n : ℕ) → parent_of d n ≡ Some None → top < n → IsAtOrBelow d top n → ⊥
none_up d top n parent later below = by n refl below
  where
    by : (m : ℕ) → n ≡ m → IsAtOrBelow d top m → ⊥
    by _ same (IsAtOrBelow.at m here) = omega arith
    by _ same (IsAtOrBelow.inside m q other rest) =
        let there : parent_of d n ≡ Some (Some q) = ap (parent_of d) same ∙ other in
        cc
