-- Which states come before which.
use Rattle.std.proofs.Common.{◌≡◌, ℕ, ◌<◌, List, [], ◌∷◌, ◌++◌, sym, ap, ◌∙◌, refl, append-nil}
use Rattle.std.specs.Ordering.{ordering_then}
use Rattle.std.specs.Cmp.{nat_cmp_is}
use Rattle.std.specs.declared.cmp.Ordering.{Ordering}
use Rattle.std.specs.declared.cmp.Ordering.TheVariants.{Less, Equal, Greater}
use Rattle.diagram_defs.specs.States.{state_cmp}

-- behind a common front the rests decide
pub cmp_front : (front xs ys : List ℕ) → state_cmp (front ++ xs) (front ++ ys) ≡ state_cmp xs ys
cmp_front [] xs ys = refl
cmp_front (x ∷ front) xs ys =
    ap (λ (o : Ordering). ordering_then o (state_cmp (front ++ xs) (front ++ ys))) (sym (nat_cmp_is x x Equal refl)) ∙ cmp_front front xs ys

pub cmp_itself : (xs : List ℕ) → state_cmp xs xs ≡ Equal
cmp_itself xs =
    ap (λ (ys : List ℕ). state_cmp ys ys) (sym (append-nil xs)) ∙ cmp_front xs [] []

-- behind one value the rests decide
pub cmp_behind : (v : ℕ) (xs ys : List ℕ) → state_cmp (v ∷ xs) (v ∷ ys) ≡ state_cmp xs ys
cmp_behind v xs ys = cmp_front (v ∷ []) xs ys

-- the first values decide where they differ
pub cmp_above : (w v : ℕ) (xs ys : List ℕ) → v < w → state_cmp (w ∷ xs) (v ∷ ys) ≡ Greater
cmp_above w v xs ys more = ap (λ (o : Ordering). ordering_then o (state_cmp xs ys)) (sym (nat_cmp_is w v Greater more))

pub cmp_below : (w v : ℕ) (xs ys : List ℕ) → w < v → state_cmp (w ∷ xs) (v ∷ ys) ≡ Less
cmp_below w v xs ys less = ap (λ (o : Ordering). ordering_then o (state_cmp xs ys)) (sym (nat_cmp_is w v Less less))
