-- Texts that stand at the front or at the end of others.
use Rattle.std.proofs.Common.{◌≡◌, ◌∙◌, ℕ, true, List, [], ◌∷◌, ◌++◌, length, take, drop, nat_eq, refl, sym, ap}
use Rattle.std.specs.Cmp.Lexicographic.{pointwise, same_text}
use Rattle.std.proofs.lemmas.Bool.{eq-eqb}
use Rattle.std.proofs.lemmas.List.{take-append-drop}

pub same_self : (xs : List ℕ) → pointwise nat_eq xs xs ≡ true
same_self [] = refl
same_self (x ∷ xs) = rw (eq-eqb x x refl) (same_self xs)

-- what is left behind a front that was found
pub front_back : (xs front back : List ℕ) (n : ℕ) → pointwise nat_eq (take n xs) front ≡ true → back ≡ drop n xs → xs ≡ front ++ back
front_back xs front back n found left =
    sym (take-append-drop n xs) ∙ ap (λ ys. ys ++ drop n xs) (same_text (take n xs) front (sym found)) ∙ ap (λ ys. front ++ ys) (sym left)

-- and before an end
pub back_front : (xs front back : List ℕ) (n : ℕ) → pointwise nat_eq (drop n xs) back ≡ true → front ≡ take n xs → xs ≡ front ++ back
back_front xs front back n found left =
    sym (take-append-drop n xs) ∙ ap (λ ys. take n xs ++ ys) (same_text (drop n xs) back (sym found)) ∙ ap (λ ys. ys ++ back) (sym left)

pub front_of : (front back : List ℕ) → take (length front) (front ++ back) ≡ front
front_of [] back = refl
front_of (x ∷ front) back = ap (λ ys. x ∷ ys) (front_of front back)
