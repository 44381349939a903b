-- The last bit of a walk by its place.
use Rattle.std.proofs.Common.{◌≡◌, ℕ, ◌-◌, List, [], ◌∷◌, length, slice_index_or, refl, ap, ◌∙◌, arith}
use Rattle.checks.specs.LineChains.{last_bit}

last_at : (n : ℕ) (ns : List ℕ) → slice_index_or (n ∷ ns) (length ns) 0 ≡ last_bit (n ∷ ns)
last_at n [] = refl
last_at n (m ∷ ns) = last_at m ns

pub last_is : (ns : List ℕ) → slice_index_or ns (length ns - 1) 0 ≡ last_bit ns
last_is [] = refl
last_is (n ∷ ns) = let e : length (n ∷ ns) - 1 ≡ length ns = omega arith in ap (λ (k : ℕ). slice_index_or (n ∷ ns) k 0) e ∙ last_at n ns
