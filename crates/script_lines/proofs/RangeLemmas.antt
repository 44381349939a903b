-- Parts of a list from one place up to another.
use Rattle.std.proofs.Common.{◌≡◌, ℕ, ◌+◌, ◌-◌, ◌≤◌, List, length, sym, ap, ◌∙◌, arith}
use Rattle.std.specs.Prelude.{slice_range, take, drop}
use Rattle.std.proofs.lemmas.List.{take-take, drop-drop, drop-take, length-take}

-- a part is no longer than its ends are apart
pub range_fits : {X : Type 0} (xs : List X) (i j n : ℕ) → n ≤ length (slice_range xs i j) → n ≤ j - i
range_fits xs i j n within = omega (arith, length-take (j - i) (drop i xs))

-- a part of a part is a part of the whole
pub range_of_range : {X : Type 0} (xs : List X) (i j a b : ℕ) → a ≤ b → b ≤ j - i → slice_range xs (i + a) (i + b) ≡ slice_range (slice_range xs i j) a b
range_of_range xs i j a b order within =
    let rest : j - i - a + a ≡ j - i = omega arith in
    let whole : a + (j - i - a) ≡ j - i = omega arith in
    let count : i + b - (i + a) ≡ b - a = omega arith in
    let inner : drop a (take (j - i) (drop i xs)) ≡ take (j - i - a) (drop a (drop i xs)) = ap (λ n. drop a (take n (drop i xs))) (sym whole) ∙ drop-take a (j - i - a) (drop i xs) in
    ap (λ n. take n (drop (i + a) xs)) count ∙ ap (take (b - a)) (sym (drop-drop a i xs)) ∙ sym (take-take (b - a) (j - i - a) (drop a (drop i xs)) (omega arith)) ∙ ap (take (b - a)) (sym inner)
