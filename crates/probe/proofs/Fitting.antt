-- Supplies that fit the levels of a table: as many values at each.
use Rattle.std.proofs.Common.{◌≡◌, ℕ, ◌+◌, ◌<◌, List, length, map, take, get_or, sym, ap, ◌∙◌, arith}
use Rattle.std.proofs.lemmas.List.{take_more_same, take-map, get_or-map, length-map}
use Rattle.std.proofs.Math.Seq.{take-length}

module _ {X : Type 0} (lists : List (List X)) (arities : List ℕ) (count : length lists ≡ length arities) where
  -- one level more
  pub fits_more : (level : ℕ) (values : List X) → values ≡ get_or lists level values → length values ≡ get_or arities level 0 → level < length lists
      → map length (take level lists) ≡ take level arities → map length (take (level + 1) lists) ≡ take (level + 1) arities
  fits_more level values is same inside so_far =
      let sizes = length-map lists (length {A = X}) in
      sym (take-map length (level + 1) lists)
      ∙ take_more_same (map length lists) arities level 0 (omega arith) (omega arith) (take-map length level lists ∙ so_far)
      (get_or-map length lists level values 0 inside ∙ ap length (sym is) ∙ same)

  -- all levels
  pub fits_all : (level : ℕ) → level ≡ length lists → map length (take level lists) ≡ take level arities → map length lists ≡ arities
  fits_all level end so_far =
      ap (map length) (sym (ap (λ (n : ℕ). take n lists) end ∙ take-length lists))
      ∙ so_far ∙ ap (λ (n : ℕ). take n arities) (end ∙ count) ∙ take-length arities
