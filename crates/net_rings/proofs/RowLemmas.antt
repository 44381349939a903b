-- Rows by their numbers.
use Rattle.std.proofs.Common.{◌≡◌, ℕ, suc, List, [], ◌∷◌, ◌++◌, Some, length, map, ap, ◌∙◌, refl, arith, length-append}
use Rattle.std.specs.List.{slice_get}
use Rattle.std.proofs.lemmas.List.{map-append}
use Rattle.list_defs.proofs.Longer.{early_part, last_part}
use Rattle.net_rings.specs.Fed.{IsRow, sources_at}
use Rattle.net_rings.specs.declared.graphs.BitRow.{BitRow}

-- rows that name parts of a list name the same parts of a longer one
same_sources : (all more : List ℕ) (bits : List BitRow) → ((n : ℕ) (b : BitRow) → slice_get bits n ≡ Some b → IsRow all b)
    → map (sources_at (all ++ more)) bits ≡ map (sources_at all) bits
same_sources all more [] each = refl
same_sources all more (b ∷ bits) each =
    let here = each 0 b refl in
    ap (λ x. x ∷ map (sources_at (all ++ more)) bits) (early_part all more b.first b.end here.0 here.1)
    ∙ ap (λ rest. sources_at all b ∷ rest) (same_sources all more bits (λ n. each (suc n)))

-- one more row with the sources behind all others
pub sources_more : (all more : List ℕ) (bits : List BitRow) (b : BitRow) → ((n : ℕ) (b : BitRow) → slice_get bits n ≡ Some b → IsRow all b)
    → b.first ≡ length all → b.end ≡ length (all ++ more) → map (sources_at (all ++ more)) (bits ++ b ∷ []) ≡ map (sources_at all) bits ++ more ∷ []
sources_more all more bits b each first end =
    map-append (sources_at (all ++ more)) bits (b ∷ [])
    ∙ ap (λ front. front ++ sources_at (all ++ more) b ∷ []) (same_sources all more bits each)
    ∙ ap (λ last. map (sources_at all) bits ++ last ∷ [])
    (last_part all more b.first b.end first (omega (arith, end, length-append all more)))
