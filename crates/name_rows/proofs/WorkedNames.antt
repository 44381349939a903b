-- A row of three names, and ends that cut no row.
use Rattle.std.proofs.Common.{◌≡◌, [], ◌∷◌, refl, arith, lit≤}
use Rattle.std.specs.Prelude.{codes}
use Rattle.name_rows.specs.Cuts.{AreNames, cuts}

-- the row of the names `a`, the empty name, and `bba`
pub three_names : cuts (codes "abba") 0 (1 ∷ 1 ∷ 4 ∷ []) ≡ codes "a" ∷ [] ∷ codes "bba" ∷ []
three_names = refl

pub three_names_cut_the_row : AreNames (codes "abba") (1 ∷ 1 ∷ 4 ∷ [])
three_names_cut_the_row = record { cut = (lit≤ tt, (lit≤ tt, (lit≤ tt, refl))); few = lit≤ tt; short = lit≤ tt }

-- no name ends before the one in front of it
pub no_end_falls : ¬ AreNames (codes "abba") (2 ∷ 1 ∷ 4 ∷ [])
no_end_falls names = let falls = names.cut.1.0 in omega (arith, falls)

-- no byte of the row is left behind the last name
pub no_byte_is_left : ¬ AreNames (codes "abba") (1 ∷ 3 ∷ [])
no_byte_is_left names = let last = names.cut.1.1 in omega (arith, last)
