-- The piece with which a text begins.
use Rattle.std.proofs.Common.{◌≡◌, ℕ, ◌<◌, Bool, true, List, [], ◌∷◌, length, drop, get_or, refl, arith}
use Rattle.lib_cells.specs.LibraryWords.{library_piece}

pub first_split : (text behind : List ℕ) (byte : ℕ) → 0 < length text → byte ≡ get_or text 0 0 → behind ≡ drop 1 text → text ≡ byte ∷ behind
first_split [] behind byte some first rest = absurd (omega (arith, some))
first_split (x ∷ text) behind byte some first rest = cc

-- what stands before a piece on its line makes no other piece
pub same_piece : (fresh : Bool) (text : List ℕ) → library_piece fresh text ≡ library_piece true text
unfolding library_piece
same_piece fresh [] = refl
same_piece fresh (b ∷ rest) = refl
