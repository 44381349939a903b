-- Places in a text.
use Rattle.std.specs.Prelude.{◌≡◌, ℕ, ◌≤◌, ◌==◌, Bool, ◌&&◌, ◌||◌, List, [], ◌∷◌, length}
use Rattle.text_defs.specs.Lines.{line_at}
use Rattle.text_defs.specs.Pieces.{is_blank}
use Rattle.text_streams.specs.declared.places.Place.{Place}

-- whether only blanks stand before what follows the bytes, on its line
abbrev pub fresh_after : Bool → List ℕ → Bool
fresh_after fresh [] = fresh
fresh_after fresh (b ∷ bytes) = fresh_after (b == 10 || (fresh && is_blank b)) bytes

-- the place is one of its text, whose line it knows
pub record IsAt (p : Place) : Type 0 where
  pub within : p.at ≤ length p.text.now
  pub line : p.line ≡ line_at p.text.now p.at
