-- A row that is cut into parts, each of which starts where the last one ends.
use Rattle.std.specs.Prelude.{◌≡◌, ℕ, ◌≤◌, List, [], ◌∷◌, length}
use Rattle.std.specs.List.{slice_range}

-- the parts of a row from a place on, by where each of them ends
abbrev pub cuts : {X : Type 0} → List X → ℕ → List ℕ → List (List X)
cuts row from [] = []
cuts row from (end ∷ ends) = slice_range row from end ∷ cuts row end ends

-- the ends never fall, and the last of them is the end of the row
abbrev pub AreCuts : ℕ → List ℕ → ℕ → Type 0
AreCuts from [] end = from ≡ end
AreCuts from (e ∷ ends) end = (from ≤ e) × AreCuts e ends end

-- a row of bytes with the ends of the names in it
pub record AreNames (bytes ends : List ℕ) : Type 0 where
  pub cut : AreCuts 0 ends (length bytes)
  pub few : length ends ≤ 4294967295
  pub short : length bytes ≤ 4294967295
