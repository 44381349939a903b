-- Vectors: how wide they are, which index stands at which place, and how their bits are named. Places count from the left.
use Rattle.std.specs.Prelude.{ℕ, ◌+◌, ◌-◌, Bool, ◌&&◌, nat_le, List, ◌∷◌, [], ◌++◌, Option, Some, None, decimal, if◌then◌else◌}

-- how many bits there are: one of a scalar, and of a vector each from the left end to the right end
abbrev pub width : Option (ℕ × ℕ) → ℕ
width None = 1
width (Some r) = (r.0 - r.1) + (r.1 - r.0) + 1

-- whether the left end of a vector is not below the right end
abbrev pub is_falling : ℕ × ℕ → Bool
is_falling r = nat_le r.1 r.0

-- the index at a place of a vector
abbrev pub index_at : ℕ × ℕ → ℕ → ℕ
index_at r place = if is_falling r then r.0 - place else r.0 + place

-- whether an index is from one end to the other
abbrev pub is_between : ℕ → ℕ → ℕ → Bool
is_between low high index = nat_le low index && nat_le index high

-- the place of an index, where the vector has it
abbrev pub place_at : ℕ × ℕ → ℕ → Option ℕ
place_at r index =
    if is_falling r
    then (if is_between r.1 r.0 index then Some (r.0 - index) else None)
    else (if is_between r.0 r.1 index then Some (index - r.0) else None)

-- the name of a bit: of a scalar the name alone, of a vector the name with the index behind it
abbrev pub bit_name : List ℕ → Option (ℕ × ℕ) → ℕ → List ℕ
bit_name name None place = name
bit_name name (Some r) place = name ++ 91 ∷ decimal (index_at r place) ++ 93 ∷ []
