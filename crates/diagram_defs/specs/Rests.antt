-- Rests of a state: an index for each level from some level on.
use Rattle.std.specs.Prelude.{ℕ, Bool, true, false, ◌&&◌, List, [], ◌∷◌, nat_lt, map}
use Rattle.std.specs.List.{flat_map, range_with_len}

-- whether a list has one index for each level, below the level's arity
abbrev pub is_rest : List ℕ → List ℕ → Bool
is_rest [] [] = true
is_rest [] (v ∷ rest) = false
is_rest (arity ∷ arities) [] = false
is_rest (arity ∷ arities) (v ∷ rest) = nat_lt v arity && is_rest arities rest

-- every such list, in order
abbrev pub all_rests : List ℕ → List (List ℕ)
all_rests [] = [] ∷ []
all_rests (arity ∷ arities) =
    flat_map (λ v. map (λ rest. v ∷ rest) (all_rests arities)) (range_with_len 0 arity)
