-- Names over the hierarchy.
use Rattle.std.specs.Prelude.{ℕ, List, [], ◌∷◌, ◌++◌}

-- the path of what stands under a path: joined by a slash, and under the top the name alone
abbrev pub joined : List ℕ → List ℕ → List ℕ
joined [] name = name
joined (c ∷ cs) name = (c ∷ cs) ++ 47 ∷ name
