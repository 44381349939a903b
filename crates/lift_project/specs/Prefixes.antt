-- How the prefixes of a set are found: level by level, with the found ones kept.
use Rattle.std.specs.Prelude.{◌≡◌, ℕ, Bool, not, ◌&&◌, List, [], ◌∷◌, ◌++◌, Some, drop, nat_eq}
use Rattle.std.specs.declared.hash.FoldHasher.{FoldHasher}
use Rattle.std.specs.declared.hash.BuildHasherDefault.{BuildHasherDefault}
use Rattle.std.specs.HashMap.{HashMap, get}
use Rattle.diagram_defs.specs.Rests.{is_rest}
use Rattle.diagram_defs.specs.Diagrams.{Diagram, Shape, kid, IsSet, IsNumberFor}

-- whether a front leads to a number that isn't empty
abbrev pub starts : List Shape → ℕ → List ℕ → Bool
starts nodes n [] = not (nat_eq n 0)
starts nodes n (v ∷ front) = starts nodes (kid nodes n v) front

-- the rests of a level of the first levels that begin a rest of the set
abbrev pub starts_set : List ℕ → List Shape → ℕ → ℕ → List ℕ → Bool
starts_set arities nodes level n front = is_rest (drop level arities) front && starts nodes n front

-- k is the number of the prefixes of n
pub record IsFound (from into : Diagram) (n k : ℕ) : Type 0 where
  pub level : ℕ
  pub in_level : IsSet from level n
  pub found : IsNumberFor into level (starts_set into.arities from.nodes level n) k

-- each number that was found is right
pub record AreFound (from into : Diagram) (done : HashMap ℕ ℕ (BuildHasherDefault FoldHasher)) : Type 0 where
  pub each : (n k : ℕ) → get nat_eq done n ≡ Some k → IsFound from into n k

-- the levels of a table are the first ones of another
pub record AreFirst (from into : Diagram) : Type 0 where
  pub more : List ℕ
  pub same : from.arities ≡ into.arities ++ more
