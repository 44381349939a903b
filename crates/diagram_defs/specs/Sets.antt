-- The sets that the operations on a table of nodes make, as tests of rests.
use Rattle.std.specs.Prelude.{ℕ, Bool, false, not, ◌&&◌, ◌||◌, ◌==◌, List, [], ◌∷◌, ◌++◌, length, drop, slice_index, ◌-◌}
use Rattle.std.specs.Int.{bit_at}
use Rattle.std.specs.List.{list_any}
use Rattle.diagram_defs.specs.Rests.{is_rest, all_rests}
use Rattle.diagram_defs.specs.Diagrams.{Diagram, Shape, member}

-- all rests of a level
abbrev pub full_set : Diagram → ℕ → List ℕ → Bool
full_set d level rest = is_rest (drop level d.arities) rest

-- the whole states whose index at the level is in the mask, bit by bit
abbrev pub literal_set : Diagram → ℕ → ℕ → List ℕ → Bool
literal_set d level mask state = full_set d 0 state && (bit_at mask (slice_index state level) == 1)

-- the rests of a level whose rest of a later level is in a set
abbrev pub widened_set : Diagram → ℕ → ℕ → (List ℕ → Bool) → List ℕ → Bool
widened_set d level from set rest = full_set d level rest && set (drop (from - level) rest)

-- behind each value the set of that value's number
abbrev pub case_set : List Shape → List ℕ → List ℕ → Bool
case_set nodes kids [] = false
case_set nodes kids (v ∷ rest) = member nodes (slice_index kids v) rest

-- the rests in both sets
abbrev pub and_set : List Shape → ℕ → ℕ → List ℕ → Bool
and_set nodes a b rest = member nodes a rest && member nodes b rest

-- the rests in one of the sets
abbrev pub or_set : List Shape → ℕ → ℕ → List ℕ → Bool
or_set nodes a b rest = member nodes a rest || member nodes b rest

-- the rests of the level that aren't in the set
abbrev pub complement_set : Diagram → ℕ → ℕ → List ℕ → Bool
complement_set d level n rest = full_set d level rest && not (member d.nodes n rest)

-- the rests of this many levels that begin a rest in the set
abbrev pub prefix_set : Diagram → ℕ → ℕ → List ℕ → Bool
prefix_set d levels n front =
    (length front == levels) && list_any (λ rest. member d.nodes n (front ++ rest)) (all_rests (drop levels d.arities))
