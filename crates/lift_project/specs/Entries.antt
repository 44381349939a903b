-- A kept number as an expression: any of its alternatives, one for each value of its level, in order. An alternative
-- says that the place has the value, and what the child says. The sets of these expressions, and of how far each has
-- been read, are the entries whose parts may have nodes.
use Rattle.std.specs.Prelude.{ℕ, zero, suc, ◌≤◌, ◌<◌, Bool, false, ◌&&◌, ◌||◌, List, ◌∷◌, length, slice_index, nat_eq}
use Rattle.plain_lists.specs.declared.kept.Place.{Place}
use Rattle.diagram_defs.specs.Rests.{is_rest}
use Rattle.diagram_defs.specs.Diagrams.{Shape, kid, kids_of}
use Rattle.diagram_defs.specs.Parts.{IsPartOfSome}
use Rattle.lift_project.specs.Lifts.{lifted_set}

-- the whole states that have an index at a level
abbrev pub value_set : List ℕ → ℕ → ℕ → List ℕ → Bool
value_set arities level index state = is_rest arities state && nat_eq (slice_index state level) index

-- the states of a number's alternative for a value: those that have it at the place and are in the child's set
abbrev pub alternative_set : List ℕ → List Shape → Place → List Place → ℕ → ℕ → List ℕ → Bool
alternative_set arities nodes place places n v state =
    value_set arities place.level (slice_index place.values v) state && lifted_set arities nodes places (kid nodes n v) state

-- the states of any of the first alternatives
abbrev pub first_alternatives : List ℕ → List Shape → Place → List Place → ℕ → ℕ → List ℕ → Bool
first_alternatives arities nodes place places n zero state = false
first_alternatives arities nodes place places n (suc v) state =
    first_alternatives arities nodes place places n v state || alternative_set arities nodes place places n v state

-- the sets of whole states that a kept number stands for at its places: its own set, its first alternatives, each
-- alternative, of it the first half and nothing at all, which every state meets, and all that its children stand for
pub data IsEntry (arities : List ℕ) (nodes : List Shape) : List Place → ℕ → (List ℕ → Bool) → Type 0 where
  whole : (places : List Place) (n : ℕ) → IsEntry arities nodes places n (lifted_set arities nodes places n)
  first : (place : Place) (places : List Place) (n count : ℕ) → count ≤ length (kids_of nodes n) → IsEntry arities nodes (place ∷ places) n (first_alternatives arities nodes place places n count)
  alternative : (place : Place) (places : List Place) (n v : ℕ) → v < length (kids_of nodes n) → IsEntry arities nodes (place ∷ places) n (alternative_set arities nodes place places n v)
  value : (place : Place) (places : List Place) (n v : ℕ) → v < length (kids_of nodes n) → IsEntry arities nodes (place ∷ places) n (value_set arities place.level (slice_index place.values v))
  every : (place : Place) (places : List Place) (n v : ℕ) → v < length (kids_of nodes n) → IsEntry arities nodes (place ∷ places) n (is_rest arities)
  child : (place : Place) (places : List Place) (n v : ℕ) (set : List ℕ → Bool) → v < length (kids_of nodes n) → IsEntry arities nodes places (kid nodes n v) set → IsEntry arities nodes (place ∷ places) n set

-- a part of what a kept number stands for at its places
abbrev pub IsAllowed : List ℕ → List Shape → List Place → ℕ → ℕ → (List ℕ → Bool) → Type 0
IsAllowed arities nodes places n = IsPartOfSome (length arities) (IsEntry arities nodes places n)

-- the states that have an index at a level and are in a set
abbrev pub held_set : List ℕ → ℕ → ℕ → (List ℕ → Bool) → List ℕ → Bool
held_set arities level index set state = value_set arities level index state && set state

-- the two sets on the way to them
pub data IsStep (arities : List ℕ) (level index : ℕ) (set : List ℕ → Bool) : (List ℕ → Bool) → Type 0 where
  alone : IsStep arities level index set (value_set arities level index)
  both : IsStep arities level index set (held_set arities level index set)
