-- Kept sets, their places among the levels of a table, and the sets of whole states that they are lifted to.
use Rattle.std.specs.Prelude.{◌≡◌, ℕ, ◌<◌, Bool, ◌&&◌, List, Some, length, map, slice_get, slice_index, nat_eq}
use Rattle.std.specs.List.{position_or_len}
use Rattle.plain_lists.specs.declared.kept.Kept.{Kept}
use Rattle.plain_lists.specs.declared.kept.KeptNode.{KeptNode}
use Rattle.plain_lists.specs.declared.kept.Place.{Place}
use Rattle.diagram_defs.specs.Rests.{is_rest}
use Rattle.diagram_defs.specs.Diagrams.{Shape, IsKid, AreNodes, member}

-- a kept node as a shape
abbrev pub shape_of : KeptNode → Shape
shape_of node = record { level = node.level; kids = node.kids }

abbrev pub shapes_of : Kept → List Shape
shapes_of kept = map shape_of kept.nodes

-- each kept node has a level, and for each value of it a child: 0, an earlier node of the next level, or 1 on the last
abbrev pub AreKeptNodes : Kept → Type 0
AreKeptNodes kept = AreNodes kept.arities (shapes_of kept)

-- n is 0, or a kept node of the level, or 1 behind the last level
abbrev pub IsKept : Kept → ℕ → ℕ → Type 0
IsKept kept level n = IsKid kept.arities (shapes_of kept) (length kept.nodes) level n

-- a place for a level of this many values: a level of the table, and for each value one of its indices, all different
pub record IsPlace (arities : List ℕ) (arity : ℕ) (place : Place) : Type 0 where
  pub level_in : place.level < length arities
  pub count : length place.values ≡ arity
  pub indices : (v : ℕ) → v < arity → slice_index place.values v < slice_index arities place.level
  pub distinct : (v w : ℕ) → v < arity → w < arity → slice_index place.values v ≡ slice_index place.values w → v ≡ w

-- one place for each kept level
pub record ArePlaces (kept : Kept) (arities : List ℕ) (places : List Place) : Type 0 where
  pub count : length places ≡ length kept.arities
  pub each : (level : ℕ) (place : Place) → slice_get places level ≡ Some place → IsPlace arities (slice_index kept.arities level) place

-- which value of its kept level a state has at a place; past the last one where it has none of them
abbrev pub value_at : List ℕ → Place → ℕ
value_at state place = position_or_len (λ index. nat_eq index (slice_index state place.level)) place.values

-- the values of a state at places, read back
abbrev pub read_back : List Place → List ℕ → List ℕ
read_back places state = map (value_at state) places

-- the whole states whose values at the places, read back, are in the set of a kept number
abbrev pub lifted_set : List ℕ → List Shape → List Place → ℕ → List ℕ → Bool
lifted_set arities nodes places n state = is_rest arities state && member nodes n (read_back places state)
