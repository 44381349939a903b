-- All instances in order, by their numbers.
use Rattle.std.specs.Prelude.{◌≡◌, ◌<◌, ℕ, List, Some, length, map, slice_get}
use Rattle.std.specs.List.{All}
use Rattle.design_defs.specs.Hierarchy.{way_cmp}
use Rattle.list_defs.specs.Orders.{IsRising}
use Rattle.net_instances.specs.declared.tree.TreeRow.{TreeRow}
use Rattle.net_instances.specs.Ways.{AreAllNamed, way_in}

-- each of the first numbers stands in the order at its place
abbrev pub ArePlaces : List ℕ → List ℕ → ℕ → Type 0
ArePlaces order places count = (n place : ℕ) → n < count → slice_get places n ≡ Some place → slice_get order place ≡ Some n

-- the numbers are those of all instances, each once, in order
pub record IsInOrder (symbols : List (List ℕ)) (rows : List TreeRow) (order places : List ℕ) : Type 0 where
  pub within : All (λ n. n < length rows) order
  pub rising : AreAllNamed symbols rows → IsRising way_cmp (map (way_in symbols rows) order)
  pub count : length places ≡ length rows
  pub placed : ArePlaces order places (length rows)
