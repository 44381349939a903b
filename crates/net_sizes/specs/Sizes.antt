-- Sums over the types of the instances of modules.
use Rattle.std.specs.Prelude.{◌≡◌, ◌<◌, ℕ, List, [], ◌∷◌, Option, Some, None, length, min, slice_get, slice_index}
use Rattle.pw_defs.specs.declared.design.Body.{Body}
use Rattle.pw_defs.specs.declared.design.Body.TheVariants.{Module as ModuleBody, Cell as CellBody, Model as ModelBody}
use Rattle.list_defs.specs.Members.{IsIn}
use Rattle.design_defs.specs.Bits.{range_in}
use Rattle.design_defs.specs.Hierarchy.{Sources, HasBody}
use Rattle.design_defs.specs.Ranges.{width}
use Rattle.net_hierarchy.specs.Graph.{Types}
use Rattle.net_sizes.specs.Under.{AllDiffer, HasUnder, Own}
use Rattle.net_sizes.specs.declared.sizes.Counts.{Counts}

-- how much there is at an instance
abbrev pub part_in : Counts → List ℕ → Option Body → ℕ
part_in counts totals None = 0
part_in counts totals (Some (ModuleBody n)) = slice_index totals n
part_in counts totals (Some (CellBody n)) = slice_index counts.cells.items n
part_in counts totals (Some (ModelBody n)) = slice_index counts.models.items n

-- the types that are there
abbrev pub or_none : Option (List (Option Body)) → List (Option Body)
or_none None = []
or_none (Some row) = row

-- the types of the instances of a module
abbrev pub row_in : Types → ℕ → List (Option Body)
row_in types n = or_none (slice_get types n)

-- how much a body has by itself
abbrev pub count_in : Counts → Body → ℕ
count_in counts (ModuleBody n) = slice_index counts.modules.items n
count_in counts (CellBody n) = slice_index counts.cells.items n
count_in counts (ModelBody n) = slice_index counts.models.items n

-- The numbers are those of the things that each body has by itself, where there are fewer than so many.
pub record AreCounted (s : Sources) (own : Own) (counts : Counts) (most : ℕ) : Type 0 where
  pub different : (b : Body) → AllDiffer (own b)
  pub count : (b : Body) → HasBody s b → min most (count_in counts b) ≡ min most (length (own b))

-- the number of a module is that of all things below it, where there are fewer than so many
pub record IsSized (s : Sources) (own : Own) (most : ℕ) (sizes : List ℕ) (n : ℕ) : Type 0 where
  pub count : ℕ
  pub has : HasUnder s own (ModuleBody n) count
  pub size : slice_index sizes n ≡ min most count

abbrev pub AreSized : Sources → Own → ℕ → List ℕ → List ℕ → Type 0
AreSized s own most sizes modules = (n : ℕ) → IsIn n modules → IsSized s own most sizes n

-- one thing of each body, so that things below a body are instances
abbrev pub one_each : Own
one_each b = ([], 0) ∷ []

-- a body owns this bit
pub record HasBit (s : Sources) (b : Body) (net : List ℕ) (place : ℕ) : Type 0 where
  pub range : Option (ℕ × ℕ)
  pub is_range : range_in s b net ≡ Some range
  pub within : place < width range

-- the things of each body are its bits, by the name of the net and the place
abbrev pub AreOwnSpots : Sources → Own → Type 0
AreOwnSpots s own =
    (b : Body) (net : List ℕ) (place : ℕ) → (IsIn (net, place) (own b) → HasBit s b net place) × (HasBit s b net place → IsIn (net, place) (own b))
