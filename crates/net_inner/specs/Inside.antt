-- What feeds the bits of instances through cells and models themselves, by the numbers of bits in their bodies.
use Rattle.std.specs.Prelude.{◌≡◌, ℕ, ◌+◌, ◌<◌, Bool, true, List, Option, Some, None, length, map, option_and_then, replicate, set, slice_get}
use Rattle.pw_defs.specs.declared.design.Body.{Body}
use Rattle.pw_defs.specs.declared.design.Body.TheVariants.{Module as ModuleBody, Cell as CellBody, Model as ModelBody}
use Rattle.list_defs.specs.Members.{IsIn, all_differ, same_name}
use Rattle.design_defs.specs.Bits.{Spot, range_in}
use Rattle.design_defs.specs.Hierarchy.{Sources}
use Rattle.design_defs.specs.Links.{IsModelFeed, IsThrough}
use Rattle.design_defs.specs.Ranges.{bit_name}
use Rattle.net_places.specs.Gathered.{net_by}
use Rattle.net_places.specs.Nets.{LocalBit, OwnNet, local_bits}
use Rattle.net_places.specs.Plans.{ArePlans, IsOf, names_in, rows_at}
use Rattle.net_instances.specs.declared.numbering.InstanceRow.{InstanceRow}
use Rattle.net_bits.specs.declared.placed.Placed.{Placed}
use Rattle.net_inner.specs.Pairs.{pairs_of, with_pairs}
use Rattle.net_inner.specs.declared.inner.Inner.{Inner}

-- a bit is fed by another through the cell or model that both are bits of
pub data IsFedInside (s : Sources) (fed source : Spot) : Type 0 where
  through : IsThrough s fed source → IsFedInside s fed source
  feed : IsModelFeed s fed source → IsFedInside s fed source

-- what stands at a place of a row, if there is one
abbrev pub in_row : Option (List (Option ℕ)) → ℕ → Option ℕ
in_row row bit = option_and_then (λ source. source) (option_and_then (λ sources. slice_get sources bit) row)

-- the bit of a body that feeds another one of it
abbrev pub source_in : Inner → Body → ℕ → Option ℕ
source_in i (ModuleBody n) bit = None
source_in i (CellBody c) bit = in_row (slice_get i.cells c) bit
source_in i (ModelBody m) bit = in_row (slice_get i.models m) bit

-- the name of a bit in its body
abbrev pub named_in : LocalBit → Option (Option (ℕ × ℕ)) → List ℕ
named_in x None = x.0
named_in x (Some range) = bit_name x.0 range x.1

abbrev pub local_name : Sources → Body → LocalBit → List ℕ
local_name s b x = named_in x (range_in s b x.0)

-- the nets of a body by its rows, and the names of its bits in the order of their numbers
abbrev pub nets_in : Sources → Placed → Body → List OwnNet
nets_in s p b = map (net_by (names_in p.modules.now.symbols s b)) (rows_at p.plans.now b)

abbrev pub names_of_bits : Sources → Placed → Body → List (List ℕ)
names_of_bits s p b = map (local_name s b) (local_bits (nets_in s p b))

-- What a body says of its bits, by their numbers: each of these is said, and of each bit that is fed one source is there.
pub record AreSources (names : List (List ℕ)) (pairs : List (List ℕ × List ℕ)) (source : ℕ → Option ℕ) : Type 0 where
  pub said : (fed from : ℕ) → source fed ≡ Some from → (a b : List ℕ) × (slice_get names fed ≡ Some a) × (slice_get names from ≡ Some b) × IsIn (a, b) pairs
  pub some : (fed from : ℕ) (a b : List ℕ) → slice_get names fed ≡ Some a → slice_get names from ≡ Some b → IsIn (a, b) pairs → (other : ℕ) × (source fed ≡ Some other)

-- the same for the bodies of all instances in which no two bits have one name
abbrev pub AreInnerSources : Sources → Placed → Inner → Type 0
AreInnerSources s p inner =
    (inst : ℕ) (row : InstanceRow) → slice_get p.instances.now.rows inst ≡ Some row → all_differ same_name (names_of_bits s p row.body) ≡ true
    → AreSources (names_of_bits s p row.body) (pairs_of s row.body) (source_in inner row.body)

-- the sources of the bits of a body are put down, where no two bits have one name
abbrev pub HasSources : Sources → Placed → Body → Option (List (Option ℕ)) → Type 0
HasSources s p b row =
    all_differ same_name (names_of_bits s p b) ≡ true → row ≡ Some (with_pairs (names_of_bits s p b) (pairs_of s b) (replicate (length (names_of_bits s p b)) None))

-- modules, cells and models, and the rows of their nets, are those of a hierarchy
pub record HasPlans (s : Sources) (p : Placed) : Type 0 where
  pub of_sources : IsOf p.modules.now p.cells.now p.models.now s
  pub plans : ArePlans s p.modules.now.symbols p.plans.now

-- the model that an instance is of is marked, besides those that were
abbrev pub MarksModel : Body → List Bool → List Bool → Type 0
MarksModel (ModuleBody n) old new = new ≡ old
MarksModel (CellBody c) old new = new ≡ old
MarksModel (ModelBody m) old new = new ≡ set old m true

-- the models of instances are marked
pub record AreUsed (rows : List InstanceRow) (count : ℕ) (used : List Bool) : Type 0 where
  pub all : length used ≡ count
  pub each : (inst m : ℕ) (row : InstanceRow) → slice_get rows inst ≡ Some row → row.body ≡ ModelBody m → m < count → slice_get used m ≡ Some true
