-- All instances of a hierarchy, by their numbers.
use Rattle.std.specs.Prelude.{◌≡◌, ◌+◌, ℕ, List, [], ◌∷◌, Option, Some, length, option_and_then, option_map, slice_get, take}
use Rattle.std.specs.List.{sum_by}
use Rattle.pw_defs.specs.declared.netlist.Inst.{Inst}
use Rattle.pw_defs.specs.declared.netlist.Module.{Module}
use Rattle.list_defs.specs.Orders.{AreAllRising}
use Rattle.design_defs.specs.Hierarchy.{IsInstance, IsOfModule, Sources, Way, body_at, way_cmp}
use Rattle.module_rows.specs.declared.plain.Netlist.{Netlist}
use Rattle.net_sizes.specs.Sizes.{count_in}
use Rattle.net_sizes.specs.declared.sizes.Counts.{Counts}
use Rattle.net_instances.specs.declared.numbering.InstanceRow.{InstanceRow}
use Rattle.net_instances.specs.declared.numbering.Instances.{Instances}
use Rattle.net_instances.specs.declared.tree.TreeRow.{TreeRow}

-- the number of the instance that a line makes inside another
abbrev pub child_in : List InstanceRow → List ℕ → ℕ → ℕ → Option ℕ
child_in rows children holder inst = option_and_then (λ (row : InstanceRow). slice_get children (row.first_child + inst)) (slice_get rows holder)

-- how many bits the instance of a row owns
abbrev pub own_bits : Counts → InstanceRow → ℕ
own_bits bits row = count_in bits row.body

-- a line of a module makes an instance of this name
pub record IsLineOf (s : Sources) (way : Way) (inst : ℕ) (name : List ℕ) : Type 0 where
  pub number : ℕ
  pub m : Module
  pub i : Inst
  pub of_module : IsOfModule s way number m
  pub there : slice_get m.insts inst ≡ Some i
  pub same : i.name ≡ name

-- what an instance is inside, by the number of that, its name and its line there; the top is inside nothing
pub data IsInsideAt (s : Sources) (symbols : List (List ℕ)) (ways : List Way) (row : InstanceRow) : Way → Type 0 where
  top : IsInsideAt s symbols ways row []
  inner : (name : List ℕ) (outer : Way) → slice_get ways row.parent ≡ Some outer → slice_get symbols row.name ≡ Some name → IsLineOf s outer row.inst name
      → IsInsideAt s symbols ways row (name ∷ outer)

-- the number of the instance that a line makes inside another stands among the children
pub record HasChildAt (ways : List Way) (children : List ℕ) (way : Way) (first line : ℕ) (name : List ℕ) : Type 0 where
  pub number : ℕ
  pub listed : slice_get children (first + line) ≡ Some number
  pub there : slice_get ways number ≡ Some (name ∷ way)

-- the row is that of the instance at the way, and all that is inside it can be found
pub record IsInstanceRow (s : Sources) (symbols : List (List ℕ)) (ways : List Way) (children : List ℕ) (way : Way) (row : InstanceRow) : Type 0 where
  pub body : body_at s way ≡ Some row.body
  pub inside : IsInsideAt s symbols ways row way
  pub found : (number line : ℕ) (m : Module) (i : Inst) → IsOfModule s way number m → slice_get m.insts line ≡ Some i
      → HasChildAt ways children way row.first_child line i.name

-- All instances of a hierarchy are in order, each with what it is and what it is inside, and their bits stand one behind
-- another.
pub record AreInstances (s : Sources) (n : Netlist) (bits : Counts) (made : Instances) : Type 0 where
  pub ways : List Way
  pub all_ways : AreAllRising way_cmp (IsInstance s) ways
  pub count : length made.rows ≡ length ways
  pub each : (number : ℕ) (way : Way) (row : InstanceRow) → slice_get ways number ≡ Some way → slice_get made.rows number ≡ Some row
      → IsInstanceRow s n.symbols ways made.children way row
  pub first_bits : (number : ℕ) (row : InstanceRow) → slice_get made.rows number ≡ Some row
      → row.first_bit ≡ sum_by (own_bits bits) (take number made.rows)

-- the row of an instance in order has what its row in the tree has, with the numbers of the order
pub record IsRowOf (rows : List TreeRow) (firsts places : List ℕ) (n : ℕ) (row : InstanceRow) : Type 0 where
  pub old : TreeRow
  pub there : slice_get rows n ≡ Some old
  pub inside : slice_get places old.parent ≡ Some row.parent
  pub inst : row.inst ≡ old.inst
  pub name : row.name ≡ old.name
  pub body : row.body ≡ old.body
  pub first : slice_get firsts n ≡ Some row.first_child

-- the row of an instance in order, where all that it takes is there
abbrev pub row_in : List TreeRow → List ℕ → List ℕ → ℕ → ℕ → Option InstanceRow
row_in rows firsts places n first_bit =
    option_and_then (λ (old : TreeRow). option_and_then (λ first. option_map (λ parent.
    record { parent = parent; inst = old.inst; name = old.name; body = old.body; first_bit = first_bit; first_child = first })
    (slice_get places old.parent)) (slice_get firsts n)) (slice_get rows n)

-- rows in an order
pub record AreRowsOf (rows : List TreeRow) (firsts order places : List ℕ) (bits : Counts) (made : List InstanceRow) : Type 0 where
  pub count : length made ≡ length order
  pub each : (number n : ℕ) (row : InstanceRow) → slice_get order number ≡ Some n → slice_get made number ≡ Some row → IsRowOf rows firsts places n row
  pub first_bits : (number : ℕ) (row : InstanceRow) → slice_get made number ≡ Some row → row.first_bit ≡ sum_by (own_bits bits) (take number made)
