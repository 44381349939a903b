-- All instances below a top in a list, each with the number of the one that it is inside.
use Rattle.std.specs.Prelude.{◌≡◌, ◌<◌, ◌+◌, ℕ, List, [], ◌∷◌, ◌++◌, Option, Some, None, length, slice_get, option_and_then, nat_lt, if◌then◌else◌}
use Rattle.pw_defs.specs.declared.design.Body.{Body}
use Rattle.pw_defs.specs.declared.design.Body.TheVariants.{Module as ModuleBody, Cell as CellBody, Model as ModelBody}
use Rattle.module_rows.specs.declared.plain.Netlist.{Netlist}
use Rattle.module_rows.specs.Reads.{inst_at, module_at}
use Rattle.module_rows.specs.View.{name_at}
use Rattle.net_hierarchy.specs.Graph.{Types}
use Rattle.net_instances.specs.declared.tree.TreeRow.{TreeRow}

-- what is below a number, and else 0
abbrev pub lower : ℕ → ℕ → ℕ
lower n parent = if nat_lt parent n then parent else 0

abbrev pub parent_of : ℕ → Option TreeRow → ℕ
parent_of n None = 0
parent_of n (Some row) = lower n row.parent

abbrev pub name_of : List (List ℕ) → Option TreeRow → List ℕ
name_of symbols None = []
name_of symbols (Some row) = name_at symbols row.name

-- the number of what an instance is inside, and its name
abbrev pub parent_in : List TreeRow → ℕ → ℕ
parent_in rows n = parent_of n (slice_get rows n)

abbrev pub name_in : List (List ℕ) → List TreeRow → ℕ → List ℕ
name_in symbols rows n = name_of symbols (slice_get rows n)

-- the type of an instance of a module, by the numbers of both
abbrev pub type_at : Types → ℕ → ℕ → Option Body
type_at types holder inst = option_and_then (λ t. t) (option_and_then (λ row. slice_get row inst) (slice_get types holder))

-- the row is that of the instance that a line of a module makes inside an instance
pub record IsChild (n : Netlist) (types : Types) (holder parent inst : ℕ) (row : TreeRow) : Type 0 where
  pub inside : row.parent ≡ parent
  pub line : row.inst ≡ inst
  pub named : slice_get n.symbols row.name ≡ Some (inst_at n holder inst).name
  pub typed : type_at types holder inst ≡ Some row.body

-- there is a row more
pub record HasChild (n : Netlist) (types : Types) (holder parent inst : ℕ) (old new : List TreeRow) : Type 0 where
  pub row : TreeRow
  pub is : IsChild n types holder parent inst row
  pub grown : new ≡ old ++ row ∷ []

-- there are more rows, those of the first lines of a module
pub record HasChildren (n : Netlist) (types : Types) (holder parent count : ℕ) (old new : List TreeRow) : Type 0 where
  pub more : List TreeRow
  pub grown : new ≡ old ++ more
  pub count_is : length more ≡ count
  pub each : (inst : ℕ) (row : TreeRow) → slice_get more inst ≡ Some row → IsChild n types holder parent inst row

-- how many instances are inside one
abbrev pub lines_in : Netlist → Body → ℕ
lines_in n (ModuleBody holder) = length (module_at n holder).insts
lines_in n (CellBody c) = 0
lines_in n (ModelBody m) = 0

-- the number of the module of a body
abbrev pub holder_of : Body → ℕ
holder_of (ModuleBody holder) = holder
holder_of (CellBody c) = 0
holder_of (ModelBody m) = 0

-- there are more rows, those inside an instance
abbrev pub HasInside : Netlist → Types → ℕ → Body → List TreeRow → List TreeRow → Type 0
HasInside n types parent body old new = HasChildren n types (holder_of body) parent (lines_in n body) old new

-- the row is that of an instance inside an earlier one
pub record IsInside (n : Netlist) (types : Types) (rows : List TreeRow) (at : ℕ) (row : TreeRow) : Type 0 where
  pub outer : TreeRow
  pub there : slice_get rows row.parent ≡ Some outer
  pub earlier : row.parent < at
  pub within : row.inst < lines_in n outer.body
  pub child : IsChild n types (holder_of outer.body) row.parent row.inst row

-- the rows of all that is inside an instance stand behind it, one behind another
pub record HasAllInside (n : Netlist) (types : Types) (rows : List TreeRow) (at first : ℕ) (row : TreeRow) : Type 0 where
  pub behind : at < first
  pub each : (inst : ℕ) → inst < lines_in n row.body → (inner : TreeRow) × (slice_get rows (first + inst) ≡ Some inner) × IsChild n types (holder_of row.body) at inst inner

-- The rows of instances below a top, and for the first of them the numbers of the first instances inside.
pub record IsTree (n : Netlist) (types : Types) (top : ℕ) (rows : List TreeRow) (firsts : List ℕ) : Type 0 where
  pub top_row : TreeRow
  pub top_there : slice_get rows 0 ≡ Some top_row
  pub top_body : top_row.body ≡ ModuleBody top
  pub inside : (at : ℕ) (row : TreeRow) → 0 < at → slice_get rows at ≡ Some row → IsInside n types rows at row
  pub all : (at first : ℕ) (row : TreeRow) → slice_get firsts at ≡ Some first → slice_get rows at ≡ Some row → HasAllInside n types rows at first row
