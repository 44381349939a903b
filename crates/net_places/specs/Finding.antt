-- The row of a name among the rows of a body.
use Rattle.std.specs.Prelude.{◌≡◌, ℕ, ◌<◌, ◌≤◌, Bool, true, false, List, Option, Some, None, option_and_then, slice_get}
use Rattle.std.specs.declared.cmp.Ordering.{Ordering}
use Rattle.std.specs.declared.cmp.Ordering.TheVariants.{Less, Equal, Greater}
use Rattle.pw_defs.specs.declared.cells.Cells.{Cells}
use Rattle.pw_defs.specs.declared.design.Body.{Body}
use Rattle.pw_defs.specs.declared.design.Body.TheVariants.{Module as ModuleBody, Cell as CellBody, Model as ModelBody}
use Rattle.pw_defs.specs.declared.model.Model.{Model}
use Rattle.list_defs.specs.Members.{same_name}
use Rattle.list_defs.specs.Orders.{name_cmp}
use Rattle.design_defs.specs.Hierarchy.{Sources}
use Rattle.design_defs.specs.Ports.{ports_among}
use Rattle.module_rows.specs.declared.plain.Netlist.{Netlist}
use Rattle.net_places.specs.declared.plans.Plans.{Plans}
use Rattle.net_places.specs.declared.rows.NetRow.{NetRow}
use Rattle.net_places.specs.Nets.{own_net}
use Rattle.net_places.specs.Plans.{names_in, port_names, rows_at}

-- the spellings by which the rows of a body have their names
abbrev pub names_among : Netlist → Cells → List Model → Body → List (List ℕ)
names_among n cells models (ModuleBody m) = n.symbols
names_among n cells models (CellBody c) = port_names (ports_among n.modules cells models (CellBody c))
names_among n cells models (ModelBody m) = port_names (ports_among n.modules cells models (ModelBody m))

-- how the name of a row is spelled, where there is such a row and its name is one of the names
abbrev pub row_name : List (List ℕ) → List NetRow → ℕ → Option (List ℕ)
row_name names rows i = option_and_then (λ (row : NetRow). slice_get names row.name) (slice_get rows i)

abbrev pub is_less : Ordering → Bool
is_less Less = true
is_less Equal = false
is_less Greater = false

-- whether a spelling is there and comes before a name
abbrev pub is_before : List ℕ → Option (List ℕ) → Bool
is_before name None = false
is_before name (Some spelled) = is_less (name_cmp spelled name)

-- whether a spelling is there and is a name
abbrev pub is_same : List ℕ → Option (List ℕ) → Bool
is_same name None = false
is_same name (Some spelled) = same_name spelled name

-- whether the name of a row comes before another
abbrev pub row_before : List (List ℕ) → List NetRow → List ℕ → ℕ → Bool
row_before names rows name i = is_before name (row_name names rows i)

-- a test of numbers that passes at each number in front of one at which it passes
abbrev pub PassesInFront : (ℕ → Bool) → ℕ → Type 0
PassesInFront test count = (i j : ℕ) → i < j → j < count → test j ≡ true → test i ≡ true

-- such a test passes at the numbers below some, and from others on at none
pub record IsSplit (test : ℕ → Bool) (count low high : ℕ) : Type 0 where
  pub below : (i : ℕ) → i < low → test i ≡ true
  pub behind : (i : ℕ) → high ≤ i → i < count → test i ≡ false

-- the number is that of the row of what a body owns under a name; where there is none, it owns nothing under it
abbrev pub IsRowNumber : Sources → List (List ℕ) → Plans → Body → List ℕ → Option ℕ → Type 0
IsRowNumber s symbols p body name (Some i) = row_name (names_in symbols s body) (rows_at p body) i ≡ Some name
IsRowNumber s symbols p body name None = own_net s body name ≡ None
