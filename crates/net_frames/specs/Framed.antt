-- What instances are instances of, and the instances, among the rows of a design.
use Rattle.std.specs.Prelude.{◌≡◌, ℕ, ◌+◌, List, ◌++◌, ◌∷◌, [], Some, slice_get}
use Rattle.std.specs.List.{AllZip, slice_range}
use Rattle.pw_defs.specs.declared.design.Body.{Body}
use Rattle.design_rows.specs.declared.tables.InstanceRow.{InstanceRow as Row}
use Rattle.design_rows.specs.declared.tables.KindRow.{KindRow}
use Rattle.design_rows.specs.declared.tables.PlaceRow.{PlaceRow}
use Rattle.design_rows.specs.declared.tables.Rows.{Rows}
use Rattle.module_rows.specs.declared.plain.Netlist.{Netlist}
use Rattle.net_instances.specs.declared.numbering.InstanceRow.{InstanceRow}
use Rattle.net_places.specs.declared.plans.Plans.{Plans}
use Rattle.net_frames.specs.Places.{HasSymbols, IsPlaceOf, bits_in, with_parts}

-- the places of a kind are those of the bits of its body
abbrev pub IsKind : Netlist → Plans → Rows → KindRow → Type 0
IsKind n p r kind = AllZip (IsPlaceOf r.names) (bits_in n p r kind.body) (slice_range r.places kind.first (kind.first + kind.size))

-- the places of each kind are so
pub record AreKinds (n : Netlist) (p : Plans) (r : Rows) : Type 0 where
  pub symbols : HasSymbols n r
  pub each : (k : ℕ) (kind : KindRow) → slice_get r.kinds k ≡ Some kind → IsKind n p r kind

-- the kind of this number is that of a body
abbrev pub IsKindOf : Rows → Body → ℕ → Type 0
IsKindOf r body number = (kind : KindRow) × (slice_get r.kinds number ≡ Some kind) × (kind.body ≡ body)

-- there is a kind of the body, which may have been added
pub record HasKindOf (n : Netlist) (p : Plans) (old new : Rows) (body : Body) (number : ℕ) : Type 0 where
  pub names : List (List ℕ)
  pub places : List PlaceRow
  pub kinds : List KindRow
  pub grown : new ≡ with_parts old names places kinds
  pub kept : AreKinds n p old → AreKinds n p new
  pub there : IsKindOf new body number

-- the row has what the instance has: what it is inside, its name, and what it is an instance of
pub record IsRowOf (r : Rows) (instance : InstanceRow) (row : Row) : Type 0 where
  pub inside : row.parent ≡ instance.parent
  pub name : row.name ≡ instance.name
  pub kind : IsKindOf r instance.body row.kind

-- the rows have these instances, and the places of what they are instances of
pub record AreFramed (n : Netlist) (p : Plans) (instances : List InstanceRow) (r : Rows) : Type 0 where
  pub kinds : AreKinds n p r
  pub rows : AllZip (IsRowOf r) instances r.insts

-- the cells, the modules and the models are the same
pub record HaveSameParts (old new : Rows) : Type 0 where
  pub cells : new.cells ≡ old.cells
  pub modules : new.modules ≡ old.modules
  pub models : new.models ≡ old.models

-- there is one instance more
pub record HasInstance (n : Netlist) (p : Plans) (old new : Rows) (instance : InstanceRow) : Type 0 where
  pub parts : HaveSameParts old new
  pub framed : (instances : List InstanceRow) → AreFramed n p instances old → AreFramed n p (instances ++ instance ∷ []) new
