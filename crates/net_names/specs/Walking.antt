-- What is met at each instance, by its number.
use Rattle.std.specs.Prelude.{◌≡◌, ◌<◌, ℕ, ◌∷◌, ◌++◌, List, [], Some, length, slice_get}
use Rattle.pw_defs.specs.declared.cells.Cells.{Cells}
use Rattle.pw_defs.specs.declared.design.Body.{Body}
use Rattle.pw_defs.specs.declared.design.Body.TheVariants.{Module as ModuleBody, Cell as CellBody, Model as ModelBody}
use Rattle.pw_defs.specs.declared.model.Model.{Model}
use Rattle.pw_defs.specs.declared.netlist.Port.{Port}
use Rattle.design_defs.specs.Names.{joined}
use Rattle.design_defs.specs.Ports.{ports_among}
use Rattle.module_rows.specs.Reads.{inst_at, module_at}
use Rattle.module_rows.specs.declared.plain.Netlist.{Netlist}
use Rattle.net_instances.specs.declared.numbering.InstanceRow.{InstanceRow}
use Rattle.net_names.specs.Meets.{met, met_all, ports_at}
use Rattle.net_names.specs.declared.meeting.Meeting.{Meeting}
use Rattle.net_names.specs.declared.meeting.Place.{Place}

-- the line of a module that makes an instance, by the number of the instance there
abbrev pub IsLineIn : Netlist → Body → ℕ → ℕ → Type 0
IsLineIn n (ModuleBody holder) inst line = (holder < length n.modules) × (inst < length (module_at n holder).insts) × (line ≡ (inst_at n holder inst).line)
IsLineIn n (CellBody c) inst line = ⊥
IsLineIn n (ModelBody m) inst line = ⊥

-- an instance stands at its line in the module of what it is inside
pub record IsOwnPlace (n : Netlist) (rows : List InstanceRow) (row : InstanceRow) (place : Place) : Type 0 where
  pub outer : InstanceRow
  pub there : slice_get rows row.parent ≡ Some outer
  pub holder : place.holder ≡ row.parent
  pub line : IsLineIn n outer.body row.inst place.line

-- the path of an instance is its name, joined to the path of what it is inside
pub record IsPathBelow (symbols paths : List (List ℕ)) (row : InstanceRow) (path : List ℕ) : Type 0 where
  pub outer : List ℕ
  pub name : List ℕ
  pub is_outer : slice_get paths row.parent ≡ Some outer
  pub is_name : slice_get symbols row.name ≡ Some name
  pub is : path ≡ joined outer name

-- ports of a module stand at its line, those of cells and models where their instance does
abbrev pub place_in : Netlist → ℕ → Place → Body → Place
place_in n number own (ModuleBody holder) = record { holder = number; line = (module_at n holder).line }
place_in n number own (CellBody c) = own
place_in n number own (ModelBody m) = own

-- the ports of an instance were met
pub record HasMetPorts (n : Netlist) (cells : Cells) (models : List Model) (number : ℕ) (own : Place) (path : List ℕ) (body : Body) (old new : Meeting) : Type 0 where
  pub ports : List Port
  pub are : ports_among n.modules cells models body ≡ Some ports
  pub met_so : new ≡ met_all old (ports_at (place_in n number own body) path ports)

-- the ports of the top were met
pub record HasMetTop (n : Netlist) (cells : Cells) (models : List Model) (row : InstanceRow) (paths more : List (List ℕ)) (old new : Meeting) : Type 0 where
  pub own : Place
  pub longer : more ≡ paths ++ [] ∷ []
  pub ports : HasMetPorts n cells models 0 own [] row.body old new

-- an instance below the top and its ports were met
pub record HasMetInner (n : Netlist) (cells : Cells) (models : List Model) (number : ℕ) (own : Place) (row : InstanceRow) (paths more : List (List ℕ)) (old new : Meeting) : Type 0 where
  pub path : List ℕ
  pub is_path : IsPathBelow n.symbols paths row path
  pub longer : more ≡ paths ++ path ∷ []
  pub ports : HasMetPorts n cells models number own path row.body (met old (record { place = own; name = path })) new

-- the top or an instance below it was met
pub data HasMetAt (n : Netlist) (cells : Cells) (models : List Model) (rows : List InstanceRow) (number : ℕ) (paths more : List (List ℕ)) (old new : Meeting) : Type 0 where
  top : (row : InstanceRow) → slice_get rows number ≡ Some row → number ≡ 0 → HasMetTop n cells models row paths more old new
      → HasMetAt n cells models rows number paths more old new
  inner : (row : InstanceRow) (own : Place) → slice_get rows number ≡ Some row → 0 < number → IsOwnPlace n rows row own
      → HasMetInner n cells models number own row paths more old new → HasMetAt n cells models rows number paths more old new
