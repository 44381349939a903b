-- The units of modelled instances: their ports are the supplies that the model shows.
use Rattle.std.specs.Prelude.{◌≡◌, ℕ, Bool, true, false, ◌↔◌, List, ◌++◌, Some, None, slice_get}
use Rattle.std.specs.List.{AllZip}
use Rattle.pw_defs.specs.declared.design.Body.TheVariants.{Model as ModelBody}
use Rattle.pw_defs.specs.declared.design.Design.{Design}
use Rattle.pw_defs.specs.declared.intent.Intent.{Intent}
use Rattle.pw_defs.specs.declared.intent.Unit.{Unit as PowerUnit}
use Rattle.pw_defs.specs.declared.model.Model.{Model}
use Rattle.pw_defs.specs.declared.model.ModelSupply.{ModelSupply}
use Rattle.pw_defs.specs.declared.model.OutPort.{OutPort as ModelOutPort}
use Rattle.pw_defs.specs.declared.supplies.Supply.{Supply}
use Rattle.pw_defs.specs.declared.supplies.SupplyKind.{SupplyKind}
use Rattle.pw_defs.specs.declared.supplies.SupplyKind.TheVariants.{InPort, OutPort, Kept}
use Rattle.pw_defs.specs.declared.values.Value.{Value}
use Rattle.list_defs.specs.Members.{IsIn}
use Rattle.design_defs.specs.Joined.{path_of}
use Rattle.design_defs.specs.Names.{joined}
use Rattle.design_defs.specs.Ports.{body_of}
use Rattle.supply_defs.specs.Values.{IsMentioned}

-- an `in` port of the model is one of the instance; its other supplies stand for themselves
abbrev pub shown_kind : Bool → SupplyKind
shown_kind true = InPort
shown_kind false = Kept

-- The supply shows an interface supply of the model at `path`. The unit mentions each of its values on it.
pub record ShowsSupply (intent : Intent) (unit : ℕ) (path : List ℕ) (number : ℕ) (shown : ModelSupply) : Type 0 where
  pub supply : Supply
  pub there : slice_get intent.supplies number ≡ Some supply
  pub name_is : supply.name ≡ joined path shown.name
  pub unit_is : supply.unit ≡ unit
  pub kind_is : supply.kind ≡ shown_kind shown.port
  pub unfed : shown.port ≡ false → supply.feeder ≡ None
  pub values : (v : Value) → IsIn v shown.values ↔ IsMentioned intent.supplies unit number v

-- The supply shows an `out` port of the model. It is fed by the interface supply that the model names.
pub record ShowsOutPort (intent : Intent) (unit : ℕ) (path : List ℕ) (interface : List ℕ) (number : ℕ) (shown : ModelOutPort) : Type 0 where
  pub supply : Supply
  pub there : slice_get intent.supplies number ≡ Some supply
  pub name_is : supply.name ≡ joined path shown.name
  pub unit_is : supply.unit ≡ unit
  pub kind_is : supply.kind ≡ OutPort
  pub feeder : ℕ
  pub named : slice_get interface shown.supply ≡ Some feeder
  pub fed : supply.feeder ≡ Some feeder

-- The ports of a modelled instance's unit are the model's interface supplies in its order, then its `out` ports.
pub record ShowsModel (intent : Intent) (unit : ℕ) (path : List ℕ) (model : Model) (ports : List ℕ) : Type 0 where
  pub interface : List ℕ
  pub outs : List ℕ
  pub ports_are : ports ≡ interface ++ outs
  pub interface_are : AllZip (ShowsSupply intent unit path) interface model.supplies
  pub outs_are : AllZip (ShowsOutPort intent unit path interface) outs model.outs

-- a unit stands at the instance
pub record IsUnitAt (units : List PowerUnit) (inst number : ℕ) : Type 0 where
  pub unit : PowerUnit
  pub there : slice_get units number ≡ Some unit
  pub inst_is : unit.inst ≡ inst

-- each modelled instance has a unit, which shows its model
abbrev pub HasModelUnits : Design → Intent → Type 0
HasModelUnits design intent =
    (inst m : ℕ) (model : Model) (path : List ℕ) → body_of design inst ≡ Some (ModelBody m) → slice_get design.models m ≡ Some model
    → path_of design inst ≡ Some path → (number : ℕ) × (at : IsUnitAt intent.units inst number) × ShowsModel intent number path model at.unit.ports
