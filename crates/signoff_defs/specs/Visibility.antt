-- Which supply roots are visible: of a soft macro its interface, and of a design what is outside its soft macros.
use Rattle.std.specs.Prelude.{◌≡◌, ℕ, Bool, true, false, if◌then◌else◌, List, [], ◌∷◌, ◌++◌, Option, Some, None, option_map, option_and_then, unwrap_or, slice_get}
use Rattle.std.specs.List.{flat_map}
use Rattle.std.specs.Ordering.{nat_cmp, ordering_then}
use Rattle.std.specs.declared.cmp.Ordering.{Ordering}
use Rattle.pw_defs.specs.declared.chains.Element.{Element}
use Rattle.pw_defs.specs.declared.chains.Element.TheVariants.{Face, Cell}
use Rattle.pw_defs.specs.declared.chains.Partial.{Partial}
use Rattle.pw_defs.specs.declared.chains.Partial.TheVariants.{Drive, Feed, Quiet, Take}
use Rattle.pw_defs.specs.declared.design.Body.{Body}
use Rattle.pw_defs.specs.declared.design.Body.TheVariants.{Module, Cell as CellBody, Model}
use Rattle.pw_defs.specs.declared.design.Design.{Design}
use Rattle.pw_defs.specs.declared.intent.Intent.{Intent}
use Rattle.pw_defs.specs.declared.intent.SupplySet.{SupplySet}
use Rattle.pw_defs.specs.declared.intent.Unit.{Unit as PowerUnit}
use Rattle.pw_defs.specs.declared.intent.Want.{Want}
use Rattle.pw_defs.specs.declared.intent.Want.TheVariants.{Check, Macro}
use Rattle.pw_defs.specs.declared.strategies.Act.{Act}
use Rattle.pw_defs.specs.declared.strategies.Act.TheVariants.{Iso, Shift}
use Rattle.pw_defs.specs.declared.supplies.SupplyKind.TheVariants.{OutPort}
use Rattle.pw_defs.specs.declared.strategies.Candidate.{Candidate}
use Rattle.design_defs.specs.Ports.{body_of}
use Rattle.list_defs.specs.Members.{IsIn}
use Rattle.list_defs.specs.Orders.{name_cmp, AreAllRising}
use Rattle.supply_defs.specs.Network.{IsRoot, IsUnfed}
use Rattle.supply_defs.specs.SetConditions.{if_any}
use Rattle.supply_defs.specs.UnitViews.{IsRootIn, in_ports, kind_at}
use Rattle.signoff_defs.specs.OpenWalks.{IsOpenWalk}

-- ---- the supplies that an open walk speaks of

abbrev pub in_set : SupplySet → List ℕ
in_set s = s.power ∷ if_any s.ground

abbrev pub if_stated : Option SupplySet → List ℕ
if_stated None = []
if_stated (Some s) = in_set s

abbrev pub in_act : Act → List ℕ
in_act (Iso mode supply) = if_stated supply
in_act (Shift mode up down threshold input output) = if_stated input ++ if_stated output

abbrev pub in_candidate : Candidate → List ℕ
in_candidate c = if_stated c.filter.source ++ if_stated c.filter.sink ++ in_act c.act

abbrev pub in_element : Element → List ℕ
in_element (Face candidates) = flat_map in_candidate candidates
in_element (Cell iso shift input output) = if_stated input ++ in_set output

-- The supplies of the sets of the driver, the receiver and the cells on an open walk, and of the candidates at its faces.
-- An output bit that nothing drives speaks of none.
abbrev pub in_walk : Partial → List ℕ
in_walk (Drive bit pin set elements) = in_set set ++ flat_map in_element elements
in_walk (Feed bit from elements) = flat_map in_element elements
in_walk (Quiet bit) = []
in_walk (Take bit receiver set elements) = in_set set ++ flat_map in_element elements

-- ---- the interface of a soft macro

-- an open walk of the unit's instance speaks of the root
pub record IsExposed (d : Design) (i : Intent) (unit : ℕ) (u : PowerUnit) (root : ℕ) : Type 0 where
  pub bit : ℕ
  pub walk : Partial
  pub is_open : IsOpenWalk d i u.inst unit bit walk
  pub spoken_of : IsIn root (in_walk walk)

-- the root is behind an `out` supply port of the unit's instance
pub record IsBehindPort (i : Intent) (unit : ℕ) (u : PowerUnit) (root : ℕ) : Type 0 where
  pub port : ℕ
  pub listed : IsIn port u.ports
  pub is_out : kind_at i.supplies port ≡ Some OutPort
  pub is_root : IsRootIn i.supplies i.units unit port root

-- a root inside a soft macro that is no `in` port of it, and is exposed or behind an `out` supply port
pub data IsOtherRoot (d : Design) (i : Intent) (unit : ℕ) (u : PowerUnit) (root : ℕ) : Type 0 where
  exposed : ¬ IsIn root (in_ports i.supplies u) → IsExposed d i unit u root → IsOtherRoot d i unit u root
  behind_port : ¬ IsIn root (in_ports i.supplies u) → IsBehindPort i unit u root → IsOtherRoot d i unit u root

-- the name of a supply
abbrev pub supply_name : Intent → ℕ → List ℕ
supply_name i n = unwrap_or (option_map (λ s. s.name) (slice_get i.supplies n)) []

-- the instance at which the unit of a supply stands
abbrev pub unit_instance : Intent → ℕ → Option ℕ
unit_instance i n = option_map (λ u. u.inst) (option_and_then (slice_get i.units) (option_map (λ s. s.unit) (slice_get i.supplies n)))

abbrev pub is_model : Option Body → Bool
is_model None = false
is_model (Some (Module m)) = false
is_model (Some (CellBody c)) = false
is_model (Some (Model m)) = true

-- supplies of models come behind the job's own
abbrev pub model_number : Design → Intent → ℕ → ℕ
model_number d i n = if is_model (option_and_then (body_of d) (unit_instance i n)) then 1 else 0

-- Roots go by name. Where two have one name, which can only come from models, the job's own goes first, then those of models
-- by number: these go by instance and then by line of the model.
abbrev pub root_cmp : Design → Intent → ℕ → ℕ → Ordering
root_cmp d i a b =
    ordering_then (name_cmp (supply_name i a) (supply_name i b)) (ordering_then (nat_cmp (model_number d i a) (model_number d i b)) (nat_cmp a b))

-- The interface of a soft macro: its `in` supply ports in order of declaration, then the others by name.
pub record IsInterface (d : Design) (i : Intent) (unit : ℕ) (u : PowerUnit) (roots : List ℕ) : Type 0 where
  pub others : List ℕ
  pub are_others : AreAllRising (root_cmp d i) (IsOtherRoot d i unit u) others
  pub all : roots ≡ in_ports i.supplies u ++ others

-- ---- the visible roots of a job

-- A root is visible where it is outside the soft macros, or is the root of a supply of the interface of an outermost one.
-- The roots of a whole design are the supplies without feeder.
pub data IsVisible (d : Design) (i : Intent) (root : ℕ) : Type 0 where
  outside : IsUnfed i.supplies root → option_map (λ s. s.unit) (slice_get i.supplies root) ≡ Some 0 → IsVisible d i root
  of_macro : (unit : ℕ) (u : PowerUnit) (roots : List ℕ) (supply : ℕ) → slice_get i.units unit ≡ Some u → u.outer ≡ Some 0
      → IsInterface d i unit u roots → IsIn supply roots → IsRoot i.supplies [] supply root → IsVisible d i root

-- the top's interface
pub record IsTopInterface (d : Design) (i : Intent) (roots : List ℕ) : Type 0 where
  pub top : PowerUnit
  pub is_top : slice_get i.units 0 ≡ Some top
  pub is_interface : IsInterface d i 0 top roots

-- The visible roots in order: of a design by name, and of a soft macro that is modelled its interface.
abbrev pub AreVisibleFor : Want → Design → Intent → List ℕ → Type 0
AreVisibleFor Check d i roots = AreAllRising (root_cmp d i) (IsVisible d i) roots
AreVisibleFor Macro d i roots = IsTopInterface d i roots

abbrev pub AreVisible : Design → Intent → List ℕ → Type 0
AreVisible d i roots = AreVisibleFor i.want d i roots
