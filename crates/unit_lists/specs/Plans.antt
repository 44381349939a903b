-- What a network says of roots as units see them: which are seen, what is given on them, and where their values go.
use Rattle.std.specs.Prelude.{◌≡◌, ℕ, ◌⊎◌, List, Some, slice_get}
use Rattle.pw_defs.specs.declared.intent.Unit.{Unit as PowerUnit}
use Rattle.pw_defs.specs.declared.supplies.Said.{Said}
use Rattle.pw_defs.specs.declared.supplies.Supply.{Supply}
use Rattle.pw_defs.specs.declared.supplies.SupplyKind.TheVariants.{SwitchOut}
use Rattle.pw_defs.specs.declared.values.Value.{Value}
use Rattle.list_defs.specs.Members.{IsIn}
use Rattle.supply_defs.specs.UnitLists.{IsSeenRoot}
use Rattle.supply_defs.specs.UnitViews.{IsRootIn}
use Rattle.supply_defs.specs.Values.{IsMentioned, IsNamedInput, IsPortWithin, IsSwitchOutput}
use Rattle.unit_lists.specs.Roots.{AreRoots}
use Rattle.unit_lists.specs.declared.plans.Plan.{Plan}
use Rattle.unit_lists.specs.declared.views.View.{View}

-- a supply as a unit sees it
abbrev pub view_of : ℕ → ℕ → View
view_of unit supply = record { unit = unit; supply = supply }

-- a line of the unit mentions the value on a supply of the root
pub record IsMentionOn (supplies : List Supply) (units : List PowerUnit) (a : View) (value : Value) : Type 0 where
  pub supply : ℕ
  pub is_root : IsRootIn supplies units a.unit supply a.supply
  pub mentioned : IsMentioned supplies a.unit supply value

-- a port of an outermost soft macro in the unit has the root
pub record IsPortOn (supplies : List Supply) (units : List PowerUnit) (a : View) : Type 0 where
  pub inner : ℕ
  pub port : ℕ
  pub within : IsPortWithin units a.unit inner port
  pub is_root : IsRootIn supplies units a.unit port a.supply

-- something is given on the root
abbrev pub IsGiven : List Supply → List PowerUnit → View → Type 0
IsGiven supplies units a = ((value : Value) × IsMentionOn supplies units a value) ⊎ IsPortOn supplies units a

-- one root is that of a macro's port as the macro sees it, and the other one as the unit sees it that the macro stands in
pub record IsPortLink (supplies : List Supply) (units : List PowerUnit) (a b : View) : Type 0 where
  pub port : ℕ
  pub within : IsPortWithin units b.unit a.unit port
  pub inside : IsRootIn supplies units a.unit port a.supply
  pub outside : IsRootIn supplies units b.unit port b.supply

-- one root is that of an input that the on state of a switch names, and the other one is the switch's output
pub record IsSwitchLink (supplies : List Supply) (units : List PowerUnit) (a b : View) : Type 0 where
  pub input : ℕ
  pub one_unit : a.unit ≡ b.unit
  pub output : IsSwitchOutput supplies b.unit b.supply
  pub named : IsNamedInput supplies b.supply input
  pub is_root : IsRootIn supplies units a.unit input a.supply

-- the values of one root are also the other one's
abbrev pub IsLink : List Supply → List PowerUnit → View → View → Type 0
IsLink supplies units a b = IsPortLink supplies units a b ⊎ IsSwitchLink supplies units a b

-- all that a plan has is so in the network
pub record IsPlan (supplies : List Supply) (units : List PowerUnit) (p : Plan) : Type 0 where
  pub roots : AreRoots supplies units p.roots
  pub seen : (a : View) → IsIn a p.seen.keys → IsSeenRoot supplies units a.unit a.supply
  pub met : (a : View) → IsIn a p.met.keys → IsRootIn supplies units a.unit a.supply a.supply
  pub given : (a : View) → IsIn a p.given.keys → IsGiven supplies units a
  pub begins : (a : View) (value : Value) → IsIn (a, value) p.begins.items → IsMentionOn supplies units a value
  pub links : (a b : View) → IsIn (a, b) p.links.keys → IsLink supplies units a b

-- a plan has all that another one has
pub record Grows (old new : Plan) : Type 0 where
  pub seen : (a : View) → IsIn a old.seen.keys → IsIn a new.seen.keys
  pub met : (a : View) → IsIn a old.met.keys → IsIn a new.met.keys
  pub given : (a : View) → IsIn a old.given.keys → IsIn a new.given.keys
  pub begins : (p : View × Value) → IsIn p old.begins.items → IsIn p new.begins.items
  pub links : (l : View × View) → IsIn l old.links.keys → IsIn l new.links.keys

-- A plan grows. Whatever the units are, where this holds of them, it stays so in the network, and this is in it.
pub record Plans (supplies : List Supply) (old new : Plan) (Holds Planned : List PowerUnit → Type 0) : Type 0 where
  pub grows : Grows old new
  pub plan : (units : List PowerUnit) → Holds units → IsPlan supplies units old → IsPlan supplies units new × Planned units

-- whatever the units are
abbrev pub Always : List PowerUnit → Type 0
Always units = Unit {0}

-- a root as a unit sees it was met
pub record Meets (supplies : List Supply) (old new : Plan) (a root : View) : Type 0 where
  pub unit : root.unit ≡ a.unit
  pub planned : Plans supplies old new Always (λ units. IsRootIn supplies units a.unit a.supply root.supply)
  pub met : IsIn root new.met.keys

-- the root of a supply is among those that the unit sees
pub record IsSeenPlanned (supplies : List Supply) (units : List PowerUnit) (p : Plan) (unit supply : ℕ) : Type 0 where
  pub root : ℕ
  pub is_root : IsRootIn supplies units unit supply root
  pub met : IsIn (view_of unit root) p.met.keys
  pub seen : IsIn (view_of unit root) p.seen.keys

-- a value that a line mentions on a supply begins at the root of the supply
pub record IsSaidPlanned (supplies : List Supply) (units : List PowerUnit) (p : Plan) (supply : ℕ) (said : Said) : Type 0 where
  pub root : ℕ
  pub is_root : IsRootIn supplies units said.unit supply root
  pub given : IsIn (view_of said.unit root) p.given.keys
  pub begins : IsIn (view_of said.unit root, said.value) p.begins.items

-- a link goes from the root of an input to the output of its switch
pub record IsInputPlanned (supplies : List Supply) (units : List PowerUnit) (p : Plan) (unit output input : ℕ) : Type 0 where
  pub root : ℕ
  pub is_root : IsRootIn supplies units unit input root
  pub met : IsIn (view_of unit root) p.met.keys
  pub link : IsIn (view_of unit root, view_of unit output) p.links.keys

-- a link goes from the root of a macro's port, as the macro sees it, to its root as the unit sees it
pub record IsPortPlanned (supplies : List Supply) (units : List PowerUnit) (p : Plan) (unit inner port : ℕ) : Type 0 where
  pub root : ℕ
  pub inner_root : ℕ
  pub is_root : IsRootIn supplies units unit port root
  pub is_inner : IsRootIn supplies units inner port inner_root
  pub met : IsIn (view_of inner inner_root) p.met.keys
  pub given : IsIn (view_of unit root) p.given.keys
  pub link : IsIn (view_of inner inner_root, view_of unit root) p.links.keys
  pub seen : IsSeenPlanned supplies units p unit port

-- all that is said on a supply, and what its switch gives it, is in the plan
pub record IsSupplyPlanned (supplies : List Supply) (units : List PowerUnit) (p : Plan) (n : ℕ) (s : Supply) : Type 0 where
  pub own : IsSeenPlanned supplies units p s.unit n
  pub said : (said : Said) → IsIn said s.said → IsSaidPlanned supplies units p n said
  pub inputs : s.kind ≡ SwitchOut → (input : ℕ) → IsIn input s.inputs → IsInputPlanned supplies units p s.unit n input

-- each port of a unit that stands in another one is in the plan
abbrev pub IsUnitPlanned : List Supply → List PowerUnit → Plan → ℕ → PowerUnit → Type 0
IsUnitPlanned supplies units p n u =
    (outer : ℕ) → u.outer ≡ Some outer → (port : ℕ) → IsIn port u.ports → IsPortPlanned supplies units p outer n port

-- all that a network says is in the plan, and nothing else
pub record IsWholePlan (supplies : List Supply) (units : List PowerUnit) (p : Plan) : Type 0 where
  pub plan : IsPlan supplies units p
  pub supplies_in : (n : ℕ) (s : Supply) → slice_get supplies n ≡ Some s → IsSupplyPlanned supplies units p n s
  pub units_in : (n : ℕ) (u : PowerUnit) → slice_get units n ≡ Some u → IsUnitPlanned supplies units p n u
