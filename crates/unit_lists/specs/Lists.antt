-- Values that roots have of their own, and lists of what comes to roots.
use Rattle.std.specs.Prelude.{◌≡◌, ◌⊎◌, List, Some, map}
use Rattle.pw_defs.specs.Values.{value_cmp}
use Rattle.pw_defs.specs.declared.intent.RootList.{RootList}
use Rattle.pw_defs.specs.declared.supplies.Supply.{Supply}
use Rattle.pw_defs.specs.declared.supplies.SupplyKind.TheVariants.{SwitchOut}
use Rattle.pw_defs.specs.declared.values.Value.{Value}
use Rattle.pw_defs.specs.declared.values.Value.TheVariants.{Off, On}
use Rattle.list_defs.specs.Members.{IsIn}
use Rattle.list_defs.specs.Orders.{AreAllRising, IsRising}
use Rattle.supply_defs.specs.UnitViews.{kind_at}
use Rattle.unit_lists.specs.Plans.{view_of}
use Rattle.unit_lists.specs.Views.{view_cmp}
use Rattle.unit_lists.specs.declared.views.View.{View}

-- a root may be off, and on at 0 V where nothing is given on it and it is no switch output
pub data IsOwnValue (supplies : List Supply) (met given : List View) : View → Value → Type 0 where
  off : (a : View) → IsIn a met → IsOwnValue supplies met given a Off
  zero_volts : (a : View) → IsIn a met → ¬ IsIn a given → ¬ (kind_at supplies a.supply ≡ Some SwitchOut) → IsOwnValue supplies met given a (On 0)

-- values begin at roots as they did, and the values begin that roots have of their own
pub record BeginsBy (supplies : List Supply) (met given : List View) (old new : List (View × Value)) : Type 0 where
  pub kept : (a : View) (v : Value) → IsIn (a, v) old → IsIn (a, v) new
  pub own : (a : View) (v : Value) → IsOwnValue supplies met given a v → IsIn (a, v) new
  pub only : (a : View) (v : Value) → IsIn (a, v) new → IsIn (a, v) old ⊎ IsOwnValue supplies met given a v

-- the root of a list as its unit sees it
abbrev pub root_of_list : RootList → View
root_of_list l = view_of l.unit l.root

-- lists of these roots, in order, each with the values of its root
pub record AreListsOf (seen : List View) (values : List (View × Value)) (lists : List RootList) : Type 0 where
  pub rising : IsRising view_cmp seen
  pub roots : map root_of_list lists ≡ seen
  pub each : (l : RootList) → IsIn l lists → AreAllRising value_cmp (λ v. IsIn (root_of_list l, v) values) l.values
