-- What the parts of an intent owe each other.
use Rattle.std.specs.Prelude.{◌≡◌, ℕ, ◌<◌, true, All, IfSome, length}
use Rattle.pw_defs.specs.Values.{value_cmp}
use Rattle.pw_defs.specs.declared.intent.Intent.{Intent}
use Rattle.pw_defs.specs.declared.intent.RootList.{RootList}
use Rattle.pw_defs.specs.declared.intent.Domain.{Domain}
use Rattle.pw_defs.specs.declared.intent.SupplySet.{SupplySet}
use Rattle.pw_defs.specs.declared.conditions.UnitCond.{UnitCond}
use Rattle.list_defs.specs.Orders.{IsRising}
use Rattle.supply_defs.specs.Conditions.{speaks_below}

-- a set names supplies below a number
pub record NamesBelow (n : ℕ) (set : SupplySet) : Type 0 where
  pub power : set.power < n
  pub ground : IfSome set.ground (λ g. g < n)

-- Each supply has a list of values, which rise. The conditions speak of the supplies alone, and the sets of the
-- domains name them.
pub record IsSound (i : Intent) : Type 0 where
  pub lists : length i.lists ≡ length i.supplies
  pub rising : All (λ (list : RootList). IsRising value_cmp list.values) i.lists
  pub conds : All (λ (c : UnitCond). speaks_below (length i.supplies) c.cond ≡ true) i.conds
  pub sets : All (λ (d : Domain). NamesBelow (length i.supplies) d.primary) i.domains
