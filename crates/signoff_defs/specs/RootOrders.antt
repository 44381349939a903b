-- The order of the supply roots of a job, with their values.
use Rattle.std.specs.Prelude.{◌≡◌, ℕ, List, ◌++◌, length}
use Rattle.std.specs.List.{AllZip}
use Rattle.pw_defs.specs.declared.design.Design.{Design}
use Rattle.pw_defs.specs.declared.intent.Intent.{Intent}
use Rattle.pw_defs.specs.declared.intent.RootList.{RootList}
use Rattle.pw_defs.specs.declared.values.Value.{Value}
use Rattle.list_defs.specs.Members.{IsIn}
use Rattle.list_defs.specs.Orders.{AreAllRising}
use Rattle.supply_defs.specs.Network.{IsUnfed}
use Rattle.supply_defs.specs.UnitLists.{IsJobList}
use Rattle.signoff_defs.specs.Visibility.{AreVisible, root_cmp}

-- the roots of a job in order, how many of the first are visible, and the values of each
pub record RootOrder : Type 0 where
  pub roots : List ℕ
  pub visible : ℕ
  pub lists : List (List Value)

-- a root that isn't visible
pub record IsHidden (i : Intent) (visible : List ℕ) (root : ℕ) : Type 0 where
  pub is_root : IsUnfed i.supplies root
  pub unseen : ¬ IsIn root visible

-- the hidden roots by name
abbrev pub AreHiddenByName : Design → Intent → List ℕ → List ℕ → Type 0
AreHiddenByName d i visible hidden = AreAllRising (root_cmp d i) (IsHidden i visible) hidden

-- the values that a root has in the whole job
pub record HasJobValues (i : Intent) (root : ℕ) (values : List Value) : Type 0 where
  pub list : RootList
  pub is_list : IsJobList i.units i.lists root list
  pub listed : values ≡ list.values

-- The order of the roots of a job, where the hidden ones stand in a given order: the visible ones first.
pub record IsOrderWith (Hidden : Design → Intent → List ℕ → List ℕ → Type 0) (d : Design) (i : Intent) (order : RootOrder) : Type 0 where
  pub seen : List ℕ
  pub are_visible : AreVisible d i seen
  pub hidden : List ℕ
  pub are_hidden : Hidden d i seen hidden
  pub roots : order.roots ≡ seen ++ hidden
  pub count : order.visible ≡ length seen
  pub lists : AllZip (HasJobValues i) order.roots order.lists

-- the order of the roots of a job
abbrev pub IsRootOrder : Design → Intent → RootOrder → Type 0
IsRootOrder = IsOrderWith AreHiddenByName
