-- Which legal states show a condition, when a watch is raised, and the witness of one that is.
use Rattle.std.specs.Prelude.{◌≡◌, ℕ, true, List, Option, Some, None, take}
use Rattle.pw_defs.specs.declared.chains.Sense.{Sense}
use Rattle.pw_defs.specs.declared.chains.Sense.TheVariants.{WhenSome, WhenNone, Always}
use Rattle.pw_defs.specs.declared.chains.Watch.{Watch}
use Rattle.pw_defs.specs.declared.conditions.Cond.{Cond}
use Rattle.pw_defs.specs.declared.values.State.{State}
use Rattle.pw_defs.specs.declared.values.Value.{Value}
use Rattle.pw_defs.specs.Values.{state_cmp}
use Rattle.list_defs.specs.Members.{IsIn}
use Rattle.list_defs.specs.Orders.{IsLeast}
use Rattle.supply_defs.specs.Conditions.{holds}
use Rattle.supply_defs.specs.SetConditions.{SomeShows, NoneShows}

-- What watches are judged by: the legal states, how many of the first values of a state are visible, and the value
-- that each supply has in a state.
pub record LegalStates : Type 0 where
  pub states : List (List Value)
  pub visible : ℕ
  pub value : List Value → ℕ → Value

-- a legal state in which a condition holds
pub record Shows (legal : LegalStates) (cond : Cond) (state : List Value) : Type 0 where
  pub is_legal : IsIn state legal.states
  pub shown : holds (legal.value state) cond ≡ true

-- A watch is raised where some legal state shows its condition, where none does, or at once.
abbrev pub IsRaisedBy : LegalStates → Sense → Cond → Type 0
IsRaisedBy legal WhenSome cond = SomeShows legal.value legal.states cond
IsRaisedBy legal WhenNone cond = NoneShows legal.value legal.states cond
IsRaisedBy legal Always cond = Unit {0}

abbrev pub IsRaised : LegalStates → Watch → Type 0
IsRaised legal watch = IsRaisedBy legal watch.sense watch.cond

-- the visible part of a legal state that shows a condition
pub record IsVisiblePart (legal : LegalStates) (cond : Cond) (part : List Value) : Type 0 where
  pub state : List Value
  pub shows : Shows legal cond state
  pub seen : part ≡ take legal.visible state

-- the least visible part of a legal state that shows a condition
abbrev pub IsLeastPart : LegalStates → Cond → List Value → Type 0
IsLeastPart legal cond = IsLeast state_cmp (IsVisiblePart legal cond)

-- The witness of a watch that is raised by a state is the least visible part of such a state. Others have none.
abbrev pub IsWitness : LegalStates → Sense → Cond → Option State → Type 0
IsWitness legal WhenSome cond None = ⊥
IsWitness legal WhenSome cond (Some state) = IsLeastPart legal cond state.values
IsWitness legal WhenNone cond witness = witness ≡ None
IsWitness legal Always cond witness = witness ≡ None
