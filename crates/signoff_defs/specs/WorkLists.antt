-- The sets of states that a check may make on its way, and when they have more parts than a bound allows. It is the work of
-- a check alone: that of writing a model has sets over the visible supplies besides.
use Rattle.std.specs.Prelude.{◌≡◌, ◌≢◌, ◌⊎◌, ℕ, ◌+◌, Bool, ◌&&◌, List, [], ◌∷◌, length, map, slice_index, slice_index_or, take}
use Rattle.std.specs.List.{AllByRecursion}
use Rattle.pw_defs.specs.declared.conditions.Cond.{Cond}
use Rattle.pw_defs.specs.declared.conditions.Cond.TheVariants.{Not, All, Any}
use Rattle.pw_defs.specs.declared.design.Design.{Design}
use Rattle.pw_defs.specs.declared.intent.Intent.{Intent}
use Rattle.pw_defs.specs.declared.values.Value.{Value}
use Rattle.pw_defs.specs.declared.values.Value.TheVariants.{Off}
use Rattle.pw_defs.specs.declared.chains.Chain.{Chain}
use Rattle.list_defs.specs.Members.{IsIn}
use Rattle.supply_defs.specs.Conditions.{holds}
use Rattle.supply_defs.specs.Places.{ArePlaces}
use Rattle.diagram_defs.specs.Parts.{IsPartOf}
use Rattle.diagram_defs.specs.Rests.{is_rest}
use Rattle.signoff_defs.specs.Findings.{NamedWatch}
use Rattle.signoff_defs.specs.Chains.{AreAllChains}
use Rattle.signoff_defs.specs.Reports.{AreWatches, conds_of}
use Rattle.signoff_defs.specs.RootOrders.{RootOrder, IsRootOrder}

-- The second condition stands inside the first: it is the first itself or stands inside a part of it, or it is the
-- conjunction or the choice of the first ones of its parts.
pub data IsInside : Cond → Cond → Type 0 where
  itself : (cond : Cond) → IsInside cond cond
  in_not : (part inside : Cond) → IsInside part inside → IsInside (Not part) inside
  in_all : (parts : List Cond) (part inside : Cond) → IsIn part parts → IsInside part inside → IsInside (All parts) inside
  in_any : (parts : List Cond) (part inside : Cond) → IsIn part parts → IsInside part inside → IsInside (Any parts) inside
  front_of_all : (parts : List Cond) (count : ℕ) → IsInside (All parts) (All (take count parts))
  front_of_any : (parts : List Cond) (count : ℕ) → IsInside (Any parts) (Any (take count parts))

-- what a check works on: the values of each root in order, the place of each supply's root, the constraints in order, and
-- the conditions that are watched
pub record Work : Type 0 where
  pub lists : List (List Value)
  pub places : List ℕ
  pub constraints : List Cond
  pub watched : List Cond

abbrev pub arities : Work → List ℕ
arities w = map length w.lists

-- the value of a supply in a state, which has for each root the index of one of its values
abbrev pub value_of : Work → List ℕ → ℕ → Value
value_of w state supply = let place = slice_index w.places supply in slice_index_or (slice_index_or w.lists place []) (slice_index state place) Off

-- the states in which a condition holds
abbrev pub states_with : Work → Cond → List ℕ → Bool
states_with w cond state = is_rest (arities w) state && holds (value_of w state) cond

-- The sets of states that may be made: those of each constraint and each watched condition and of what stands inside them,
-- those that meet the first constraints, and the legal ones in which a watched condition holds.
pub data IsEntry (w : Work) : (List ℕ → Bool) → Type 0 where
  in_constraint : (cond inside : Cond) → IsIn cond w.constraints → IsInside cond inside → IsEntry w (states_with w inside)
  in_watched : (cond inside : Cond) → IsIn cond w.watched → IsInside cond inside → IsEntry w (states_with w inside)
  first_constraints : (count : ℕ) → IsEntry w (states_with w (All (take count w.constraints)))
  legal_with : (cond : Cond) → IsIn cond w.watched → IsEntry w (states_with w (All (cond ∷ w.constraints)))

-- what completes a front of states in a set, at the level behind the front
pub record SetPart : Type 0 where
  pub level : ℕ
  pub rests : List ℕ → Bool

-- a part, which isn't empty, of a set that may be made
pub record IsWorkPart (w : Work) (p : SetPart) : Type 0 where
  pub set : List ℕ → Bool
  pub entry : IsEntry w set
  pub within : IsPartOf (length w.lists) 0 set p.level p.rests

-- two parts are different: they stand at different levels, or some rest is in one of them alone
abbrev pub AreDifferent : SetPart → SetPart → Type 0
AreDifferent p q = (p.level ≢ q.level) ⊎ ((rest : List ℕ) × (p.rests rest ≢ q.rests rest))

-- no part comes twice
abbrev pub NoneTwice : List SetPart → Type 0
NoneTwice [] = Unit {0}
NoneTwice (p ∷ ps) = AllByRecursion (AreDifferent p) ps × NoneTwice ps

-- there are more parts than a bound: one more can be listed, none twice
pub record HasMoreParts (w : Work) (bound : ℕ) : Type 0 where
  pub parts : List SetPart
  pub count : length parts ≡ bound + 1
  pub each : AllByRecursion (IsWorkPart w) parts
  pub different : NoneTwice parts

-- the work of checking a design with its intent
pub record IsWorkOf (d : Design) (i : Intent) (w : Work) : Type 0 where
  pub order : RootOrder
  pub is_order : IsRootOrder d i order
  pub lists : w.lists ≡ order.lists
  pub places : ArePlaces i.supplies order.roots w.places
  pub constraints : w.constraints ≡ conds_of i
  pub chains : List Chain
  pub are_chains : AreAllChains d i chains
  pub watches : List NamedWatch
  pub are_watches : AreWatches d i chains watches
  pub watched : w.watched ≡ map (λ n. n.watch.cond) watches

-- A check within a bound may give up where its work has more parts than that. It needn't.
pub record MayPassBound (d : Design) (i : Intent) (bound : ℕ) : Type 0 where
  pub work : Work
  pub is_work : IsWorkOf d i work
  pub more : HasMoreParts work bound
