-- What is answered of a design with its intent.
use Rattle.std.specs.Prelude.{◌≡◌, ◌<◌, ◌≤◌, List, [], map, length}
use Rattle.std.specs.List.{AllByRecursion}
use Rattle.pw_defs.specs.declared.faults.CheckFault.{CheckFault}
use Rattle.pw_defs.specs.declared.faults.CheckFault.TheVariants.{NoLegal, Bound, Memory}
use Rattle.pw_defs.specs.declared.faults.ListFault.{ListFault}
use Rattle.pw_defs.specs.declared.faults.ListFault.TheVariants.{Bound as ListBound, Memory as ListMemory}
use Rattle.pw_defs.specs.declared.intent.Intent.{Intent}
use Rattle.pw_defs.specs.declared.values.State.{State}
use Rattle.list_defs.specs.Orders.{IsRising}
use Rattle.pw_defs.specs.Values.{state_cmp}
use Rattle.supply_defs.specs.States.{state_count}
use Rattle.checks.specs.LineFindings.{lists_of, legal_of}

-- there are more states than are looked at
abbrev pub PassesBound : Intent → Type 0
PassesBound i = 65536 < state_count (lists_of i)

-- all states are looked at, and none is legal
pub record HasNoLegal (i : Intent) : Type 0 where
  pub few : state_count (lists_of i) ≤ 65536
  pub none : legal_of i ≡ []

-- These are the legal states in rising order, each with a value for each supply.
pub record AreLegal (i : Intent) (states : List State) : Type 0 where
  pub listed : map (λ s. s.values) states ≡ legal_of i
  pub rising : IsRising state_cmp (map (λ s. s.values) states)
  pub whole : AllByRecursion (λ v. length v ≡ length i.supplies) (map (λ s. s.values) states)
  pub few : state_count (lists_of i) ≤ 65536

-- why the legal states have no answer
abbrev pub ListCause : Intent → ListFault → Type 0
ListCause i ListBound = PassesBound i
ListCause i ListMemory = Unit {0}

-- why a check has no answer
abbrev pub CheckCause : Intent → CheckFault → Type 0
CheckCause i NoLegal = HasNoLegal i
CheckCause i Bound = PassesBound i
CheckCause i Memory = Unit {0}
