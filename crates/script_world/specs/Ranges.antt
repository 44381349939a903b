-- Numbers of places and objects that there are.
use Rattle.std.specs.Prelude.{ℕ, ◌<◌, ⊤, List, length}
use Rattle.std.specs.List.{All}
use Rattle.std.specs.Option.{IfSome}
use Rattle.script_world.specs.declared.bodies.Body.{Body}
use Rattle.script_world.specs.declared.bodies.Body.TheVariants.{Supply, Set, Switch, Domain, Table, Group, Strategy, PowerModel}
use Rattle.script_world.specs.declared.bodies.DomainBody.{DomainBody}
use Rattle.script_world.specs.declared.bodies.SetBody.{SetBody}
use Rattle.script_world.specs.declared.parts.Expression.{Expression}
use Rattle.script_world.specs.declared.parts.GivenClause.{GivenClause}
use Rattle.script_world.specs.declared.parts.Handle.{Handle}
use Rattle.script_world.specs.declared.parts.Origin.{Origin}
use Rattle.script_world.specs.declared.parts.SupplyKey.{SupplyKey}
use Rattle.script_world.specs.declared.parts.SupplyKey.TheVariants.{Made, Inner, Outer}
use Rattle.script_world.specs.declared.states.PowerStates.{PowerStates}
use Rattle.script_world.specs.declared.states.StateRow.{StateRow}
use Rattle.script_world.specs.Seen.{Known, rows_of}

pub record IsOrigin (places : List (List ℕ)) (o : Origin) : Type 0 where
  pub file : o.file < length places
  pub home : o.home < length places

pub record IsGiven (places : List (List ℕ)) (g : GivenClause) : Type 0 where
  pub scope : g.scope < length places
  pub origin : IsOrigin places g.origin

pub record IsExpression (places : List (List ℕ)) (e : Expression) : Type 0 where
  pub scope : e.scope < length places
  pub origin : IsOrigin places e.origin

abbrev pub IsKey : List (List ℕ) → SupplyKey → Type 0
IsKey places (Made name) = name < length places
IsKey places (Inner inst n) = inst < length places
IsKey places (Outer inst n) = inst < length places

abbrev pub IsHandle : List (List ℕ) → Handle → Type 0
IsHandle objects h = h.set < length objects

abbrev pub IsState : List (List ℕ) → List ℕ × StateRow → Type 0
IsState places p = All (IsExpression places) p.1.expressions

abbrev pub AreStates : List (List ℕ) → PowerStates → Type 0
AreStates places s = All (IsState places) (rows_of s)

pub record IsSet (places : List (List ℕ)) (b : SetBody) : Type 0 where
  pub given : All (IsGiven places) b.given
  pub states : AreStates places b.states

pub record IsDomain (k : Known) (b : DomainBody) : Type 0 where
  pub given : All (IsGiven k.places) b.given
  pub primary : IfSome b.primary (IsHandle k.objects)
  pub isolation : IfSome b.isolation (IsHandle k.objects)
  pub states : AreStates k.places b.states

abbrev pub IsBody : Known → Body → Type 0
IsBody k (Supply kind) = ⊤
IsBody k (Set b) = IsSet k.places b.value
IsBody k (Switch b) = ⊤
IsBody k (Domain b) = IsDomain k b.value
IsBody k (Table b) = All (IsKey k.places) b.value.columns
IsBody k (Group b) = AreStates k.places b.value
IsBody k (Strategy b) = All (IsGiven k.places) b.value.given
IsBody k (PowerModel b) = ⊤
