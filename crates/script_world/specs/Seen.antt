-- What the numbers of a world in code stand for.
use Rattle.std.specs.Prelude.{ℕ, List, [], Option, None, Some, option_map, map, slice_index_or}
use Rattle.script_defs.specs.World.{Body as MadeBody, Expression as MadeExpression, GivenClause as MadeClause, Handle as MadeHandle, Origin as MadeOrigin, PowerState, PowerStates as MadeStates, Row, SupplyKey as MadeKey}
use Rattle.pw_defs.specs.declared.values.Value.{Value}
use Rattle.script_world.specs.declared.bodies.Body.{Body}
use Rattle.script_world.specs.declared.bodies.Body.TheVariants.{Supply, Set, Switch, Domain, Table, Group, Strategy, PowerModel}
use Rattle.script_world.specs.declared.parts.Expression.{Expression}
use Rattle.script_world.specs.declared.parts.GivenClause.{GivenClause}
use Rattle.script_world.specs.declared.parts.Handle.{Handle}
use Rattle.script_world.specs.declared.parts.Origin.{Origin}
use Rattle.script_world.specs.declared.parts.SupplyKey.{SupplyKey}
use Rattle.script_world.specs.declared.parts.SupplyKey.TheVariants.{Made, Inner, Outer}
use Rattle.script_world.specs.declared.states.PowerStates.{PowerStates}
use Rattle.script_world.specs.declared.states.StateRow.{StateRow}

-- the names behind numbers: those of places, and the whole names of objects
pub record Known : Type 0 where
  pub places : List (List ℕ)
  pub objects : List (List ℕ)

abbrev pub name_at : List (List ℕ) → ℕ → List ℕ
name_at names n = slice_index_or names n []

abbrev pub origin_seen : List (List ℕ) → Origin → MadeOrigin
origin_seen places o = record { file = name_at places o.file; line = o.line; home = name_at places o.home }

abbrev pub clause_seen : List (List ℕ) → GivenClause → MadeClause
clause_seen places g = record { clause = g.clause; scope = name_at places g.scope; origin = origin_seen places g.origin }

abbrev pub given_seen : List (List ℕ) → List GivenClause → List MadeClause
given_seen places given = map (clause_seen places) given

abbrev pub expression_seen : List (List ℕ) → Expression → MadeExpression
expression_seen places e = record { term = e.term; scope = name_at places e.scope; origin = origin_seen places e.origin }

abbrev pub handle_seen : List (List ℕ) → Handle → MadeHandle
handle_seen objects h = record { set = name_at objects h.set; line = h.line }

abbrev pub key_seen : List (List ℕ) → SupplyKey → MadeKey
key_seen places (Made name) = MadeKey.made (name_at places name)
key_seen places (Inner inst n) = MadeKey.inner (name_at places inst) n
key_seen places (Outer inst n) = MadeKey.outer (name_at places inst) n

-- a state with its name
abbrev pub state_seen : List (List ℕ) → List ℕ × StateRow → PowerState
state_seen places p = record {
  name = p.0;
  line = p.1.line;
  expressions = map (expression_seen places) p.1.expressions;
  legal = p.1.legal;
  illegal = p.1.illegal;
}

-- the states with their names, in order
abbrev pub rows_of : PowerStates → List (List ℕ × StateRow)
rows_of s = elim s.rows as (λ rows. List (List ℕ × StateRow)) [ None ↦ [] | Some rows ↦ rows.value ]

abbrev pub states_seen : List (List ℕ) → PowerStates → MadeStates
states_seen places s = record { states = map (state_seen places) (rows_of s); complete = s.complete }

-- a row of a table with its name
abbrev pub row_seen : List ℕ × List (Option Value) → Row
row_seen p = record { name = p.0; cells = p.1 }

abbrev pub body_seen : Known → Body → MadeBody
body_seen k (Supply kind) = MadeBody.supply kind
body_seen k (Set b) = MadeBody.set (given_seen k.places b.value.given) (states_seen k.places b.value.states)
body_seen k (Switch b) = MadeBody.switch b.value.output b.value.inputs b.value.on
body_seen k (Domain b) =
    MadeBody.domain (given_seen k.places b.value.given) (option_map (handle_seen k.objects) b.value.primary)
    (option_map (handle_seen k.objects) b.value.isolation) (states_seen k.places b.value.states)
body_seen k (Table b) = MadeBody.table (map (key_seen k.places) b.value.columns) (map row_seen b.value.rows)
body_seen k (Group b) = MadeBody.group (states_seen k.places b.value)
body_seen k (Strategy b) = MadeBody.strategy b.value.tool (given_seen k.places b.value.given)
body_seen k (PowerModel b) = MadeBody.power_model b.value.modules b.value.lines
