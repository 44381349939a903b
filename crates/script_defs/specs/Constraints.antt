-- The constraints on states that a script makes, as one list in order: stated values, tables, complete objects, illegal
-- states, switch outputs, and supply ports of soft macros.
use Rattle.std.specs.Prelude.{ℕ, zero, suc, ◌==◌, Bool, not, ◌&&◌, List, [], ◌∷◌, ◌++◌, Option, Some, option_map, option_to_list, unwrap_or, is_some, map, length, if◌then◌else◌}
use Rattle.std.specs.List.{list_any, find, filter, flat_map, zip}
use Rattle.pw_defs.specs.declared.conditions.Cond.{Cond}
use Rattle.pw_defs.specs.declared.conditions.Cond.TheVariants.{True, Is, On, Not, All, Any}
use Rattle.pw_defs.specs.declared.conditions.UnitCond.{UnitCond}
use Rattle.pw_defs.specs.declared.design.Design.{Design}
use Rattle.pw_defs.specs.declared.intent.RootList.{RootList}
use Rattle.pw_defs.specs.declared.intent.Want.{Want}
use Rattle.pw_defs.specs.declared.terms.Term.TheOpen.{Term-F}
use Rattle.pw_defs.specs.declared.terms.Term.TheFolds.{fold-Term}
use Rattle.pw_defs.specs.declared.values.Value.{Value}
use Rattle.pw_defs.specs.declared.values.Value.TheVariants.{Off}
use Rattle.list_defs.specs.Members.{same_name}
use Rattle.design_defs.specs.Names.{joined}
use Rattle.script_defs.specs.World.{SupplyKey, same_supply, SupplyState, Expression, PowerState, Row, Object, World}
use Rattle.script_defs.specs.LookUps.{whole_name}
use Rattle.script_defs.specs.Supplies.{entry_of, has_name}
use Rattle.script_defs.specs.StateSteps.{columns_in, rows_in, fed_inside, last_of}
use Rattle.script_defs.specs.PowerStateSteps.{states_of, state_named, states_at, stateful}
use Rattle.script_defs.specs.Numbers.{unit_paths, unit_number, number_in, supply_number, function_number, switches, named_inputs, output_port, key_of_port, port_keys}

abbrev pub in_unit : ℕ → Cond → UnitCond
in_unit unit cond = record { unit = unit; cond = cond }

-- STATED VALUES. Whether two states are stated on one supply by lines of one unit.
abbrev pub same_statement : Design → World → SupplyState → SupplyState → Bool
same_statement d w a b = same_supply a.supply b.supply && unit_number d w a.origin.home == unit_number d w b.origin.home

-- the first of each kind, in order
abbrev pub firsts_of : {X : Type 0} → (X → X → Bool) → List X → List X → List X
firsts_of same earlier [] = []
firsts_of same earlier (x ∷ xs) = if list_any (same x) earlier then firsts_of same earlier xs else x ∷ firsts_of same (x ∷ earlier) xs

-- a supply has one of the values that lines of a unit state on it
abbrev pub stated_cond : Design → World → SupplyState → UnitCond
stated_cond d w st =
    in_unit (unit_number d w st.origin.home) (Any (map (λ x. Is (supply_number d w st.supply) x.value) (filter (same_statement d w st) w.stated)))

abbrev pub stated_conds : Design → World → List UnitCond
stated_conds d w = map (stated_cond d w) (firsts_of (same_statement d w) [] w.stated)

-- TABLES. Each column of a row other than `*` has its value.
abbrev pub cell_conds : Design → World → SupplyKey × Option Value → List Cond
cell_conds d w cell = map (Is (supply_number d w cell.0)) (option_to_list cell.1)

abbrev pub row_cond : Design → World → List SupplyKey → Row → Cond
row_cond d w columns row = All (flat_map (cell_conds d w) (zip columns row.cells))

-- a table with rows: one of the rows holds
abbrev pub table_conds_of : Design → World → Object → List Row → List UnitCond
table_conds_of d w o [] = []
table_conds_of d w o (row ∷ rows) = in_unit (unit_number d w o.origin.home) (Any (map (row_cond d w (columns_in (Some o.body))) (row ∷ rows))) ∷ []

abbrev pub table_conds : Design → World → List UnitCond
table_conds d w = flat_map (λ o. table_conds_of d w o (rows_in (Some o.body))) w.objects

-- STATES OF OBJECTS. One level of an expression as a condition: a state that it names stands for its own expressions, and
-- a function of a set for its supply.
abbrev pub cond_at : Design → World → (List ℕ × List ℕ → Cond) → List ℕ → List ℕ → Term-F Cond → Cond
cond_at d w named object scope (Term-F.Is left state) = named (stateful w (joined scope left), state)
cond_at d w named object scope (Term-F.Volt power value) = Is (unwrap_or (function_number d w object power) 0) value
cond_at d w named object scope (Term-F.On power) = On (unwrap_or (function_number d w object power) 0)
cond_at d w named object scope (Term-F.Not part) = Not part
cond_at d w named object scope (Term-F.All parts) = All parts
cond_at d w named object scope (Term-F.Any parts) = Any parts

unfoldable pub expression_cond : Design → World → (List ℕ × List ℕ → Cond) → List ℕ → Expression → Cond
expression_cond d w named object e = fold-Term Cond (cond_at d w named object e.scope) e.term

-- a state holds where all of its expressions hold, in order of lines; states nest at most n deep
abbrev pub state_cond : Design → World → ℕ → List ℕ × List ℕ → Cond
state_cond d w zero p = True
state_cond d w (suc n) p =
    All (map (expression_cond d w (state_cond d w n) p.0) (unwrap_or (option_map (λ st. st.expressions) (state_named (states_at w p.0) p.1)) []))

abbrev pub cond_of_state : Design → World → Object → PowerState → Cond
cond_of_state d w o st = state_cond d w 100 (whole_name o, st.name)

abbrev pub is_illegal : PowerState → Bool
is_illegal st = is_some st.illegal

-- a complete object: one of its states that aren't illegal holds
abbrev pub complete_conds_of : Design → World → Object → List UnitCond
complete_conds_of d w o =
    map (λ _. in_unit (unit_number d w o.origin.home) (Any (map (cond_of_state d w o) (filter (λ st. not (is_illegal st)) (states_of (Some o.body)).states))))
    (option_to_list (states_of (Some o.body)).complete)

-- an illegal state doesn't hold
abbrev pub illegal_conds_of : Design → World → Object → List UnitCond
illegal_conds_of d w o =
    map (λ st. in_unit (unit_number d w o.origin.home) (Not (cond_of_state d w o st))) (filter is_illegal (states_of (Some o.body)).states)

abbrev pub complete_conds : Design → World → List UnitCond
complete_conds d w = flat_map (complete_conds_of d w) w.objects

abbrev pub illegal_conds : Design → World → List UnitCond
illegal_conds d w = flat_map (illegal_conds_of d w) w.objects

-- SWITCHES. The values of a root in the whole job: the list of the outermost unit that has one stands first.
abbrev pub job_values : List RootList → ℕ → List Value
job_values lists root = unwrap_or (option_map (λ l. l.values) (find (λ l. l.root == root) lists)) []

-- the output and an input have the same value
abbrev pub both_have : ℕ → ℕ → Value → Cond
both_have output input v = All (Is output v ∷ Is input v ∷ [])

-- a switch output is off, or has the value of an input that an on state names
abbrev pub switch_cond_of : Design → World → List RootList → Object → ℕ → UnitCond
switch_cond_of d w lists o output =
    in_unit (unit_number d w o.origin.home)
    (Any (Is output Off ∷ flat_map (λ port. map (both_have output (supply_number d w (key_of_port o port))) (job_values lists output)) (named_inputs
    (Some o.body))))

abbrev pub switch_conds : Design → World → List RootList → List UnitCond
switch_conds d w lists = map (λ o. switch_cond_of d w lists o (supply_number d w (key_of_port o (output_port (Some o.body))))) (switches w)

-- SOFT MACROS. The values of a supply in a unit: those of its root as seen there.
abbrev pub values_inside : Design → World → List RootList → List ℕ → SupplyKey → List Value
values_inside d w lists path key =
    flat_map
    (λ root. unwrap_or (option_map (λ l. l.values) (find (λ l. l.unit == number_in (unit_paths d w) path && l.root == supply_number d w root) lists)) [])
    (option_to_list (last_of (fed_inside d w path (length w.links) (Some key))))

abbrev pub is_port_key : Design → World → SupplyKey → Bool
is_port_key d w key = list_any has_name (option_to_list (entry_of d w key))

-- a supply port of a soft macro has a value of its list in the macro
abbrev pub port_conds_of : Design → World → List RootList → List ℕ → List UnitCond
port_conds_of d w lists path =
    map (λ key. in_unit (number_in (unit_paths d w) path) (Any (map (Is (supply_number d w key)) (values_inside d w lists path key)))) (filter
    (is_port_key d w) (port_keys d w path))

-- the soft macros of a job: where the model of the top is wanted the top is one
abbrev pub macro_paths : Design → World → Want → List (List ℕ)
macro_paths d w Want.Macro = unit_paths d w
macro_paths d w Want.Check = filter (λ path. not (same_name path [])) (unit_paths d w)

abbrev pub port_conds : Design → World → Want → List RootList → List UnitCond
port_conds d w want lists = flat_map (port_conds_of d w lists) (macro_paths d w want)

-- The constraints in order.
abbrev pub constraints : Design → World → Want → List RootList → List UnitCond
constraints d w want lists =
    stated_conds d w ++ table_conds d w ++ complete_conds d w ++ illegal_conds d w ++ switch_conds d w lists ++ port_conds d w want lists
