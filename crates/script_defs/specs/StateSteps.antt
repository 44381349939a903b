-- What the lines on states of supplies and on tables make, and how a table looks up the name of a state.
use Rattle.std.specs.Prelude.{ℕ, zero, suc, Bool, ◌&&◌, List, [], ◌∷◌, ◌++◌, Option, None, Some, option_map, option_and_then, unwrap_or, option_to_list, map, length, codes, if◌then◌else◌}
use Rattle.std.specs.List.{list_any, find, filter, filter_map, flat_map, zip}
use Rattle.pw_defs.specs.declared.design.Design.{Design}
use Rattle.pw_defs.specs.declared.values.Value.{Value}
use Rattle.list_defs.specs.Members.{same_name}
use Rattle.design_defs.specs.Names.{joined}
use Rattle.design_defs.specs.Ports.{is_input, is_output}
use Rattle.script_defs.specs.Statements.{Clause, Statement, clauses_of, names_of, name_of, values_in, subject_of, first_of}
use Rattle.script_defs.specs.World.{Body, SupplyKey, same_supply, SupplyState, Row, Frame, World}
use Rattle.script_defs.specs.Scopes.{unit_of, is_soft_macro, above, is_one_of}
use Rattle.script_defs.specs.LookUps.{body_named}
use Rattle.script_defs.specs.Supplies.{entry_of, key_at, port_dir, feeder_of, column_at}
use Rattle.script_defs.specs.Uses.{origin_of}
use Rattle.script_defs.specs.SupplySteps.{with_object, with_body, object_of, target_of}

-- the unit of the lines of a frame, by the marks run so far
abbrev pub unit_now : Design → World → Frame → List ℕ
unit_now d w f = unit_of d w.marks f.home

-- the states that a line states, in order
abbrev pub states_said : Statement → List (List ℕ × Value)
states_said s = flat_map (λ (c : Clause). values_in c.parts) (clauses_of (codes "-state") s.clauses)

abbrev pub stated_by : Frame → Statement → SupplyKey → List ℕ × Value → SupplyState
stated_by f s key p = record { supply = key; name = p.0; value = p.1; origin = origin_of f s }

-- the line states values on its supply
abbrev pub after_states : Design → World → Frame → Statement → World
after_states d w f s =
    record w { stated = w.stated ++ flat_map (λ key. map (stated_by f s key) (states_said s)) (option_to_list (key_at d w (target_of f s))) }

-- whether a state is one that lines of a unit state on a supply
abbrev pub is_state_of : Design → World → List ℕ → SupplyKey → SupplyState → Bool
is_state_of d w unit key st = same_supply key st.supply && same_name unit (unit_of d w.marks st.origin.home)

-- the names of the states that lines of a unit state on a supply
abbrev pub state_names : Design → World → List ℕ → SupplyKey → List (List ℕ)
state_names d w unit key = map (λ st. st.name) (filter (is_state_of d w unit key) w.stated)

-- the names that stand among earlier ones, or twice among themselves
abbrev pub names_again : List (List ℕ) → List (List ℕ) → List (List ℕ)
names_again earlier [] = []
names_again earlier (name ∷ names) = (if is_one_of name earlier then name ∷ [] else []) ++ names_again (name ∷ earlier) names

-- the table with its columns
abbrev pub after_table : Design → World → Frame → Statement → World
after_table d w f s =
    with_object w (object_of f s (Body.table (filter_map (λ word. column_at d w (joined f.scope word)) (names_of (codes "-supplies") s.clauses)) []))

-- whether a supply is an `in` port of an instance, seen from inside
abbrev pub is_in_port_of : Design → World → List ℕ → SupplyKey → Bool
is_in_port_of d w inst key = list_any (λ e. same_name inst e.scope && is_input (port_dir e)) (option_to_list (entry_of d w key))

-- a supply and those that feed it, over at most n feeders and no further than an `in` port of an instance
abbrev pub fed_inside : Design → World → List ℕ → ℕ → Option SupplyKey → List SupplyKey
fed_inside d w inst n None = []
fed_inside d w inst zero (Some key) = key ∷ []
fed_inside d w inst (suc n) (Some key) = key ∷ (if is_in_port_of d w inst key then [] else fed_inside d w inst n (feeder_of w.links key))

abbrev pub last_of : {X : Type 0} → List X → Option X
last_of [] = None
last_of (x ∷ []) = Some x
last_of (x ∷ y ∷ ys) = last_of (y ∷ ys)

-- the root of a supply as seen inside an instance, where that is an `in` port of the instance
abbrev pub in_port_behind : Design → World → List ℕ → SupplyKey → Option SupplyKey
in_port_behind d w inst key =
    first_of (filter (is_in_port_of d w inst) (option_to_list (last_of (fed_inside d w inst (length w.links) (Some key)))))

-- the soft macro further in than a unit whose `out` port a supply is
abbrev pub out_port_macro : Design → World → List ℕ → SupplyKey → Option (List ℕ)
out_port_macro d w unit key =
    option_and_then
    (λ e. if is_output (port_dir e) && is_soft_macro d w.marks e.scope && is_one_of unit (above d e.scope) then Some e.scope else None)
    (entry_of d w key)

-- Where the look-up of a state's name goes on behind a supply: at its feeder; at an `in` port of the unit's own
-- instance it ends; behind an `out` port of a soft macro further in it goes on at the `in` port of that macro that is
-- its root inside, if it is one.
abbrev pub looked_up_next : Design → World → List ℕ → SupplyKey → Option (List ℕ) → Option SupplyKey
looked_up_next d w unit key (Some macro) = in_port_behind d w macro key
looked_up_next d w unit key None = if is_in_port_of d w unit key then None else feeder_of w.links key

-- the supplies where the name of a state is looked up, one after the other, at most n behind the first
abbrev pub looked_up : Design → World → List ℕ → ℕ → Option SupplyKey → List SupplyKey
looked_up d w unit n None = []
looked_up d w unit zero (Some key) = key ∷ []
looked_up d w unit (suc n) (Some key) = key ∷ looked_up d w unit n (looked_up_next d w unit key (out_port_macro d w unit key))

-- the value of a state that lines of a unit state on a supply
abbrev pub value_on : Design → World → List ℕ → List ℕ → SupplyKey → Option Value
value_on d w unit name key = option_map (λ st. st.value) (find (λ st. is_state_of d w unit key st && same_name name st.name) w.stated)

-- the value that a state's name stands for in a column: the first one found on the supply and upward
abbrev pub value_of_state : Design → World → List ℕ → SupplyKey → List ℕ → Option Value
value_of_state d w unit key name = first_of (filter_map (value_on d w unit name) (looked_up d w unit (length w.links) (Some key)))

abbrev pub is_star : List ℕ → Bool
is_star word = same_name word (codes "*")

-- the columns and the rows of a table
abbrev pub columns_in : Option Body → List SupplyKey
columns_in (Some (Body.table columns rows)) = columns
columns_in _ = []

abbrev pub rows_in : Option Body → List Row
rows_in (Some (Body.table columns rows)) = rows
rows_in _ = []

-- the table that a row is added to
abbrev pub table_of : World → Frame → Statement → Option Body
table_of w f s = option_and_then (λ word. body_named w (joined f.scope word)) (name_of (codes "-pst") s.clauses)

-- each column of the table with the word that the row has for it
abbrev pub row_words : World → Frame → Statement → List (SupplyKey × List ℕ)
row_words w f s = zip (columns_in (table_of w f s)) (names_of (codes "-state") s.clauses)

abbrev pub row_of : Design → World → Frame → Statement → Row
row_of d w f s =
    record {
      name = subject_of s;
      cells = map (λ (p : SupplyKey × List ℕ). if is_star p.1 then None else value_of_state d w (unit_now d w f) p.0 p.1)
          (row_words w f s);
    }

-- the table has one more row
abbrev pub after_row : Design → World → Frame → Statement → World
after_row d w f s =
    unwrap_or
    (option_map
    (λ word. with_body w (joined f.scope word) (Body.table (columns_in (table_of w f s)) (rows_in (table_of w f s) ++ row_of d w f s ∷ [])))
    (name_of (codes "-pst") s.clauses))
    w
