-- Faults of single lines behind the worked scripts.
use Rattle.std.proofs.Common.{◌≡◌, ℕ, true, List, [], ◌∷◌, map, Option, None, Some, slice_get, refl}
use Rattle.std.specs.Prelude.{codes}
use Rattle.std.specs.Fmt.{digits}
use Rattle.pw_defs.specs.declared.faults.Code.{Code}
use Rattle.pw_defs.specs.declared.terms.Term.TheVariants.{Is, Volt}
use Rattle.pw_defs.specs.declared.values.Value.TheVariants.{Off, On}
use Rattle.worked_jobs.specs.Designs.{pair, chip}
use Rattle.script_defs.specs.Statements.{Clause, Parts, Statement, StateOption}
use Rattle.script_defs.specs.World.{World}
use Rattle.script_defs.specs.LineFaults.{LineFault, line_faults}
use Rattle.script_defs.specs.Runs.{fresh}
use Rattle.script_defs.specs.PowerStateFaults.{unknown_states, state_contradictions}
use Rattle.script_defs.specs.PowerStateSteps.{named_states}
use Rattle.script_defs.specs.Uses.{joined_word}
use Rattle.script_defs.specs.Closing.{closed_uses}
use Rattle.script_defs.specs.Worked.{clause, statement, net_line, port_line, connect_line, isolation_line, supply_clause, flag_clause, state_clause}
use Rattle.script_defs.proofs.TermLemmas.{states_of_is}
use Rattle.script_defs.proofs.Behind.{base, pair_world, world_behind, chip_frame, chip_world}

abbrev fault : Code → List ℕ → LineFault
fault code name = record { code = code; name = name }

-- the first fault of a line behind others behind the script of the two blocks
abbrev fault_behind : List Statement → Statement → Option LineFault
fault_behind ss s = slice_get (line_faults pair base (world_behind pair base pair_world ss) s) 0

-- A net that two ports of the top would feed: the second port is refused, by the net's name.
pub second_feeder : fault_behind (port_line 12 (codes "p") ∷ port_line 13 (codes "q") ∷ []) (connect_line 14 (codes "VA") (codes "p" ∷ codes "q" ∷ [])
    (codes "p q")) ≡ Some (fault Code.U6 (codes "VA"))
second_feeder = refl

-- one port alone feeds it
pub one_feeder : fault_behind (port_line 12 (codes "p") ∷ []) (connect_line 13 (codes "VA") (codes "p" ∷ []) (codes "p")) ≡ None
one_feeder = refl

-- an unknown name goes before a name that is taken
pub unknown_first :
    fault_behind [] (statement 12 (codes "create_supply_set") (codes "SA" ∷ []) (clause (codes "-function") (codes "power VX") (Parts.pair (codes "power")
    (codes "VX")) ∷ []))
    ≡ Some (fault Code.U7 (codes "VX"))
unknown_first = refl

pub taken_name : fault_behind [] (net_line 12 (codes "SA")) ≡ Some (fault Code.U5 (codes "SA"))
taken_name = refl

-- an update that gives another isolation supply contradicts the line that gave the first
pub other_supply :
    fault_behind (isolation_line 12 (codes "IB") (supply_clause (codes "SB") ∷ []) ∷ []) (isolation_line 13 (codes "IB") (supply_clause (codes "SA")
    ∷ flag_clause (codes "-update") ∷ []))
    ≡ Some (fault Code.U13 (codes "-isolation_supply 12"))
unfolding digits
other_supply = refl

pub same_supply_again :
    fault_behind (isolation_line 12 (codes "IB") (supply_clause (codes "SB") ∷ []) ∷ []) (isolation_line 13 (codes "IB") (supply_clause (codes "SB")
    ∷ flag_clause (codes "-update") ∷ [])) ≡ None
same_supply_again = refl

-- the lines of a group with a state that names a state of the group
abbrev group_line : Statement
group_line = statement 1 (codes "create_power_state_group") (codes "G" ∷ []) []

abbrev naming_line : List ℕ → List Clause → Statement
naming_line state more = statement 2 (codes "add_power_state") (codes "G" ∷ []) (state_clause (codes "a") (StateOption.logic_expr (Some (Is
    (codes "G") state)) ∷ []) ∷ more)

abbrev group_world : World
group_world = world_behind pair base (fresh pair) (group_line ∷ [])

-- a state that its own expression names is there already, and closes a ring
pub own_state_is_there : unknown_states group_world base (naming_line (codes "a") []) ≡ []
own_state_is_there = simp states_of_is refl

-- a state that a later option of the line makes isn't there yet
pub later_state_is_not : unknown_states group_world base (naming_line (codes "b") (state_clause (codes "b") [] ∷ [])) ≡ codes "b" ∷ []
later_state_is_not = simp states_of_is refl

pub names_itself : named_states (world_behind pair base group_world (naming_line (codes "a") [] ∷ [])) (codes "G", codes "a") ≡ (codes "G", codes "a") ∷ []
names_itself = simp states_of_is refl

abbrev up_line : ℕ → List Clause → Statement
up_line n more = statement n (codes "add_power_state") (codes "SA" ∷ []) (state_clause (codes "up") (StateOption.supply_expr (Some (Volt true (On 800000)))
    ∷ []) ∷ more)

abbrev down_line : Statement
down_line = statement 13 (codes "add_power_state") (codes "SA" ∷ []) (state_clause (codes "down") (StateOption.supply_expr (Some (Volt true Off)) ∷ [])
    ∷ flag_clause (codes "-update") ∷ [])

-- a state more on an object contradicts the line that completed it, if there is one
pub state_on_complete :
    state_contradictions (world_behind pair base pair_world (up_line 12 (flag_clause (codes "-complete") ∷ []) ∷ [])) base down_line
    ≡ record { option = codes "-complete"; first_line = 12 } ∷ []
state_on_complete = refl

pub state_on_open : state_contradictions (world_behind pair base pair_world (up_line 12 [] ∷ [])) base down_line ≡ []
state_on_open = refl

abbrev table_line : Statement
table_line = statement 12 (codes "create_pst") (codes "P" ∷ []) (clause (codes "-supplies") (codes "VA VB") (Parts.names (codes "VA" ∷ codes "VB" ∷ [])) ∷ [])

abbrev row_line : List (List ℕ) → Statement
row_line words = statement 13 (codes "add_pst_state") (codes "run" ∷ []) (clause (codes "-pst") (codes "P") (Parts.word (codes "P")) ∷ clause
    (codes "-state") [] (Parts.names words) ∷ [])

-- a row has one word for each column, and each is a state of its supply
pub row_of_two : fault_behind (table_line ∷ []) (row_line (codes "on" ∷ codes "on" ∷ [])) ≡ None
row_of_two = refl

pub row_of_one : fault_behind (table_line ∷ []) (row_line (codes "on" ∷ [])) ≡ Some (fault Code.U9 (codes "P"))
row_of_one = refl

pub row_of_unknown : fault_behind (table_line ∷ []) (row_line (codes "on" ∷ codes "off" ∷ [])) ≡ Some (fault Code.U9 (codes "off"))
row_of_unknown = refl

-- A line of the chip that names an instance inside the macro has no fault when it runs; it is closed in the end.
abbrev reaching_line : Statement
reaching_line = statement 10 (codes "connect_supply_set") (codes "S2" ∷ []) (clause (codes "-elements") (codes "m/u_a/o") (Parts.names (codes "m/u_a/o"
    ∷ [])) ∷ [])

pub reaching_runs : line_faults chip chip_frame chip_world reaching_line ≡ []
reaching_runs = refl

pub reaching_is_closed : map joined_word (closed_uses chip (world_behind chip chip_frame chip_world (reaching_line ∷ []))) ≡ codes "m/u_a/o" ∷ []
reaching_is_closed = refl

-- the lines of the chip and its macro name nothing closed
pub chip_is_open : closed_uses chip chip_world ≡ []
chip_is_open = refl
