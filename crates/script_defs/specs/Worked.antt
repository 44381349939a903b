-- The worked scripts as statements, and readers that read them so.
use Rattle.std.specs.Prelude.{ℕ, true, false, List, [], ◌∷◌, codes}
use Rattle.pw_defs.specs.declared.script.Line.{Line}
use Rattle.pw_defs.specs.declared.values.Value.TheVariants.{Off, On}
use Rattle.list_defs.specs.Members.{IsIn}
use Rattle.script_defs.specs.Statements.{Clause, Parts, Statement, StateOption}
use Rattle.script_defs.specs.Refused.{Readers}

-- an option as a statement has it
abbrev pub clause : List ℕ → List ℕ → Parts → Clause
clause option bytes parts = record { option = option; bytes = bytes; parts = parts }

abbrev pub statement : ℕ → List ℕ → List (List ℕ) → List Clause → Statement
statement line name args clauses = record { name = name; args = args; clauses = clauses; line = line; passed = false }

-- a supply net, at a line
abbrev pub net_line : ℕ → List ℕ → Statement
net_line n name = statement n (codes "create_supply_net") (name ∷ []) []

-- a supply port, at a line
abbrev pub port_line : ℕ → List ℕ → Statement
port_line n name = statement n (codes "create_supply_port") (name ∷ []) []

-- a power and, if any, a ground
abbrev pub power_clause : List ℕ → List ℕ → Clause
power_clause bytes name = clause (codes "-function") bytes (Parts.pair (codes "power") name)

abbrev pub ground_clause : List ℕ → List ℕ → Clause
ground_clause bytes name = clause (codes "-function") bytes (Parts.pair (codes "ground") name)

abbrev pub off_state : Clause
off_state = clause (codes "-state") (codes "off off") (Parts.valued (codes "off") Off)

abbrev pub on_state : Clause
on_state = clause (codes "-state") (codes "on 0.8") (Parts.valued (codes "on") (On 800000))

-- a domain of one element, with its primary
abbrev pub domain_line : ℕ → List ℕ → List ℕ → List ℕ → List ℕ → Statement
domain_line n name element bytes set =
    statement n (codes "create_power_domain") (name ∷ [])
    (clause (codes "-elements") element (Parts.names (element ∷ [])) ∷ clause (codes "-supply") bytes (Parts.pair (codes "primary") set) ∷ [])

-- the statements of the intent of the two blocks
abbrev pub pair_statements : List Statement
pair_statements =
    net_line 1 (codes "VA") ∷ net_line 2 (codes "VB") ∷ net_line 3 (codes "VSS")
    ∷ statement 4 (codes "add_supply_state") (codes "VA" ∷ []) (off_state ∷ on_state ∷ [])
    ∷ statement 5 (codes "add_supply_state") (codes "VB" ∷ []) (on_state ∷ [])
    ∷ statement 6 (codes "add_supply_state") (codes "VSS" ∷ []) (clause (codes "-state") (codes "gnd 0") (Parts.valued (codes "gnd") (On 0)) ∷ [])
    ∷ statement 7 (codes "create_supply_set") (codes "SA" ∷ []) (power_clause (codes "power VA") (codes "VA") ∷ ground_clause (codes "ground VSS")
    (codes "VSS") ∷ [])
    ∷ statement 8 (codes "create_supply_set") (codes "SB" ∷ []) (power_clause (codes "power VB") (codes "VB") ∷ ground_clause (codes "ground VSS")
    (codes "VSS") ∷ [])
    ∷ domain_line 9 (codes "PT") (codes ".") (codes "primary SB") (codes "SB")
    ∷ domain_line 10 (codes "PA") (codes "u_a") (codes "primary SA") (codes "SA")
    ∷ domain_line 11 (codes "PB") (codes "u_b") (codes "primary SB") (codes "SB")
    ∷ []

-- the statements of the intent of the macro
abbrev pub macro_statements : List Statement
macro_statements =
    statement 1 (codes "set_design_attributes") [] (clause (codes "-elements") (codes ".") (Parts.names (codes "." ∷ [])) ∷ clause (codes "-is_soft_macro")
    (codes "TRUE") (Parts.truth true) ∷ [])
    ∷ port_line 2 (codes "VA") ∷ port_line 3 (codes "VB")
    ∷ statement 4 (codes "add_port_state") (codes "VA" ∷ []) (off_state ∷ on_state ∷ [])
    ∷ statement 5 (codes "add_port_state") (codes "VB" ∷ []) (on_state ∷ [])
    ∷ statement 6 (codes "create_supply_set") (codes "SA" ∷ []) (power_clause (codes "power VA") (codes "VA") ∷ [])
    ∷ statement 7 (codes "create_supply_set") (codes "SB" ∷ []) (power_clause (codes "power VB") (codes "VB") ∷ [])
    ∷ domain_line 8 (codes "PT") (codes ".") (codes "primary SB") (codes "SB")
    ∷ domain_line 9 (codes "PA") (codes "u_a") (codes "primary SA") (codes "SA")
    ∷ domain_line 10 (codes "PB") (codes "u_b") (codes "primary SB") (codes "SB")
    ∷ []

-- the statements of the intent of the chip up to the line that loads the macro's script, and those behind it
abbrev pub chip_statements : List Statement
chip_statements =
    net_line 1 (codes "V1") ∷ net_line 2 (codes "V2")
    ∷ statement 3 (codes "add_supply_state") (codes "V1" ∷ []) (off_state ∷ on_state ∷ [])
    ∷ statement 4 (codes "add_supply_state") (codes "V2" ∷ []) (on_state ∷ [])
    ∷ statement 5 (codes "create_supply_set") (codes "S2" ∷ []) (power_clause (codes "power V2") (codes "V2") ∷ [])
    ∷ domain_line 6 (codes "PC") (codes ".") (codes "primary S2") (codes "S2")
    ∷ statement 7 (codes "load_upf") (codes "mac.upf" ∷ []) (clause (codes "-scope") (codes "m") (Parts.word (codes "m")) ∷ [])
    ∷ []

abbrev pub connect_line : ℕ → List ℕ → List (List ℕ) → List ℕ → Statement
connect_line n net ports bytes = statement n (codes "connect_supply_net") (net ∷ []) (clause (codes "-ports") bytes (Parts.names ports) ∷ [])

abbrev pub chip_connections : List Statement
chip_connections = connect_line 8 (codes "V1") (codes "m/VA" ∷ []) (codes "m/VA") ∷ connect_line 9 (codes "V2") (codes "m/VB" ∷ []) (codes "m/VB") ∷ []

-- an isolation strategy of the domain PB
abbrev pub isolation_line : ℕ → List ℕ → List Clause → Statement
isolation_line n name clauses = statement n (codes "set_isolation") (name ∷ []) (clause (codes "-domain") (codes "PB") (Parts.word (codes "PB")) ∷ clauses)

abbrev pub supply_clause : List ℕ → Clause
supply_clause set = clause (codes "-isolation_supply") set (Parts.word set)

abbrev pub flag_clause : List ℕ → Clause
flag_clause option = clause option (codes "TRUE") Parts.flag

abbrev pub elements_clause : List ℕ → Clause
elements_clause element = clause (codes "-elements") element (Parts.names (element ∷ []))

-- the statements of the intent of the block whose port has two bits
abbrev pub bits_statements : List Statement
bits_statements =
    net_line 1 (codes "VB")
    ∷ statement 2 (codes "add_supply_state") (codes "VB" ∷ []) (on_state ∷ [])
    ∷ statement 3 (codes "create_supply_set") (codes "SB" ∷ []) (power_clause (codes "power VB") (codes "VB") ∷ [])
    ∷ domain_line 4 (codes "PT") (codes ".") (codes "primary SB") (codes "SB")
    ∷ domain_line 5 (codes "PB") (codes "u_b") (codes "primary SB") (codes "SB")
    ∷ isolation_line 6 (codes "I2") (elements_clause (codes "u_b/a[0]") ∷ flag_clause (codes "-no_isolation") ∷ [])
    ∷ isolation_line 7 (codes "I1") (elements_clause (codes "u_b/a") ∷ supply_clause (codes "SB") ∷ flag_clause (codes "-force_isolation") ∷ [])
    ∷ isolation_line 8 (codes "I0") (supply_clause (codes "SB") ∷ [])
    ∷ []

-- a state of an object, by an option of `add_power_state`
abbrev pub state_clause : List ℕ → List StateOption → Clause
state_clause name options = clause (codes "-state") [] (Parts.described name options)

-- readers that read these texts as these lines and these lines as these statements, and find no faults
abbrev pub reading : List (List ℕ × List Line) → List (Line × Statement) → Readers
reading texts statements = record {
  IsScript = λ text lines. IsIn (text, lines) texts;
  HasScriptFault = λ text fault. ⊥;
  IsStatement = λ line s. IsIn (line, s) statements;
  HasFormFault = λ line fault. ⊥;
}
