-- The scripts as lines of words.
use Rattle.std.specs.Prelude.{List, [], ◌∷◌, codes}
use Rattle.pw_defs.specs.declared.script.Line.{Line}

-- the lines of the intent of the two blocks
abbrev pub pair_lines : List Line
pair_lines =
    record { number = 1; words = codes "create_supply_net" ∷ codes "VA" ∷ [] }
    ∷ record { number = 2; words = codes "create_supply_net" ∷ codes "VB" ∷ [] }
    ∷ record { number = 3; words = codes "create_supply_net" ∷ codes "VSS" ∷ [] }
    ∷ record { number = 4; words = codes "add_supply_state" ∷ codes "VA" ∷ codes "-state" ∷ codes "off off" ∷ codes "-state" ∷ codes "on 0.8" ∷ [] }
    ∷ record { number = 5; words = codes "add_supply_state" ∷ codes "VB" ∷ codes "-state" ∷ codes "on 0.8" ∷ [] }
    ∷ record { number = 6; words = codes "add_supply_state" ∷ codes "VSS" ∷ codes "-state" ∷ codes "gnd 0" ∷ [] }
    ∷ record { number = 7; words = codes "create_supply_set" ∷ codes "SA" ∷ codes "-function" ∷ codes "power VA" ∷ codes "-function" ∷ codes "ground VSS" ∷ [] }
    ∷ record { number = 8; words = codes "create_supply_set" ∷ codes "SB" ∷ codes "-function" ∷ codes "power VB" ∷ codes "-function" ∷ codes "ground VSS" ∷ [] }
    ∷ record { number = 9; words = codes "create_power_domain" ∷ codes "PT" ∷ codes "-elements" ∷ codes "." ∷ codes "-supply" ∷ codes "primary SB" ∷ [] }
    ∷ record { number = 10; words = codes "create_power_domain" ∷ codes "PA" ∷ codes "-elements" ∷ codes "u_a" ∷ codes "-supply" ∷ codes "primary SA" ∷ [] }
    ∷ record { number = 11; words = codes "create_power_domain" ∷ codes "PB" ∷ codes "-elements" ∷ codes "u_b" ∷ codes "-supply" ∷ codes "primary SB" ∷ [] }
    ∷ []

-- the lines of its intent
abbrev pub bits_lines : List Line
bits_lines =
    record { number = 1; words = codes "create_supply_net" ∷ codes "VB" ∷ [] }
    ∷ record { number = 2; words = codes "add_supply_state" ∷ codes "VB" ∷ codes "-state" ∷ codes "on 0.8" ∷ [] }
    ∷ record { number = 3; words = codes "create_supply_set" ∷ codes "SB" ∷ codes "-function" ∷ codes "power VB" ∷ [] }
    ∷ record { number = 4; words = codes "create_power_domain" ∷ codes "PT" ∷ codes "-elements" ∷ codes "." ∷ codes "-supply" ∷ codes "primary SB" ∷ [] }
    ∷ record { number = 5; words = codes "create_power_domain" ∷ codes "PB" ∷ codes "-elements" ∷ codes "u_b" ∷ codes "-supply" ∷ codes "primary SB" ∷ [] }
    ∷ record { number = 6; words = codes "set_isolation" ∷ codes "I2" ∷ codes "-domain" ∷ codes "PB" ∷ codes "-elements" ∷ codes "u_b/a[0]" ∷ codes "-no_isolation" ∷ [] }
    ∷ record { number = 7; words = codes "set_isolation" ∷ codes "I1" ∷ codes "-domain" ∷ codes "PB" ∷ codes "-elements" ∷ codes "u_b/a" ∷ codes "-isolation_supply" ∷ codes "SB" ∷ codes "-force_isolation" ∷ [] }
    ∷ record { number = 8; words = codes "set_isolation" ∷ codes "I0" ∷ codes "-domain" ∷ codes "PB" ∷ codes "-isolation_supply" ∷ codes "SB" ∷ [] }
    ∷ []

-- the lines of the intent of the macro
abbrev pub macro_lines : List Line
macro_lines =
    record { number = 1; words = codes "set_design_attributes" ∷ codes "-elements" ∷ codes "." ∷ codes "-is_soft_macro" ∷ codes "TRUE" ∷ [] }
    ∷ record { number = 2; words = codes "create_supply_port" ∷ codes "VA" ∷ [] }
    ∷ record { number = 3; words = codes "create_supply_port" ∷ codes "VB" ∷ [] }
    ∷ record { number = 4; words = codes "add_port_state" ∷ codes "VA" ∷ codes "-state" ∷ codes "off off" ∷ codes "-state" ∷ codes "on 0.8" ∷ [] }
    ∷ record { number = 5; words = codes "add_port_state" ∷ codes "VB" ∷ codes "-state" ∷ codes "on 0.8" ∷ [] }
    ∷ record { number = 6; words = codes "create_supply_set" ∷ codes "SA" ∷ codes "-function" ∷ codes "power VA" ∷ [] }
    ∷ record { number = 7; words = codes "create_supply_set" ∷ codes "SB" ∷ codes "-function" ∷ codes "power VB" ∷ [] }
    ∷ record { number = 8; words = codes "create_power_domain" ∷ codes "PT" ∷ codes "-elements" ∷ codes "." ∷ codes "-supply" ∷ codes "primary SB" ∷ [] }
    ∷ record { number = 9; words = codes "create_power_domain" ∷ codes "PA" ∷ codes "-elements" ∷ codes "u_a" ∷ codes "-supply" ∷ codes "primary SA" ∷ [] }
    ∷ record { number = 10; words = codes "create_power_domain" ∷ codes "PB" ∷ codes "-elements" ∷ codes "u_b" ∷ codes "-supply" ∷ codes "primary SB" ∷ [] }
    ∷ []

-- the lines of the intent of the chip
abbrev pub chip_lines : List Line
chip_lines =
    record { number = 1; words = codes "create_supply_net" ∷ codes "V1" ∷ [] }
    ∷ record { number = 2; words = codes "create_supply_net" ∷ codes "V2" ∷ [] }
    ∷ record { number = 3; words = codes "add_supply_state" ∷ codes "V1" ∷ codes "-state" ∷ codes "off off" ∷ codes "-state" ∷ codes "on 0.8" ∷ [] }
    ∷ record { number = 4; words = codes "add_supply_state" ∷ codes "V2" ∷ codes "-state" ∷ codes "on 0.8" ∷ [] }
    ∷ record { number = 5; words = codes "create_supply_set" ∷ codes "S2" ∷ codes "-function" ∷ codes "power V2" ∷ [] }
    ∷ record { number = 6; words = codes "create_power_domain" ∷ codes "PC" ∷ codes "-elements" ∷ codes "." ∷ codes "-supply" ∷ codes "primary S2" ∷ [] }
    ∷ record { number = 7; words = codes "load_upf" ∷ codes "mac.upf" ∷ codes "-scope" ∷ codes "m" ∷ [] }
    ∷ record { number = 8; words = codes "connect_supply_net" ∷ codes "V1" ∷ codes "-ports" ∷ codes "m/VA" ∷ [] }
    ∷ record { number = 9; words = codes "connect_supply_net" ∷ codes "V2" ∷ codes "-ports" ∷ codes "m/VB" ∷ [] }
    ∷ []

-- the lines of the intent of the two blocks with a power switch in front of the first
abbrev pub switched_lines : List Line
switched_lines =
    record { number = 1; words = codes "create_supply_net" ∷ codes "VA" ∷ [] }
    ∷ record { number = 2; words = codes "create_supply_net" ∷ codes "VB" ∷ [] }
    ∷ record { number = 3; words = codes "create_supply_net" ∷ codes "VSS" ∷ [] }
    ∷ record { number = 4; words = codes "add_supply_state" ∷ codes "VB" ∷ codes "-state" ∷ codes "on 0.8" ∷ [] }
    ∷ record { number = 5; words = codes "add_supply_state" ∷ codes "VSS" ∷ codes "-state" ∷ codes "gnd 0" ∷ [] }
    ∷ record { number = 6; words = codes "create_power_switch" ∷ codes "SW" ∷ codes "-output_supply_port" ∷ codes "o VA" ∷ codes "-input_supply_port" ∷ codes "i VB" ∷ codes "-on_state" ∷ codes "run i {c}" ∷ [] }
    ∷ record { number = 7; words = codes "create_supply_set" ∷ codes "SA" ∷ codes "-function" ∷ codes "power VA" ∷ codes "-function" ∷ codes "ground VSS" ∷ [] }
    ∷ record { number = 8; words = codes "create_supply_set" ∷ codes "SB" ∷ codes "-function" ∷ codes "power VB" ∷ codes "-function" ∷ codes "ground VSS" ∷ [] }
    ∷ record { number = 9; words = codes "create_power_domain" ∷ codes "PT" ∷ codes "-elements" ∷ codes "." ∷ codes "-supply" ∷ codes "primary SB" ∷ [] }
    ∷ record { number = 10; words = codes "create_power_domain" ∷ codes "PA" ∷ codes "-elements" ∷ codes "u_a" ∷ codes "-supply" ∷ codes "primary SA" ∷ [] }
    ∷ record { number = 11; words = codes "create_power_domain" ∷ codes "PB" ∷ codes "-elements" ∷ codes "u_b" ∷ codes "-supply" ∷ codes "primary SB" ∷ [] }
    ∷ []
