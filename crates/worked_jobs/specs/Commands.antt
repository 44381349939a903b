-- The scripts as commands with their options.
use Rattle.std.specs.Prelude.{List, [], ◌∷◌, false, codes}
use Rattle.pw_defs.specs.declared.script.Command.{Command}

-- the commands of the intent of the two blocks
abbrev pub pair_commands : List Command
pair_commands =
    record { name = codes "create_supply_net"; args = codes "VA" ∷ []; options = record { given = [] }; line = 1; passed = false }
    ∷ record { name = codes "create_supply_net"; args = codes "VB" ∷ []; options = record { given = [] }; line = 2; passed = false }
    ∷ record { name = codes "create_supply_net"; args = codes "VSS" ∷ []; options = record { given = [] }; line = 3; passed = false }
    ∷ record { name = codes "add_supply_state"; args = codes "VA" ∷ []; options = record { given = record { option = codes "-state"; value = codes "off off"; line = 4 } ∷ record { option = codes "-state"; value = codes "on 0.8"; line = 4 } ∷ [] }; line = 4; passed = false }
    ∷ record { name = codes "add_supply_state"; args = codes "VB" ∷ []; options = record { given = record { option = codes "-state"; value = codes "on 0.8"; line = 5 } ∷ [] }; line = 5; passed = false }
    ∷ record { name = codes "add_supply_state"; args = codes "VSS" ∷ []; options = record { given = record { option = codes "-state"; value = codes "gnd 0"; line = 6 } ∷ [] }; line = 6; passed = false }
    ∷ record { name = codes "create_supply_set"; args = codes "SA" ∷ []; options = record { given = record { option = codes "-function"; value = codes "power VA"; line = 7 } ∷ record { option = codes "-function"; value = codes "ground VSS"; line = 7 } ∷ [] }; line = 7; passed = false }
    ∷ record { name = codes "create_supply_set"; args = codes "SB" ∷ []; options = record { given = record { option = codes "-function"; value = codes "power VB"; line = 8 } ∷ record { option = codes "-function"; value = codes "ground VSS"; line = 8 } ∷ [] }; line = 8; passed = false }
    ∷ record { name = codes "create_power_domain"; args = codes "PT" ∷ []; options = record { given = record { option = codes "-elements"; value = codes "."; line = 9 } ∷ record { option = codes "-supply"; value = codes "primary SB"; line = 9 } ∷ [] }; line = 9; passed = false }
    ∷ record { name = codes "create_power_domain"; args = codes "PA" ∷ []; options = record { given = record { option = codes "-elements"; value = codes "u_a"; line = 10 } ∷ record { option = codes "-supply"; value = codes "primary SA"; line = 10 } ∷ [] }; line = 10; passed = false }
    ∷ record { name = codes "create_power_domain"; args = codes "PB" ∷ []; options = record { given = record { option = codes "-elements"; value = codes "u_b"; line = 11 } ∷ record { option = codes "-supply"; value = codes "primary SB"; line = 11 } ∷ [] }; line = 11; passed = false }
    ∷ []

-- the commands of its intent
abbrev pub bits_commands : List Command
bits_commands =
    record { name = codes "create_supply_net"; args = codes "VB" ∷ []; options = record { given = [] }; line = 1; passed = false }
    ∷ record { name = codes "add_supply_state"; args = codes "VB" ∷ []; options = record { given = record { option = codes "-state"; value = codes "on 0.8"; line = 2 } ∷ [] }; line = 2; passed = false }
    ∷ record { name = codes "create_supply_set"; args = codes "SB" ∷ []; options = record { given = record { option = codes "-function"; value = codes "power VB"; line = 3 } ∷ [] }; line = 3; passed = false }
    ∷ record { name = codes "create_power_domain"; args = codes "PT" ∷ []; options = record { given = record { option = codes "-elements"; value = codes "."; line = 4 } ∷ record { option = codes "-supply"; value = codes "primary SB"; line = 4 } ∷ [] }; line = 4; passed = false }
    ∷ record { name = codes "create_power_domain"; args = codes "PB" ∷ []; options = record { given = record { option = codes "-elements"; value = codes "u_b"; line = 5 } ∷ record { option = codes "-supply"; value = codes "primary SB"; line = 5 } ∷ [] }; line = 5; passed = false }
    ∷ record { name = codes "set_isolation"; args = codes "I2" ∷ []; options = record { given = record { option = codes "-domain"; value = codes "PB"; line = 6 } ∷ record { option = codes "-elements"; value = codes "u_b/a[0]"; line = 6 } ∷ record { option = codes "-no_isolation"; value = codes "TRUE"; line = 6 } ∷ [] }; line = 6; passed = false }
    ∷ record { name = codes "set_isolation"; args = codes "I1" ∷ []; options = record { given = record { option = codes "-domain"; value = codes "PB"; line = 7 } ∷ record { option = codes "-elements"; value = codes "u_b/a"; line = 7 } ∷ record { option = codes "-isolation_supply"; value = codes "SB"; line = 7 } ∷ record { option = codes "-force_isolation"; value = codes "TRUE"; line = 7 } ∷ [] }; line = 7; passed = false }
    ∷ record { name = codes "set_isolation"; args = codes "I0" ∷ []; options = record { given = record { option = codes "-domain"; value = codes "PB"; line = 8 } ∷ record { option = codes "-isolation_supply"; value = codes "SB"; line = 8 } ∷ [] }; line = 8; passed = false }
    ∷ []

-- the commands of the intent of the macro
abbrev pub macro_commands : List Command
macro_commands =
    record { name = codes "set_design_attributes"; args = []; options = record { given = record { option = codes "-elements"; value = codes "."; line = 1 } ∷ record { option = codes "-is_soft_macro"; value = codes "TRUE"; line = 1 } ∷ [] }; line = 1; passed = false }
    ∷ record { name = codes "create_supply_port"; args = codes "VA" ∷ []; options = record { given = [] }; line = 2; passed = false }
    ∷ record { name = codes "create_supply_port"; args = codes "VB" ∷ []; options = record { given = [] }; line = 3; passed = false }
    ∷ record { name = codes "add_port_state"; args = codes "VA" ∷ []; options = record { given = record { option = codes "-state"; value = codes "off off"; line = 4 } ∷ record { option = codes "-state"; value = codes "on 0.8"; line = 4 } ∷ [] }; line = 4; passed = false }
    ∷ record { name = codes "add_port_state"; args = codes "VB" ∷ []; options = record { given = record { option = codes "-state"; value = codes "on 0.8"; line = 5 } ∷ [] }; line = 5; passed = false }
    ∷ record { name = codes "create_supply_set"; args = codes "SA" ∷ []; options = record { given = record { option = codes "-function"; value = codes "power VA"; line = 6 } ∷ [] }; line = 6; passed = false }
    ∷ record { name = codes "create_supply_set"; args = codes "SB" ∷ []; options = record { given = record { option = codes "-function"; value = codes "power VB"; line = 7 } ∷ [] }; line = 7; passed = false }
    ∷ record { name = codes "create_power_domain"; args = codes "PT" ∷ []; options = record { given = record { option = codes "-elements"; value = codes "."; line = 8 } ∷ record { option = codes "-supply"; value = codes "primary SB"; line = 8 } ∷ [] }; line = 8; passed = false }
    ∷ record { name = codes "create_power_domain"; args = codes "PA" ∷ []; options = record { given = record { option = codes "-elements"; value = codes "u_a"; line = 9 } ∷ record { option = codes "-supply"; value = codes "primary SA"; line = 9 } ∷ [] }; line = 9; passed = false }
    ∷ record { name = codes "create_power_domain"; args = codes "PB" ∷ []; options = record { given = record { option = codes "-elements"; value = codes "u_b"; line = 10 } ∷ record { option = codes "-supply"; value = codes "primary SB"; line = 10 } ∷ [] }; line = 10; passed = false }
    ∷ []

-- the commands of the intent of the chip
abbrev pub chip_commands : List Command
chip_commands =
    record { name = codes "create_supply_net"; args = codes "V1" ∷ []; options = record { given = [] }; line = 1; passed = false }
    ∷ record { name = codes "create_supply_net"; args = codes "V2" ∷ []; options = record { given = [] }; line = 2; passed = false }
    ∷ record { name = codes "add_supply_state"; args = codes "V1" ∷ []; options = record { given = record { option = codes "-state"; value = codes "off off"; line = 3 } ∷ record { option = codes "-state"; value = codes "on 0.8"; line = 3 } ∷ [] }; line = 3; passed = false }
    ∷ record { name = codes "add_supply_state"; args = codes "V2" ∷ []; options = record { given = record { option = codes "-state"; value = codes "on 0.8"; line = 4 } ∷ [] }; line = 4; passed = false }
    ∷ record { name = codes "create_supply_set"; args = codes "S2" ∷ []; options = record { given = record { option = codes "-function"; value = codes "power V2"; line = 5 } ∷ [] }; line = 5; passed = false }
    ∷ record { name = codes "create_power_domain"; args = codes "PC" ∷ []; options = record { given = record { option = codes "-elements"; value = codes "."; line = 6 } ∷ record { option = codes "-supply"; value = codes "primary S2"; line = 6 } ∷ [] }; line = 6; passed = false }
    ∷ record { name = codes "load_upf"; args = codes "mac.upf" ∷ []; options = record { given = record { option = codes "-scope"; value = codes "m"; line = 7 } ∷ [] }; line = 7; passed = false }
    ∷ record { name = codes "connect_supply_net"; args = codes "V1" ∷ []; options = record { given = record { option = codes "-ports"; value = codes "m/VA"; line = 8 } ∷ [] }; line = 8; passed = false }
    ∷ record { name = codes "connect_supply_net"; args = codes "V2" ∷ []; options = record { given = record { option = codes "-ports"; value = codes "m/VB"; line = 9 } ∷ [] }; line = 9; passed = false }
    ∷ []

-- the commands of the intent of the two blocks with a power switch in front of the first
abbrev pub switched_commands : List Command
switched_commands =
    record { name = codes "create_supply_net"; args = codes "VA" ∷ []; options = record { given = [] }; line = 1; passed = false }
    ∷ record { name = codes "create_supply_net"; args = codes "VB" ∷ []; options = record { given = [] }; line = 2; passed = false }
    ∷ record { name = codes "create_supply_net"; args = codes "VSS" ∷ []; options = record { given = [] }; line = 3; passed = false }
    ∷ record { name = codes "add_supply_state"; args = codes "VB" ∷ []; options = record { given = record { option = codes "-state"; value = codes "on 0.8"; line = 4 } ∷ [] }; line = 4; passed = false }
    ∷ record { name = codes "add_supply_state"; args = codes "VSS" ∷ []; options = record { given = record { option = codes "-state"; value = codes "gnd 0"; line = 5 } ∷ [] }; line = 5; passed = false }
    ∷ record { name = codes "create_power_switch"; args = codes "SW" ∷ []; options = record { given = record { option = codes "-output_supply_port"; value = codes "o VA"; line = 6 } ∷ record { option = codes "-input_supply_port"; value = codes "i VB"; line = 6 } ∷ record { option = codes "-on_state"; value = codes "run i {c}"; line = 6 } ∷ [] }; line = 6; passed = false }
    ∷ record { name = codes "create_supply_set"; args = codes "SA" ∷ []; options = record { given = record { option = codes "-function"; value = codes "power VA"; line = 7 } ∷ record { option = codes "-function"; value = codes "ground VSS"; line = 7 } ∷ [] }; line = 7; passed = false }
    ∷ record { name = codes "create_supply_set"; args = codes "SB" ∷ []; options = record { given = record { option = codes "-function"; value = codes "power VB"; line = 8 } ∷ record { option = codes "-function"; value = codes "ground VSS"; line = 8 } ∷ [] }; line = 8; passed = false }
    ∷ record { name = codes "create_power_domain"; args = codes "PT" ∷ []; options = record { given = record { option = codes "-elements"; value = codes "."; line = 9 } ∷ record { option = codes "-supply"; value = codes "primary SB"; line = 9 } ∷ [] }; line = 9; passed = false }
    ∷ record { name = codes "create_power_domain"; args = codes "PA" ∷ []; options = record { given = record { option = codes "-elements"; value = codes "u_a"; line = 10 } ∷ record { option = codes "-supply"; value = codes "primary SA"; line = 10 } ∷ [] }; line = 10; passed = false }
    ∷ record { name = codes "create_power_domain"; args = codes "PB" ∷ []; options = record { given = record { option = codes "-elements"; value = codes "u_b"; line = 11 } ∷ record { option = codes "-supply"; value = codes "primary SB"; line = 11 } ∷ [] }; line = 11; passed = false }
    ∷ []
