-- A value that has its form says what that form says.
use Rattle.std.proofs.Common.{ℕ, List, subst}
use Rattle.list_defs.specs.Members.{IsIn}
use Rattle.pw_defs.specs.declared.values.Value.{Value}
use Rattle.tcl_words.specs.ListWords.{PartsInto}
use Rattle.upf_commands.specs.Forms.{HasForm, list, keyed, pair, switch_port, on_state, supply_state, power_state}
use Rattle.upf_commands.specs.Values.{IsPair, IsSwitchPort, IsOnState, IsSupplyState, IsPowerState, StateOption}

pub pair_said : (value : List ℕ) → HasForm (list pair) value → (first : List ℕ) × (second : List ℕ) × IsPair value first second
pair_said value h = (h.2.0, h.2.1, subst (PartsInto value) h.2.2 h.1)

pub key_said : (keys : List (List ℕ)) (value : List ℕ) → HasForm (list (keyed keys)) value → (key : List ℕ) × (text : List ℕ) × IsPair value key text × IsIn key keys
key_said keys value h = (h.2.0, h.2.1, subst (PartsInto value) h.2.2 h.1, h.2.3)

pub switch_port_said : (value : List ℕ) → HasForm (list switch_port) value → (port : List ℕ) × (net : List ℕ) × IsSwitchPort value port net
switch_port_said value h = (h.2.0, h.2.1, record { parted = subst (PartsInto value) h.2.2 h.1; simple = h.2.3 })

pub on_state_said : (value : List ℕ) → HasForm (list on_state) value → (state : List ℕ) × (port : List ℕ) × IsOnState value state port
on_state_said value h =
    (h.2.0, h.2.1, record { condition = h.2.2; parted = subst (PartsInto value) h.2.3 h.1; simple_state = h.2.4; simple_port = h.2.5 })

pub supply_state_said : (value : List ℕ) → HasForm (list supply_state) value → (state : List ℕ) × (v : Value) × IsSupplyState value state v
supply_state_said value h =
    (h.2.0, h.2.2, record { voltage = h.2.1; parted = subst (PartsInto value) h.2.3 h.1; simple = h.2.4; meant = h.2.5 })

pub power_state_said : (value : List ℕ) → HasForm (list power_state) value → (state : List ℕ) × (options : List StateOption) × IsPowerState value state options
power_state_said value h =
    (h.2.0, h.2.2, record { words = h.2.1; parted = subst (PartsInto value) h.2.3 h.1; simple = h.2.4; spelled = h.2.5 })
