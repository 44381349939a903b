-- Values of options that were read by hand.
use Rattle.std.proofs.Common.{[], ◌∷◌, codes, refl, inl, inr, lit≤, lit<}
use Rattle.pw_defs.specs.declared.values.Value.TheVariants.{Off, On}
use Rattle.tcl_words.proofs.ListLaws.{parts_so}
use Rattle.text_defs.specs.Volts.{IsVolts}
use Rattle.upf_commands.specs.Forms.{pairs, IsMisformed}
use Rattle.upf_commands.specs.Values.{ArePairs, IsOnState, IsSupplyState, IsPowerState, IsHandle, primary, legal, supply_expr}
use Rattle.upf_commands.specs.Voltages.{IsVoltage, one, two, off, on}

eight_tenths : IsVolts (codes "0.8") 800000
eight_tenths = record { digits = (lit< tt, (lit< tt, (lit< tt, tt))); decimals = lit≤ tt; value = refl; limit = lit≤ tt }

seven_tenths : IsVolts (codes "0.7") 700000
seven_tenths = record { digits = (lit< tt, (lit< tt, (lit< tt, tt))); decimals = lit≤ tt; value = refl; limit = lit≤ tt }

-- a state at a voltage, and one that is off
pub state_on : IsSupplyState (codes "on 0.8") (codes "on") (On 800000)
state_on =
    record { voltage = codes "0.8" ∷ []; parted = parts_so (codes "on 0.8") (codes "on" ∷ codes "0.8" ∷ []) refl; simple = refl; meant = on _ 800000 (one (codes "0.8") 800000 eight_tenths) }

pub state_off : IsSupplyState (codes "off off") (codes "off") Off
state_off = record { voltage = codes "off" ∷ []; parted = parts_so (codes "off off") (codes "off" ∷ codes "off" ∷ []) refl; simple = refl; meant = off }

-- of two voltages the value is the middle
pub middle : IsVoltage (codes "0.7" ∷ codes "0.8" ∷ []) 750000
middle = two (codes "0.7") (codes "0.8") 700000 800000 seven_tenths eight_tenths (lit≤ tt)

-- an on state of a switch, whose condition isn't read
pub switch_on : IsOnState (codes "run i {c}") (codes "run") (codes "i")
switch_on =
    record { condition = codes "c"; parted = parts_so (codes "run i {c}") (codes "run" ∷ codes "i" ∷ codes "c" ∷ []) refl; simple_state = refl; simple_port = refl }

-- a power state with an expression and a mark
pub state_with_options : IsPowerState (codes "up -supply_expr {power == OFF} -legal") (codes "up") (supply_expr (codes "power == OFF") ∷ legal ∷ [])
state_with_options =
    record {
      words = codes "-supply_expr" ∷ codes "power == OFF" ∷ codes "-legal" ∷ [];
      parted = parts_so (codes "up -supply_expr {power == OFF} -legal") (codes "up" ∷ codes "-supply_expr" ∷ codes "power == OFF" ∷ codes "-legal" ∷ []) refl;
      simple = refl;
      spelled = record { spelled = refl; once = refl };
    }

-- a list of pairs
pub two_pairs : ArePairs (codes "{u/i a} {u/j b}") ((codes "u/i", codes "a") ∷ (codes "u/j", codes "b") ∷ [])
two_pairs =
    record {
      items = codes "u/i a" ∷ codes "u/j b" ∷ [];
      parted = parts_so (codes "{u/i a} {u/j b}") (codes "u/i a" ∷ codes "u/j b" ∷ []) refl;
      each = (parts_so (codes "u/i a") (codes "u/i" ∷ codes "a" ∷ []) refl, (parts_so (codes "u/j b") (codes "u/j" ∷ codes "b" ∷ []) refl, tt));
    }

-- a pair of another form goes before one that can't be parted
pub pair_of_three : IsMisformed pairs (codes "{{a}b} {c d e}")
pair_of_three = (
  codes "{a}b" ∷ codes "c d e" ∷ [],
  codes "c d e",
  codes "c" ∷ codes "d" ∷ codes "e" ∷ [],
  parts_so (codes "{{a}b} {c d e}") (codes "{a}b" ∷ codes "c d e" ∷ []) refl,
  inr (inl refl),
  parts_so (codes "c d e") (codes "c" ∷ codes "d" ∷ codes "e" ∷ []) refl,
  λ pair. cc pair.2,
)

-- a handle of a domain
pub primary_of_domain : IsHandle (codes "u/PD.primary") (codes "u/PD") primary
primary_of_domain = record { named = λ e. cc; spelled = refl }
