-- Voltages as they are written, on worked texts.
use Rattle.std.proofs.Common.{◌≤◌, codes, refl, arith}
use Rattle.pw_defs.specs.declared.faults.VoltFault.TheVariants.{Form, Range}
use Rattle.text_defs.specs.Volts.{IsVolts}
use Rattle.pw_lex.specs.VoltForms.{IsVoltFault}

-- 0.8 V, and half a volt without a digit before the point
pub eight_tenths : IsVolts (codes "0.8") 800000
eight_tenths = record { digits = (omega arith, (omega arith, (omega arith, tt))); decimals = omega arith; value = refl; limit = omega arith }

pub one_half : IsVolts (codes ".5") 500000
one_half = record { digits = (omega arith, (omega arith, tt)); decimals = omega arith; value = refl; limit = omega arith }

-- a microvolt above 1000 V
pub above : IsVoltFault (codes "1000.000001") Range
above = (record { digits = (omega arith, (omega arith, (omega arith, (omega arith, (omega arith, (omega arith, (omega arith, (omega arith, (omega arith, (omega arith, (omega arith, tt))))))))))); decimals = omega arith }, omega arith)

-- seven decimals
pub seven_decimals : IsVoltFault (codes "0.8000000") Form
seven_decimals form = let few : 7 ≤ 6 = form.decimals in omega arith
