use Rattle.power_states.specs.Expressions.{IsSupplyValue}
use Rattle.state_terms.proofs.Comparisons.{volt_reads, volt_lacks}
use Rattle.state_terms.proofs.Passing.{none_read}
use Rattle.state_terms.proofs.values.voltage_value.Goals as goal

pub returns-in_err-volts : goal.returns-in_err-volts
returns-in_err-volts c =
    none_read (IsSupplyValue c.args.power) c.args.text.now c.from_residual.result c.from_residual.ensures
    (volt_lacks c.args.power c.args.text.now c.requires c.in_err-volts.ensures)

pub returns : goal.returns
returns c = volt_reads c.args.power c.args.text.now c.in_ok-volts.left.now c.in_ok-volts.volts c.requires c.in_ok-volts.ensures
