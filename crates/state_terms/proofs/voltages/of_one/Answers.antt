use Rattle.state_terms.proofs.VoltageWords.{one_told}
use Rattle.state_terms.proofs.voltages.of_one.Goals as goal

pub returns : goal.returns
returns c = one_told c.args.word.now c.volts.result c.volts.ensures
