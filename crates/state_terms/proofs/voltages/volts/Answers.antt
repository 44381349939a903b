use Rattle.state_terms.proofs.VoltageWords.{no_volts}
use Rattle.state_terms.proofs.voltages.volts.Goals as goal

pub returns-in-Err : goal.returns-in-Err
returns-in-Err c = no_volts c.args.word.now c.in-Err.field-0 c.in-Err.ensures.fault
