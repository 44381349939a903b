use Rattle.design_paths.proofs.HereLemmas.{bit_from, no_bracket}
use Rattle.design_paths.proofs.bits.bit_behind.Goals as goal

pub returns-in-Some : goal.returns-in-Some
returns-in-Some c = bit_from c.args.design.now c.args.inst c.args.at c.args.name.now c.in-Some.vector.now c.in-Some.ensures c.bit_of.result c.bit_of.ensures

pub returns-in-None : goal.returns-in-None
returns-in-None c = no_bracket c.args.design.now c.args.inst c.args.at c.args.name.now c.in-None.ensures
