use Rattle.std.proofs.Common.{sym, ◌∙◌}
use Rattle.design_paths.proofs.HereLemmas.{port_absent}
use Rattle.design_paths.proofs.bits.bit_of.Goals as goal

pub returns-in-None : goal.returns-in-None
returns-in-None c = λ b is same. port_absent c.args.design.now c.args.inst c.args.vector.now (sym c.port_named.ensures ∙ c.in-None.is) b.port is.port is.is_port same
