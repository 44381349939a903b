use Rattle.std.proofs.Common.{sym, ◌∙◌}
use Rattle.design_paths.proofs.HereLemmas.{no_vector}
use Rattle.design_paths.proofs.bits.bit_of_port.Goals as goal

pub returns-in-None : goal.returns-in-None
returns-in-None c =
    no_vector c.args.design.now c.args.inst c.args.vector.now c.args.port c.requires.first c.sound.ensures.own_names c.requires.within c.args.name.now (sym c.range_of.ensures ∙ c.in-None.is)
