use Rattle.design_paths.proofs.HereLemmas.{bit_is, no_place}
use Rattle.design_paths.proofs.bits.bit_in_range.Goals as goal

pub returns-in-Some : goal.returns-in-Some
returns-in-Some c =
    bit_is c.args.design.now c.args.inst c.args.vector.now c.args.port c.requires.first c.args.name.now c.args.range c.in-Some.place c.requires.ranged c.in-Some.ensures.place.0 c.in-Some.ensures.place.1

pub returns-in-None : goal.returns-in-None
returns-in-None c =
    no_place c.args.design.now c.args.inst c.args.vector.now c.args.port c.requires.first c.sound.ensures.own_names c.requires.within c.args.name.now c.args.range c.place_of_bit.result c.in-None.is c.requires.ranged c.place_of_bit.ensures.each
