use Rattle.design_paths.proofs.HereLemmas.{bit_here, path_there}
use Rattle.design_paths.proofs.resolving.own_bit.Goals as goal

pub returns-in-Some : goal.returns-in-Some
returns-in-Some c =
    let path = path_there c.args.design.now c.args.inst c.requires in
    bit_here c.args.design.now c.args.inst path.0 path.1 c.args.name.now c.in-Some.bit c.in-Some.ensures
