use Rattle.std.proofs.Common.{refl}
use Rattle.design_defs.proofs.Walking.{one_walk}
use Rattle.chains.proofs.walking.one_walk.Goals as goal

pub returns : goal.returns
returns c = λ bits n p q e f walk other. one_walk bits n n p q e f refl walk other
