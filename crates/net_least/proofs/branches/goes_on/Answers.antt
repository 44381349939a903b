use Rattle.std.proofs.lemmas.Slice.Eq.{strip_prefix_is}
use Rattle.std.proofs.lemmas.Bool.Decides.{Decides-eqb}
use Rattle.net_least.proofs.branches.goes_on.Goals as goal

pub returns-in-None : goal.returns-in-None
returns-in-None c on =
    let other = rw c.in-None.is at (strip_prefix_is Decides-eqb c.args.longer.now c.args.name.now c.strip_prefix.result c.strip_prefix.ensures.cases) in
    absurd (other _ on.1)
