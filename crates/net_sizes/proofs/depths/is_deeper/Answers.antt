use Rattle.std.proofs.Common.{◌<◌, subst, sym}
use Rattle.std.proofs.lemmas.Bool.{lt-ltb, ltb-true}
use Rattle.net_sizes.proofs.Deep.{deeper_of}
use Rattle.net_sizes.proofs.depths.is_deeper.Goals as goal

pub returns : goal.returns
returns c s named is =
    let both = deeper_of s c.args.top c.args.limit c.args.depths.now named is in (
      λ test. both.0 (subst (λ n. c.args.limit < n) c.number_at.ensures (ltb-true c.args.limit c.number_at.result test)),
      λ deep. lt-ltb c.args.limit c.number_at.result (subst (λ n. c.args.limit < n) (sym c.number_at.ensures) (both.1 deep)),
    )
