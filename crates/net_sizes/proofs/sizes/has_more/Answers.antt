use Rattle.std.proofs.Common.{◌<◌, subst, sym}
use Rattle.std.proofs.lemmas.Bool.{lt-ltb, ltb-true}
use Rattle.net_sizes.proofs.More.{bits_below, instances_below, more_of_size}
use Rattle.net_sizes.specs.Sizes.{one_each}
use Rattle.net_sizes.proofs.sizes.has_more.Goals as goal

pub returns-clause-instances : goal.returns-clause-instances
returns-clause-instances c s named is =
    let sizes = more_of_size s one_each c.args.limit c.args.top c.args.sizes.now is in
    let both = instances_below s c.args.top c.args.limit named in (
      λ test. both.0 (sizes.0 (subst (λ n. c.args.limit < n) c.number_at.ensures (ltb-true c.args.limit c.number_at.result test))),
      λ many. lt-ltb c.args.limit c.number_at.result (subst (λ n. c.args.limit < n) (sym c.number_at.ensures) (sizes.1 (both.1 many))),
    )

pub returns-clause-bits : goal.returns-clause-bits
returns-clause-bits c s own named is spots =
    let sizes = more_of_size s own c.args.limit c.args.top c.args.sizes.now is in
    let both = bits_below s own c.args.top c.args.limit named spots in (
      λ test. both.0 (sizes.0 (subst (λ n. c.args.limit < n) c.number_at.ensures (ltb-true c.args.limit c.number_at.result test))),
      λ many. lt-ltb c.args.limit c.number_at.result (subst (λ n. c.args.limit < n) (sym c.number_at.ensures) (sizes.1 (both.1 many))),
    )
