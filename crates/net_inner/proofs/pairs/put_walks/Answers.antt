use Rattle.std.proofs.Common.{◌∙◌, ap}
use Rattle.std.specs.List.{flat_map}
use Rattle.std.proofs.lemmas.List.{take_all}
use Rattle.net_inner.specs.Pairs.{pairs_of_partial, with_pairs}
use Rattle.net_inner.proofs.PairLemmas.{pairs_more}
use Rattle.net_inner.proofs.pairs.put_walks.Goals as goal

pub loop-walk-preserved : goal.loop-walk-preserved
loop-walk-preserved c =
    pairs_more pairs_of_partial c.args.index.now c.args.walks.now c.loop-walk.walk-index c.walk-item.result c.args.sources.now.items c.loop-walk.sources.items
    c.put_partial.new.sources.items c.loop-walk-test.true c.walk-item.is c.loop-walk.invariant c.put_partial.ensures

pub returns : goal.returns
returns c =
    c.loop-walk.invariant
    ∙ ap (λ walks. with_pairs c.args.index.now (flat_map pairs_of_partial walks) c.args.sources.now.items) (take_all c.loop-walk.walk-index c.args.walks.now c.loop-walk-test.false)
