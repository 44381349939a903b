use Rattle.std.proofs.Common.{◌∙◌, ap}
use Rattle.std.specs.List.{flat_map}
use Rattle.std.proofs.lemmas.List.{take_all}
use Rattle.net_inner.specs.Pairs.{pairs_of_pin, with_pairs}
use Rattle.net_inner.proofs.PairLemmas.{pairs_more}
use Rattle.net_inner.proofs.pairs.put_pins.Goals as goal

pub loop-pin-preserved : goal.loop-pin-preserved
loop-pin-preserved c =
    pairs_more (pairs_of_pin c.args.through.now) c.args.index.now c.args.pins.now c.loop-pin.pin-index c.pin-item.result c.args.sources.now.items c.loop-pin.sources.items
    c.put_pin.new.sources.items c.loop-pin-test.true c.pin-item.is c.loop-pin.invariant c.put_pin.ensures

pub returns : goal.returns
returns c =
    c.loop-pin.invariant
    ∙ ap (λ pins. with_pairs c.args.index.now (flat_map (pairs_of_pin c.args.through.now) pins) c.args.sources.now.items) (take_all c.loop-pin.pin-index c.args.pins.now c.loop-pin-test.false)
