use Rattle.std.proofs.Common.{◌∙◌, ap}
use Rattle.design_defs.specs.Ranges.{bit_name}
use Rattle.probe.proofs.BitLists.{place_more}
use Rattle.probe.proofs.model_bits.add_bits.Goals as goal

pub loop-place-preserved : goal.loop-place-preserved
loop-place-preserved c =
    let p = c.args.port.now in
    place_more (bit_name p.name p.range) c.args.names.now c.loop-place.names c.push.new.self c.loop-place.place c.in_ok-name.name c.loop-place.invariant
    (c.in_ok-name.ensures ∙ ap (λ n. bit_name n p.range c.loop-place.place) c.as_slice.ensures.bytes) c.in_ok-push.ensures.ok
