use Rattle.std.proofs.Common.{◌<◌, ◌∙◌, ◌++◌, ◌∷◌, [], refl, length, take, ap, sym, arith}
use Rattle.design_defs.specs.Models.{IsOutputWalk, bit_of_walk}
use Rattle.probe.proofs.BitLists.{each_more, front_more, map_more}
use Rattle.probe.proofs.model_forms.have_walks.Goals as goal

pub loop-at-preserved : goal.loop-at-preserved
loop-at-preserved c =
    let at = c.loop-at.at in
    let bits = c.args.bits.now in
    let walks = c.args.walks.now in
    let bit = c.index-bits-at.result in
    let walk = c.index-walks-at.result in
    let in_bits : at < length bits = omega (arith, c.loop-at-test.true, c.if-bits-walks.false) in (
      map_more walks at walk c.loop-at-test.true c.index-walks-at.is bit_of_walk
          ∙ ap (λ front. front ++ bit_of_walk walk ∷ []) c.loop-at.invariant.0
          ∙ ap (λ b. take at bits ++ b ∷ []) (c.if-not-is_walk.ensures.bit refl ∙ c.as_slice.ensures.bytes)
          ∙ sym (front_more bits at bit in_bits c.index-bits-at.is),
      λ ports among. each_more walks at walk c.loop-at-test.true c.index-walks-at.is (IsOutputWalk ports 0) (c.loop-at.invariant.1 ports among) (c.if-not-is_walk.ensures.walk refl ports among),
    )
