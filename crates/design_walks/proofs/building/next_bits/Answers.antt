use Rattle.std.proofs.Common.{◌∙◌, ◌++◌, ◌∷◌, [], arith, ap, sym}
use Rattle.design_walks.proofs.TrailLemmas.{next_bits_more}
use Rattle.design_walks.proofs.building.next_bits.Goals as goal

pub loop-n-preserved : goal.loop-n-preserved
loop-n-preserved c =
    let bits = c.args.design.now.bits in
    let n = c.loop-n.n in
    c.in_ok-push.ensures.items ∙ ap (λ xs. xs ++ c.next.result ∷ []) c.loop-n.invariant
    ∙ sym (next_bits_more bits n c.next.result (omega (arith, c.loop-n-test.true, c.len_bits-n-end.ensures)) c.next.ensures)
