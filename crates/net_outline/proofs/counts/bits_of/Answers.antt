use Rattle.std.proofs.Common.{map, [], ◌∷◌, ◌++◌, sym, ap, ◌∙◌, arith}
use Rattle.std.specs.List.{range_with_len}
use Rattle.std.proofs.lemmas.List.FromFn.{map-range_with_len_more}
use Rattle.net_places.specs.Plans.{rows_at}
use Rattle.net_places.specs.Tables.{bits_in}
use Rattle.net_outline.specs.Outline.{bits_at}
use Rattle.net_outline.proofs.counts.bits_of.Goals as goal

pub loop-number-preserved : goal.loop-number-preserved
loop-number-preserved c =
    let number = c.loop-number.number in
    let f = bits_at c.args.plans.now c.args.kind in
    c.in_ok-push.ensures.items
    ∙ ap (λ all. all ++ c.bits.result ∷ []) c.loop-number.invariant
    ∙ ap (λ last. map f (range_with_len 0 number) ++ last ∷ []) (c.bits.ensures ∙ ap (λ body. bits_in (rows_at c.args.plans.now body)) c.body_of.ensures)
    ∙ sym (map-range_with_len_more f 0 number number (omega arith))
