use Rattle.std.proofs.Common.{map, ap, ◌∙◌}
use Rattle.std.specs.List.{range_with_len}
use Rattle.net_outline.specs.declared.counts.BodyKind.TheVariants.{Module as OfModule, Cell as OfCell, Model as OfModel}
use Rattle.net_outline.specs.Outline.{bits_at}
use Rattle.net_outline.proofs.Counting.{bits_counted}
use Rattle.net_outline.proofs.counts.bit_counts.Goals as goal

pub returns : goal.returns
returns c s of plans =
    let p = c.args.plans.now in
    bits_counted c.args.modules.now c.args.cells.now c.args.models.now s of c.args.modules.now.symbols c.args.plans.now plans
    (record { modules = c.in_ok-bits_of.field-0; cells = c.in_ok-bits_of-2.field-0; models = c.in_ok-bits_of-3.field-0 })
    (c.in_ok-bits_of.ensures ∙ ap (λ count. map (bits_at p OfModule) (range_with_len 0 count)) c.len.ensures)
    (c.in_ok-bits_of-2.ensures ∙ ap (λ count. map (bits_at p OfCell) (range_with_len 0 count)) c.len-2.ensures)
    (c.in_ok-bits_of-3.ensures ∙ ap (λ count. map (bits_at p OfModel) (range_with_len 0 count)) c.len-3.ensures)
