use Rattle.std.proofs.Common.{◌++◌, ap, ◌∙◌}
use Rattle.pw_defs.specs.declared.design.Body.TheVariants.{Model}
use Rattle.port_order.specs.Listings.{numbers_of}
use Rattle.port_order.proofs.ListingLemmas.{next_body}
use Rattle.port_order.proofs.listing.of_models.Goals as goal

pub loop-n-preserved : goal.loop-n-preserved
loop-n-preserved c =
    let modules = c.args.modules.now in
    let cells = c.args.cells.now in
    let models = c.args.models.now in
    c.in_ok-of_body.ensures ∙ ap (λ numbers. numbers ++ numbers_of modules cells models (Model c.loop-n.n)) c.loop-n.invariant
    ∙ next_body modules cells models (λ n. Model n) c.args.numbers.now.items c.loop-n.n
