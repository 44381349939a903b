use Rattle.std.proofs.Common.{List, length, ap, ◌∙◌}
use Rattle.std.specs.Prelude.{slice_get}
use Rattle.pw_defs.specs.declared.cells.Cell.{Cell}
use Rattle.pw_defs.specs.declared.model.Model.{Model}
use Rattle.net_places.specs.declared.plans.Plans.{Plans}
use Rattle.net_places.proofs.Wholes.{all_plans}
use Rattle.net_places.proofs.plans.plans_of.Goals as goal

pub returns : goal.returns
returns c = λ s is.
    let p : Plans = record { modules = c.in_ok-modules.modules; cells = c.in_ok-cells.cells; models = c.in_ok-models.models } in
    all_plans c.args.modules.now c.args.cells.now c.args.models.now s is p c.in_ok-modules.ensures.len c.in_ok-modules.ensures.plans
    (c.in_ok-cells.ensures.len ∙ ap length c.as_slice.ensures.items)
    (λ k cell at. c.in_ok-cells.ensures.plans k cell (ap (λ (all : List Cell). slice_get all k) c.as_slice.ensures.items ∙ at))
    (c.in_ok-models.ensures.len ∙ ap length c.as_slice-2.ensures.items)
    (λ k model at. c.in_ok-models.ensures.plans k model (ap (λ (all : List Model). slice_get all k) c.as_slice-2.ensures.items ∙ at))
