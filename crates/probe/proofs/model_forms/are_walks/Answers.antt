use Rattle.std.proofs.Common.{◌∙◌, subst}
use Rattle.list_defs.specs.Members.{IsIn}
use Rattle.probe.proofs.BareModels.{outward_walks}
use Rattle.probe.proofs.model_forms.are_walks.Goals as goal

pub returns : goal.returns
returns c said =
    outward_walks c.args.ports.now c.args.walks.now (c.have_walks.ensures.bits said ∙ c.as_slice-2.ensures.items ∙ c.in_ok-names.ensures.outputs)
    (c.have_walks.ensures.walks said c.args.ports.now (λ name there. subst (IsIn name) (c.as_slice.ensures.items ∙ c.in_ok-names.ensures.inputs) (c.in_ok-inputs.ensures name there)))
