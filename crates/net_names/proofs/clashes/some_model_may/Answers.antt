use Rattle.std.proofs.Common.{List, [], inl, inr, subst, sym, ◌∙◌}
use Rattle.std.proofs.lemmas.List.{take_all}
use Rattle.pw_defs.specs.declared.model.Model.{Model}
use Rattle.design_defs.specs.Models.{HasWellFormedFields}
use Rattle.list_defs.specs.Members.{IsIn}
use Rattle.net_names.specs.Apart.{AreApart}
use Rattle.net_names.proofs.Marking.{in_more}
use Rattle.net_names.proofs.clashes.some_model_may.Goals as goal

pub loop-model-preserved : goal.loop-model-preserved
loop-model-preserved c m there =
    let x = c.model-item.result in
    elim (in_more c.args.models.now c.loop-model.model-index x m c.loop-model-test.true there) [
      | inl early ↦ c.loop-model.invariant m early
      | inr e ↦ subst (λ (z : Model). HasWellFormedFields z → AreApart [] z.ports) (c.model-item.is ∙ sym e) (c.in_ok-may.ensures c.if-may.false)
    ]

pub returns : goal.returns
returns c _ m there =
    c.loop-model.invariant m (subst (λ (ms : List Model). IsIn m ms) (sym (take_all c.loop-model.model-index c.args.models.now c.loop-model-test.false)) there)
