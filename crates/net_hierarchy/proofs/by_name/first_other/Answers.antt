use Rattle.std.proofs.Common.{◌≡◌, take, length, ◌<◌, subst}
use Rattle.std.proofs.lemmas.List.{take_all, take_more}
use Rattle.net_hierarchy.specs.ByName.{IsOtherAmong}
use Rattle.net_hierarchy.proofs.NamesApart.{other_more}
use Rattle.net_hierarchy.proofs.by_name.first_other.Goals as goal

pub loop-model-preserved : goal.loop-model-preserved
loop-model-preserved c =
    let inside : c.loop-model.model-index < length c.args.models.now = c.loop-model-test.true in
    rw (take_more c.args.models.now c.loop-model.model-index c.model-item.result inside, ← c.model-item.is, c.lesser-least.ensures)
    (other_more c.args.kinds.now c.args.modules.now.modules (take c.loop-model.model-index c.args.models.now) c.model-item.result c.loop-model.least c.other_place.result c.loop-model.invariant c.other_place.ensures)

pub returns : goal.returns
returns c =
    let all : take c.loop-model.model-index c.args.models.now ≡ c.args.models.now = take_all c.loop-model.model-index c.args.models.now c.loop-model-test.false in
    subst (λ models. IsOtherAmong c.args.kinds.now c.args.modules.now.modules models c.loop-model.least) all c.loop-model.invariant
