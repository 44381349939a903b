use Rattle.std.proofs.Common.{List, [], subst}
use Rattle.pw_defs.specs.declared.model.Model.{Model}
use Rattle.design_defs.specs.Models.{HasWellFormedFields}
use Rattle.list_defs.specs.Members.{IsIn}
use Rattle.net_names.specs.Apart.{AreApart}
use Rattle.net_names.proofs.Freed.{none_clash}
use Rattle.net_names.proofs.clashes.may_clash.Goals as goal

pub returns : goal.returns
returns c s none modules models read named =
    none_clash s c.args.modules.now c.args.models.now modules models read named (c.in_ok-by_module.ensures c.if-by_module.false)
    (subst (λ (ms : List Model). (m : Model) → IsIn m ms → HasWellFormedFields m → AreApart [] m.ports) c.as_slice.ensures.items (c.in_ok-may.ensures none))
