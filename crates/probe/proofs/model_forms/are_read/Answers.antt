use Rattle.std.proofs.Common.{List, map, subst, sym}
use Rattle.pw_defs.specs.declared.model.Model.{Model}
use Rattle.list_defs.specs.Members.{IsIn}
use Rattle.design_defs.specs.Inputs.{AllDiffer}
use Rattle.probe.proofs.model_forms.are_read.Goals as goal

pub returns : goal.returns
returns c said = record {
  each = λ m there. c.in_ok-right.ensures said m (subst (IsIn m) (sym c.as_slice-2.ensures.items) there);
  names = subst (λ (models : List Model). AllDiffer (map (λ (m : Model). m.module) models)) c.as_slice.ensures.items (c.in_ok-have_own_names.ensures c.if-not-branch.false);
}
