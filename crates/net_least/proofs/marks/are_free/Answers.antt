use Rattle.std.proofs.Common.{None, Some, get_or, take, [], ◌∷◌, sym, subst, inl, inr}
use Rattle.std.proofs.lemmas.List.{take_more}
use Rattle.pw_defs.specs.declared.design.Body.TheVariants.{Module as ModuleBody}
use Rattle.list_defs.specs.Members.{IsIn}
use Rattle.list_defs.proofs.Members.{IsIn-append_cases}
use Rattle.net_least.proofs.marks.are_free.Goals as goal

pub loop-item-preserved : goal.loop-item-preserved
loop-item-preserved c k one =
    let place = c.loop-item.item-index in
    let row = c.args.row.now in
    let more = subst (IsIn (Some (ModuleBody k))) (take_more row place None c.loop-item-test.true) one in
    elim (IsIn-append_cases (Some (ModuleBody k)) (take place row) (get_or row place None ∷ []) more) [
      | inl before ↦ c.loop-item.invariant k before
      | inr here ↦ elim here [ inl same ↦ c.is_free.ensures c.if-not-is_free.false k (sym same) | inr never ↦ absurd never ]
    ]
