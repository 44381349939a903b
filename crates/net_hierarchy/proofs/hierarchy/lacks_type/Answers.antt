use Rattle.std.proofs.Common.{◌≡◌, false, not, Option, None, Some, get_or, is_some, refl, subst, ap, ◌∙◌}
use Rattle.std.proofs.lemmas.Option.{slice_get-get_or}
use Rattle.list_defs.specs.Members.{IsIn}
use Rattle.list_defs.proofs.Members.{IsIn-slice_get}
use Rattle.pw_defs.specs.declared.design.Body.{Body}
use Rattle.net_hierarchy.proofs.hierarchy.lacks_type.Goals as goal

is_none : (o : Option Body) → is_some o ≡ false → o ≡ None
is_none None e = refl
is_none (Some b) e = cc

pub returns-then-is_none : goal.returns-then-is_none
returns-then-is_none c =
    let place = c.loop-item.item-index in
    let there = IsIn-slice_get c.args.row.now place _ (slice_get-get_or c.args.row.now place None c.loop-item-test.true) in
    let none : get_or c.args.row.now place None ≡ None = is_none _ (c.is_none.ensures ∙ ap not c.if-is_none.true) in
    (λ t. subst (λ o. IsIn o c.args.row.now) none there, λ i. refl)
